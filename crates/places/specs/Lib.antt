-- Squared distances, places on the map and what is refused of them, and places in another order.
pub mod Distances
pub mod Places
pub mod Around
pub mod Order
