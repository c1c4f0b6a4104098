-- Laws of signed numbers, of squared distances, of what is on the map, and of places in another order.
pub mod Signed
pub mod Distances
pub mod Places
pub mod Order
