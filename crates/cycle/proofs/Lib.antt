-- Laws, each at its most general place; the crates above cite them.
pub mod Every
pub mod Parity
pub mod Sum
pub mod Count
pub mod First
pub mod Pigeonhole
pub mod Ranking
pub mod Digits
pub mod Lists
pub mod Bits
pub mod Iterate
pub mod Cycle
pub mod FirstReturn
pub mod Inverse
pub mod Period
pub mod Skew
pub mod Remainder
