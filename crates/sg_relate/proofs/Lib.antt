pub mod Held
pub mod Named
pub mod Places
pub mod Speaking
pub mod Possible
pub mod AtPoint
pub mod Settled
