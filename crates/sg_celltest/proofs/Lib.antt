pub mod Rectangle
pub mod Insides
pub mod Thirds
pub mod Outside
pub mod EdgePoints
pub mod Found
pub mod Closed
pub mod Constant
pub mod Corners
mod Once
