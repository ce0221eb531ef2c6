pub mod Looks
pub mod Opening
pub mod Taking
pub mod Crosses
