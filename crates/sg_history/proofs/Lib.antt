pub mod Beginnings
pub mod Seats
pub mod Looking
pub mod Giving
pub mod Scripts
pub mod Writing
pub mod Staying
pub mod Making
