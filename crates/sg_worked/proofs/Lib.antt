pub mod Settling
pub mod Found
pub mod Phantom
pub mod Deadlock
pub mod OwnGap
