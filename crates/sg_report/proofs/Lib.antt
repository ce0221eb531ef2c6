pub mod Entries
pub mod Fronts
pub mod Committed
pub mod Sounds
pub mod Sums
