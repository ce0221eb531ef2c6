pub mod Modes
pub mod Priorities
pub mod Sessions
pub mod Victims
pub mod Waits
pub mod Words
