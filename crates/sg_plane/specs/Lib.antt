pub mod Samples
pub mod Forms
pub mod Decisions
pub mod Claims
pub mod Reach
