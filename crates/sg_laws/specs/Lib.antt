pub mod Changes
pub mod Invariant
pub mod Ends
pub mod Reading
pub mod Claims
