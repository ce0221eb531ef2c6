pub mod Moved
pub mod Changes
pub mod Finished
