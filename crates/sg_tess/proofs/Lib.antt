pub mod Within
pub mod Looks
pub mod Steps
pub mod Listing
mod Narrow
mod Distant
