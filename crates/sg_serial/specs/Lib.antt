pub mod Told
pub mod Claims
