pub mod Grants
pub mod Mirrors
