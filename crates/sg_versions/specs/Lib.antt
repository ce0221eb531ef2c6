pub mod Versions
pub mod Writers
