pub mod Serials
pub mod Alike
pub mod Places
pub mod Ordered
pub mod Told
