pub mod Agreement
pub mod Held
pub mod Keys
pub mod Writes
