pub mod Places
pub mod Moving
pub mod Held
pub mod MovedKeys
pub mod Firsts
pub mod Written
pub mod Writing
pub mod Finishing
