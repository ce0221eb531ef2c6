pub mod Ranks
pub mod Search
pub mod Standing
