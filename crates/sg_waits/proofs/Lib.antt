pub mod Chains
pub mod Choice
pub mod Finds
pub mod Named
pub mod Walks
