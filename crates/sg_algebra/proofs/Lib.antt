pub mod Ring
pub mod Cancelling
pub mod Comparisons
pub mod Edges
