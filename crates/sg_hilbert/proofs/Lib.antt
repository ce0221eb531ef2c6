pub mod Sides
pub mod Undo
pub mod Neighbours
pub mod Examples
