pub mod Edges
pub mod Figure
pub mod Shapes
pub mod Grown
