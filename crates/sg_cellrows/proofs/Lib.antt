pub mod Following
pub mod NextCells
pub mod Mirrors
pub mod SeenCells
