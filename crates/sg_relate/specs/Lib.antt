pub mod Boxes
pub mod Deciding
