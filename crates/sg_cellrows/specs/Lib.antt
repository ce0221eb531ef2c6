pub mod CellTable
pub mod Nexts
