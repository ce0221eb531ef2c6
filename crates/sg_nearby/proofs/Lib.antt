pub mod Points
mod Beside
mod Shorter
mod Thinning
mod Rings
