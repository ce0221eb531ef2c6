pub mod Sound
pub mod Texts
pub mod Laws
pub mod Labels
pub mod Fitting
pub mod Told
