pub mod Lists
pub mod Numbers
pub mod Picked
pub mod Rising
pub mod Versioned
pub mod CellKeys
pub mod Helds
pub mod Keys
