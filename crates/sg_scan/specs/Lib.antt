pub mod Hits
pub mod Scans
pub mod Loads
pub mod Cursors
