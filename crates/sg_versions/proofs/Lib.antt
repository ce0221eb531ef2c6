pub mod Orders
pub mod Listings
pub mod Settling
pub mod Rooms
pub mod Indexes
