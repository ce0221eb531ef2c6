pub mod Keys
pub mod Rows
pub mod Sat
pub mod Replies
pub mod Transactions
pub mod Serial
pub mod Places
pub mod Takes
