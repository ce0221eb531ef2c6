pub mod SoundRows
pub mod PastRows
pub mod Loading
pub mod Committed
