pub mod History
pub mod PastKeys
pub mod Steps
pub mod Runs
pub mod StoreSteps
pub mod Walks
pub mod Crosses
