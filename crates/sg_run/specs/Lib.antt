pub mod Ends
pub mod Courses
pub mod Runs
pub mod Inside
pub mod Turns
pub mod Nexts
pub mod Opens
