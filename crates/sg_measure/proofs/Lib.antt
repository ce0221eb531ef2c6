pub mod Falls
pub mod Weigh
pub mod EachFalls
pub mod Counted
pub mod Unbegun
