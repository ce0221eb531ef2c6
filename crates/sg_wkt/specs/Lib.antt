pub mod Tokens
pub mod Numbers
pub mod Grammar
pub mod Cursors
pub mod Canonical
pub mod Spelled
pub mod Faults
pub mod Laws
