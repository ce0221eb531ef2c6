pub mod Patterns
pub mod Unique
pub mod RingLemmas
pub mod BoundsLemmas
pub mod Equal
pub mod Limits
pub mod Examples
