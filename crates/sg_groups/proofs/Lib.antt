pub mod GroupLaws
pub mod FirstItems
