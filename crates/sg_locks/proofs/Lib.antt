pub mod GrantLaws
pub mod TableLaws
