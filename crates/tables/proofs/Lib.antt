pub mod MarkLaws
pub mod TableLaws
pub mod CoverLaws
