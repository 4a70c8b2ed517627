pub mod WordLaws
pub mod IndexLaws
