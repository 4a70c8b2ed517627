mod CommandLaws
mod AnswerLaws
mod PutLaws
mod ListingLaws
pub mod BenchGuaranteed
pub mod InputLaws
