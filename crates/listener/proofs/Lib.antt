mod ListedLaws
mod RestLaws
mod FillLaws
pub mod StepLaws
mod AnswerLaws
pub mod WrittenLaws
pub mod TakenLaws
mod StartedLaws
