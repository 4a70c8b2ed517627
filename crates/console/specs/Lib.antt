pub mod Commands
pub mod Answers
pub mod Bench
pub mod LineCases
