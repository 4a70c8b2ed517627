pub mod LineLaws
pub mod LongInput
