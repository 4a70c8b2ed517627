pub mod LengthLaws
pub mod LongInput
