mod NumberLaws
pub mod BytesLaws
pub mod DecimalLaws
mod LineLaws
pub mod BufferLaws
pub mod AnsweringLaws
pub mod KeptLaws
