pub mod ChunkLaws
pub mod NumberLaws
pub mod HeadLaws
pub mod ReadingLaws
pub mod Theorems
