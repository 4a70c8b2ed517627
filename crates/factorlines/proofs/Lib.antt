pub mod LengthLaws
pub mod ReadingLaws
pub mod KeptLaws
pub mod InputLaws
pub mod Theorems
pub mod FromLaws
