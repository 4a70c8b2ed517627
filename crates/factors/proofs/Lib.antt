pub mod TableLaws
pub mod SearchLaws
pub mod TenthLaws
pub mod DecibelLaws
pub mod ConversionLaws
pub mod Theorems
