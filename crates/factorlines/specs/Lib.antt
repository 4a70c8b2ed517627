pub mod FactorLines
pub mod Reading
