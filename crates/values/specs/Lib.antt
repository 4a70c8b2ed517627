pub mod Signed
pub mod Codes
pub mod Gain
pub mod Offset
pub mod Language
pub mod Values
