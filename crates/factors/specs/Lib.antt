pub mod Table
pub mod Decibels
pub mod Conversion
pub mod Cases
pub mod Promises
