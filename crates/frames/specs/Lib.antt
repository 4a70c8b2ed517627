pub mod Blocks
pub mod Conformance
pub mod Cases
pub mod Promises
pub mod steps
