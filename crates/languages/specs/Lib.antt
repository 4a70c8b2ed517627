pub mod Undivided
pub mod steps
