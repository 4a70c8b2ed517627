pub mod Checked
pub mod steps
