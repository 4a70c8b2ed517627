pub mod Clashes
pub mod Ranges
pub mod Members
pub mod Shares
pub mod Figures
pub mod Lists
pub mod Promises
pub mod Cases
