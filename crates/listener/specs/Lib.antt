pub mod State
pub mod Programme
pub mod Sound
pub mod Calls
pub mod Listing
pub mod StartListing
pub mod steps
