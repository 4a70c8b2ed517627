pub mod HostListing
pub mod HostGuarantee
pub mod HostGain
pub mod HostFrame
pub mod steps
