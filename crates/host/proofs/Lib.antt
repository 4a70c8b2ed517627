mod HostLaws
pub mod HostGuaranteed
