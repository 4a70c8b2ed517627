pub mod RunLaws
pub mod OrdinalLaws
mod TrackLaws
