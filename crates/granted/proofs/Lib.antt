mod PlaceLaws
mod NamedLaws
pub mod SameLaws
