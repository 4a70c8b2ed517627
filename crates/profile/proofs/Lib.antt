pub mod BoolLaws
pub mod CountingLaws
pub mod GroupLaws
pub mod ListLaws
mod PlaceLaws
pub mod SetLaws
pub mod SumLaws
pub mod RisingLaws
pub mod VerdictLaws
pub mod HeaderLaws
pub mod AcceptedLaws
mod RangeLaws
