pub mod NoughtLaws
mod ObjectLaws
mod ScreenedLaws
mod SetLaws
mod TotalLaws
