pub mod Run
pub mod Guarantee
pub mod Played
pub mod ScriptSheets
pub mod Scripts
