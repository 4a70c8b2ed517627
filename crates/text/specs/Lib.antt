pub mod Bytes
pub mod Numbers
pub mod Decimal
pub mod Lines
pub mod Buffer
pub mod Reading
pub mod Answering
pub mod Sheets
