pub mod Opened
pub mod Initial
