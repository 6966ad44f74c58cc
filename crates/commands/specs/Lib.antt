pub mod Words
pub mod Names
pub mod Times
pub mod Commands
pub mod ScanLaws
