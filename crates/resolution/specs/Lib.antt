pub mod Letters
pub mod Resolution
pub mod Allowed
