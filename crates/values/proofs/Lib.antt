pub mod Texts
pub mod Lists
