pub mod Lists
pub mod Flaws
