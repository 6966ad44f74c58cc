pub mod Lists
pub mod Literals
pub mod Texts
pub mod Joined
