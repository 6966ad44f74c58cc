pub mod Limit
pub mod Lists
pub mod Longest
pub mod Named
pub mod Texts
pub mod Joined
