pub mod Means
pub mod Comes
pub mod Twins
