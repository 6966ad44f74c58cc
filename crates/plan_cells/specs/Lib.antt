pub mod Finds
pub mod Spots
