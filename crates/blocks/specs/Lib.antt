pub mod Blocks
pub mod Ranges
