pub mod Mentions
pub mod Ahead
