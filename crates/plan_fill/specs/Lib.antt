pub mod Rounds
pub mod Waiting
pub mod Filling
