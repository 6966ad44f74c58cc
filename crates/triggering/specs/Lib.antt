pub mod Hit
pub mod Trigger
