pub mod Reached
pub mod Demands
pub mod Advice
