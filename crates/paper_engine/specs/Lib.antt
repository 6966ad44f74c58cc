pub mod Conditions
pub mod Operations
pub mod Cycle
