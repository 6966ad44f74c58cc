pub mod Twin
pub mod Worked
