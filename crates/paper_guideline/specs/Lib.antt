pub mod Tree
pub mod LeftOut
pub mod Structure
pub mod Parts
pub mod Limits
pub mod Names
pub mod Refusals
pub mod Line
