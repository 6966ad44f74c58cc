pub mod Outcomes
pub mod Loading
pub mod Reading
