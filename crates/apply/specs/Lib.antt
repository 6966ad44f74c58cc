pub mod Tasks
pub mod TaskLaws
pub mod IsIn
pub mod Applies
