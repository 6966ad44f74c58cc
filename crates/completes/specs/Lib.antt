pub mod Twins
pub mod CompleteLaws
