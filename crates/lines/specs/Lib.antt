pub mod Kept
pub mod Run
pub mod RunLaws
