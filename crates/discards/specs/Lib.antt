pub mod Twins
pub mod DiscardLaws
