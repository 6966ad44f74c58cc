pub mod Names
pub mod Nearest
pub mod NameLaws
