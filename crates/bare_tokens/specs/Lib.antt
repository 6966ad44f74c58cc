pub mod Listed
pub mod ListedLaws
pub mod Bare
pub mod BareLaws
