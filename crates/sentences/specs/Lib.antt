pub mod Alike
pub mod Slips
pub mod SlipsLaws
