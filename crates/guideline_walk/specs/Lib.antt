pub mod Made
pub mod TotalLaws
pub mod TextLaws
pub mod LoopLaws
pub mod Encodes
pub mod Surveyed
