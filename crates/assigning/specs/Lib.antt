pub mod Gather
pub mod Store
