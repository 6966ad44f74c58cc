pub mod Writes
pub mod Filled
pub mod Puts
pub mod Laws
