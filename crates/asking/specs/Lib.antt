pub mod Asks
pub mod Assigned
pub mod Published
