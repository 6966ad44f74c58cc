pub mod Table
pub mod Bare
pub mod Load
