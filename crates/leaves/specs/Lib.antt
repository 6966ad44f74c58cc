pub mod Source
pub mod Cells
pub mod Numbers
pub mod Places
pub mod Names
pub mod Leaf
