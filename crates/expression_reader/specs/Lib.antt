pub mod Single
pub mod Laws
pub mod Loops
pub mod Reads
