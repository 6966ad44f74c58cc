pub mod Rows
pub mod Review
