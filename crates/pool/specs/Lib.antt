pub mod Written
pub mod WrittenLaws
pub mod Pooled
pub mod Columns
pub mod Held
pub mod Beside
