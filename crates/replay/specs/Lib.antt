pub mod Rows
pub mod RowsLaws
pub mod Calls
pub mod CallsLaws
pub mod Worked
pub mod Scripts
