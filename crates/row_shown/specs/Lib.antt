pub mod Shown
pub mod Cells
