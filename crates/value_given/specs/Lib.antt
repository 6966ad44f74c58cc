pub mod Given
pub mod Cells
pub mod Kinds
pub mod Bounds
pub mod Made
pub mod Worked
