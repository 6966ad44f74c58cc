pub mod Rows
pub mod Levels
pub mod Views
pub mod Made
pub mod Larger
pub mod Around
pub mod StepLaws
