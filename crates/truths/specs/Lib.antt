pub mod Part
pub mod Truth
