pub mod Owned
pub mod Walk
pub mod WalkLaws
