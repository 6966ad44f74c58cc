pub mod Told
pub mod OneOf
