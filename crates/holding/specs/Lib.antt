pub mod Holding
pub mod Values
pub mod Shown
pub mod OneState
pub mod Elsewhere
