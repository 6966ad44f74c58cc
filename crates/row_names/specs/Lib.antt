pub mod Pieces
pub mod Selected
pub mod Sheet
pub mod Shape
pub mod Flat
pub mod Agreement
pub mod Owners
