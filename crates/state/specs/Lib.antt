pub mod Cell
pub mod Layout
pub mod Items
