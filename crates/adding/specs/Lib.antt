pub mod Put
pub mod Item
pub mod Add
