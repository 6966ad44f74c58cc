pub mod Signs
pub mod Table
