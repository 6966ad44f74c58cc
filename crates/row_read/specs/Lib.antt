pub mod Found
pub mod Read
