pub mod Table
pub mod Searched
pub mod Equal
pub mod Least
pub mod EncodedSheet
