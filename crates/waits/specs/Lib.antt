pub mod Booleans
pub mod Twins
pub mod Antecedents
pub mod Worked
pub mod Shows
pub mod Arrays
