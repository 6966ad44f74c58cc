pub mod Lists
pub mod Summary
pub mod Compound
pub mod Leaves
pub mod Typed
pub mod Fitting
