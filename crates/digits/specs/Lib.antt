pub mod Appends
pub mod AppendsLaws
pub mod Digits
pub mod Signed
