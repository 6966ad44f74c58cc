pub mod Cert
pub mod Steps
pub mod Ends
pub mod Symbols
