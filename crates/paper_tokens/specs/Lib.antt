pub mod Kinds
pub mod Forms
pub mod Tokens
pub mod Words
pub mod Lexical
pub mod Terminals
pub mod Literals
