pub mod Lexer
pub mod Reader
pub mod Loading
pub mod Texts
pub mod FromTexts
pub mod Fluke
