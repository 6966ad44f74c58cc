pub mod Lexemes
pub mod LexemesLaws
pub mod Places
pub mod PlacesLaws
pub mod Scripts
pub mod Values
pub mod ValuesLaws
pub mod Worked
