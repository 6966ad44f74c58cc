pub mod LexerLaws
pub mod LoadingLaws
pub mod TextsLaws
pub mod FromTextsLaws
pub mod FlukeLaws
