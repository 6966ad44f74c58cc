pub mod WordsLaws
pub mod FormsLaws
pub mod LexicalLaws
pub mod StuckLaws
pub mod LexicalTwin
pub mod LexicalRows
pub mod LiteralRows
pub mod TerminalLaws
