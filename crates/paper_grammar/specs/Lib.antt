pub mod Nonterminals
pub mod Cfg
pub mod Grammar
pub mod Sentence
