pub mod Answers
pub mod Listed
pub mod TaskLaws
pub mod TaskRow
