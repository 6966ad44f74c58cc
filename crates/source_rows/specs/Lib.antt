pub mod SourceLaws
pub mod SourceRow
