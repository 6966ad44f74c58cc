pub mod BackLaws
pub mod Machine
pub mod Quotes
pub mod QuotesLaws
pub mod Reading
pub mod ReadingLaws
pub mod Records
pub mod RecordsLaws
