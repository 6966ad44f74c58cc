pub mod Totals
pub mod Tests
pub mod Least
