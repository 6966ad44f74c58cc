pub mod Offer
pub mod Spelling
pub mod Quotes
