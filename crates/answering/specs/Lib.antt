pub mod Decided
pub mod DecidedLaws
pub mod Reply
pub mod Stages
pub mod Laws
