pub mod Stages
pub mod Least
pub mod Limits
pub mod Judged
pub mod JudgedLaws
