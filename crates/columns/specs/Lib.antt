pub mod Columns
pub mod Clean
pub mod Replies
