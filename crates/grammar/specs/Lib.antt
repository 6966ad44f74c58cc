pub mod Tables
pub mod Machine
pub mod Reply
pub mod ReplyLaws
