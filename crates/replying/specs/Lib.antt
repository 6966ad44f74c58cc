pub mod Replying
pub mod Ready
pub mod Moved
pub mod Trues
pub mod OneReply
