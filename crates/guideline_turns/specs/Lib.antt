pub mod Made
pub mod TurnLaws
