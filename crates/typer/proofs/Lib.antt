pub mod TypedLaws
pub mod FittingLaws
pub mod LeavesLaws
