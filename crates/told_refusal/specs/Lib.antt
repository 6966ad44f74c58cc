pub mod Settled
pub mod SettledLaws
pub mod Leaves
pub mod LeavesLaws
pub mod Taken
pub mod TakenLaws
