pub mod Scans
pub mod Elements
pub mod Sums
pub mod Picks
