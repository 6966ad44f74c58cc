pub mod NameLaw
pub mod AttributeLaw
