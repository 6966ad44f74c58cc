pub mod Firsts
pub mod Rules
pub mod Types
