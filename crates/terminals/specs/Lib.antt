pub mod Numbers
pub mod Every
pub mod Match
