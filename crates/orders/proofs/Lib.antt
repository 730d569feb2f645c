pub mod Choosing
pub mod Adding
