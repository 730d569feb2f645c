pub mod Desks
pub mod Taken
