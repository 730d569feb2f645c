pub mod Cuts
pub mod Tables
pub mod Views
pub mod Hands
pub mod Readings
pub mod Clients
pub mod Left
