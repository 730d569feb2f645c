pub mod Scan
pub mod Steps
pub mod Form
pub mod Laws
