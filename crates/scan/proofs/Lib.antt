pub mod Tested
pub mod Scanned
