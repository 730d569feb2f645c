pub mod Putting
pub mod Digits
pub mod Laid
pub mod Steps
