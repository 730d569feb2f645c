pub mod Worked
pub mod Trials
