mod Courses
pub mod Trials
