pub mod Sinks
pub mod Back
