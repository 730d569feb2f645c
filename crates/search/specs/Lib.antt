pub mod Stacks
pub mod States
