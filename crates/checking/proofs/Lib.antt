pub mod Held
pub mod Resolvents
pub mod Checked
