pub mod Logs
pub mod Backs
pub mod Views
pub mod Weights
pub mod GoingBack
pub mod Keeping
pub mod GoingOn
pub mod Sheets
