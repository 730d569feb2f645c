pub mod Listed
pub mod Whole
pub mod Listing
