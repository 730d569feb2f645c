pub mod Refusals
pub mod Checked
pub mod Kept
pub mod Settled
pub mod Replies
pub mod Traceless
pub mod Living
