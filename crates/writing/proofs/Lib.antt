pub mod Putting
pub mod Filling
pub mod Pieces
pub mod Sizes
