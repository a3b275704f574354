pub mod Cutdown
pub mod Kept
pub mod Claims
