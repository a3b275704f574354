pub mod Between
pub mod Sizes
pub mod Short
pub mod Example
