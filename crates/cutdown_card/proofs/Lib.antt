pub mod Into
pub mod Sizes
pub mod Refreshed
