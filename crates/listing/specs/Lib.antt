pub mod Digits
pub mod Writing
pub mod Listing
pub mod Internal
pub mod Passes
pub mod Claims
