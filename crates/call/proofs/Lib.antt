pub mod Staying
pub mod Calling
