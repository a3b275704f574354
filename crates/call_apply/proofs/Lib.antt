pub mod Pushing
pub mod Midway
