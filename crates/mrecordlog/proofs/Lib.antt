pub mod Telling
pub mod Leaving
