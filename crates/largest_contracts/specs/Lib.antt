pub mod Since
pub mod Balance
pub mod Promises
pub mod Claims
