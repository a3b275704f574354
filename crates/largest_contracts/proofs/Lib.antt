pub mod Balance
pub mod Lent
pub mod Since
pub mod Examples
