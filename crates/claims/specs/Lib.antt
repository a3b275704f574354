pub mod ReadsOn
pub mod Asks
pub mod Claims
