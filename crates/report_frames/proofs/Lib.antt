pub mod Stands
pub mod Ahead
pub mod Claims
pub mod Places
