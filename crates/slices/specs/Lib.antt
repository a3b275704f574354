pub mod Bytes
pub mod Put
pub mod Same
pub mod Order
pub mod Claims
