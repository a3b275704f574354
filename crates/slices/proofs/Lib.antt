pub mod Bytes
pub mod Put
pub mod Equal
pub mod Ordered
pub mod Stored
pub mod Moved
