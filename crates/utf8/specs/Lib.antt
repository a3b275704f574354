pub mod Utf8
pub mod Octets
pub mod Claims
pub mod Wanted
