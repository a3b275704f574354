pub mod Le
pub mod Claims
