pub mod Within
pub mod Bounds
pub mod Refusing
pub mod Left
pub mod Sums
pub mod Claims
