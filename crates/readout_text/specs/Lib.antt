pub mod Card
pub mod Kept
pub mod Claims
