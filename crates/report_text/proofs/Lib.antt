pub mod Pieces
pub mod Cards
pub mod Short
