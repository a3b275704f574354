pub mod Widths
pub mod Names
pub mod Pieces
