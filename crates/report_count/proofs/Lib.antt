pub mod Cells
pub mod Plus
pub mod Turns
