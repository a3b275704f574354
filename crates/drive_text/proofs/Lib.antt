pub mod Asked
pub mod Turning
pub mod Opening
pub mod Parts
