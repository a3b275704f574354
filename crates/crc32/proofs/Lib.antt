pub mod Xor
pub mod Steps
pub mod Entries
pub mod Parts
pub mod Wide
pub mod Burst
pub mod Claims
