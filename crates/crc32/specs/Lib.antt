pub mod Crc
pub mod Wide
pub mod Burst
pub mod Claims
