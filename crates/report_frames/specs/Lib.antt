pub mod Seen
pub mod Tally
pub mod Claims
