pub mod LogLeft
pub mod Six
pub mod Counts
pub mod Readers
pub mod Bound
pub mod Lost
pub mod Asked
