pub mod Sums
pub mod Entered
pub mod Folding
