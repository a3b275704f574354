pub mod PowerCut
pub mod Since
pub mod On
pub mod Blocks
