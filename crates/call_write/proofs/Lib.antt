pub mod Building
pub mod Planned
pub mod Answering
