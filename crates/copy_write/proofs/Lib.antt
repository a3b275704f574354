pub mod Plans
pub mod Steps
