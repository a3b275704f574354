pub mod Given
pub mod Costs
pub mod Claims
