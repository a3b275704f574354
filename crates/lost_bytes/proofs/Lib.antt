pub mod Events
pub mod Within
pub mod Costs
pub mod Once
pub mod Records
pub mod Hit
pub mod Struck
