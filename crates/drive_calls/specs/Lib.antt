pub mod Driven
pub mod Examples
pub mod Promises
pub mod Claims
pub mod Internal
