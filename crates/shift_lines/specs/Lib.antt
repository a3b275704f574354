pub mod Shifts
pub mod Internal
