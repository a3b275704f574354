pub mod Told
pub mod Exported
pub mod Reported
