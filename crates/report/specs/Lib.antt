pub mod Layout
pub mod Feed
pub mod Internal
pub mod Claims
