pub mod Plan
pub mod Answers
pub mod Internal
