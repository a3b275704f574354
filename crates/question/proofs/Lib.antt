pub mod QuestionsKept
pub mod RangeFound
pub mod BlockKept
