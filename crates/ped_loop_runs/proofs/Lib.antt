pub mod PastingLaws
pub mod TidyLaws
pub mod LoopLaws
