mod AdviceLines
mod DeterminedReduction
pub mod LawfulTable
pub mod OneAdvice
mod SerialCounts
mod StepAnswers
pub mod StepKinds
pub mod Growing
