mod CoefficientSteps
mod Extremes
mod FormLaws
pub mod IntervalEnds
mod PositionSteps
pub mod Surrounding
mod ViewLimits
