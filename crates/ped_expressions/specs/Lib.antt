pub mod ConditionReading
pub mod ExpressionReading
pub mod Readings
pub mod Scanning
pub mod Views
