-- Bounds that may be evaluated anywhere in the outermost loop.
pub mod PlainValues
pub mod Executions
