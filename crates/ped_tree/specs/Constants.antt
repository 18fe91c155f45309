-- Named constants and constant expressions.
pub mod ConstantExpressions
pub mod NamedConstants
