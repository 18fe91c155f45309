mod Leading
pub mod OneCourse
mod Cutting
mod Named
mod Whole
mod LeftLoops
mod EachName
mod Outcomes
mod Still
mod ScalarNames
mod Attempting
mod Rounding
mod Falling
mod FurtherRounding
mod Accepted
pub mod OfStrategy
pub mod SomeCourse
