mod Choices
mod Numbers
mod OneCommand
pub mod OnlyAuto
mod Pairs
mod Passing
mod Signs
mod Split
mod Table
mod Written
mod WrittenPairs
