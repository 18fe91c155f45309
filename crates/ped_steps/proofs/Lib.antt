pub mod Answering
pub mod Followed
pub mod OneCause
pub mod OnePlace
pub mod RunLaws
