pub mod OneVerdict
pub mod RefusedTexts
pub mod WithoutLines
