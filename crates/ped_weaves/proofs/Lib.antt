pub mod WeaveLaws
