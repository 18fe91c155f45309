pub mod Timeline
