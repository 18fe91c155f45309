pub mod ActLaws
pub mod RunLaws
pub mod FlowRunLaws
pub mod CoveringLaws
pub mod ConflictLaws
pub mod PlainLaws
