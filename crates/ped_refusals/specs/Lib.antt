pub mod OpenBlocks
pub mod OpenContexts
