-- Lemmas of the room that this folder is named after.
mod Advices
mod Alike
mod Autos
mod BlockCauses
mod ChainCauses
pub mod Counts
mod DistributeCauses
mod FuseCauses
pub mod Edges
pub mod Files
mod LoopCauses
mod InterchangeCauses
mod ReindexCauses
mod FirstCauses
mod LoopPaths
pub mod Lowerings
mod Refusing
pub mod Replying
mod Reporting
mod ScalarCauses
mod SumCauses
