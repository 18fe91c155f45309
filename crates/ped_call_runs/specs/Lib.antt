pub use Rattle.ped_calls
pub use Rattle.ped_steps
pub mod UnitRuns
pub mod UnitFaults
