-- The state of a session: that of the versions of its program (ParaScope; this project).
pub use Rattle.ped_versions.specs.States.{Other, State, opened, changed_to, gone_back_to, gone_forward_to}
