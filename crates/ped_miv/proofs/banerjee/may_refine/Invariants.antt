use Rattle.std.proofs.Common.{◌≡◌, ℕ, ◌<◌, Some, slice_get, IsTrue}
use Rattle.ped_views.specs.Views.{SubscriptPair}
use Rattle.ped_views.specs.Excluded.{IsBeyondExtremes}
use Rattle.ped_miv.proofs.banerjee.may_refine.Given as goal

-- no position so far is a dead end
abbrev pub invariant-loop-position : goal.invariant-loop-position
invariant-loop-position l = (k : ℕ) (p : SubscriptPair) → k < l.position-index → slice_get l.view.positions k ≡ Some p → ¬ (IsTrue p.usable × IsBeyondExtremes l.view p l.prefix)
