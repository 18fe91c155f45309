use Rattle.std.proofs.Common.{◌≡◌, ℕ, ◌<◌, get_or}
use Rattle.ped_verdict.specs.declared.sights.Sight.{Sight}
use Rattle.ped_verdict.specs.Sights.{StaysOpen}
use Rattle.ped_verdict.proofs.walks.any_stays_open.Given as goal

-- no position so far leaves the front open
abbrev pub invariant-loop-sight : goal.invariant-loop-sight
invariant-loop-sight l = (k : ℕ) (s : Sight) → k < l.sight-index → get_or l.sights k s ≡ s → ¬ (StaysOpen l.view l.front s)
