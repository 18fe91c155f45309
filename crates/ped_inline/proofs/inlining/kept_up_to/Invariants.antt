use Rattle.std.proofs.Common.{◌≡◌, ℕ, map}
use Rattle.std.specs.List.{range_with_len}
use Rattle.ped_rules.specs.KeepMaps.{opened_at}
use Rattle.ped_inline.proofs.inlining.kept_up_to.Given as goal

abbrev pub invariant-loop-n : goal.invariant-loop-n
invariant-loop-n l = l.keep ≡ map (λ (k : ℕ). (opened_at l.number k, k)) (range_with_len 1 l.n)
