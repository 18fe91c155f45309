use Rattle.std.proofs.Common.{◌≡◌, ◌==◌, ℕ, map, filter, not}
use Rattle.std.specs.List.{range_with_len}
use Rattle.ped_rules.specs.KeepMaps.{closed_up}
use Rattle.ped_splits.proofs.joining.kept_up_to.Given as goal

abbrev pub invariant-loop-n : goal.invariant-loop-n
invariant-loop-n l = l.keep ≡ filter (λ (p : ℕ × ℕ). not (p.0 == l.number)) (map (λ (k : ℕ). (k, closed_up l.number k)) (range_with_len 1 l.n))
