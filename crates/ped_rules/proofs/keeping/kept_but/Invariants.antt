use Rattle.std.proofs.Common.{◌≡◌, ℕ, map, filter, not}
use Rattle.std.specs.List.{range_with_len}
use Rattle.ped_rules.specs.KeepMaps.{is_between}
use Rattle.ped_rules.proofs.keeping.kept_but.Given as goal

abbrev pub invariant-loop-n : goal.invariant-loop-n
invariant-loop-n l = l.keep ≡ filter (λ (p : ℕ × ℕ). not (is_between l.first l.last p.0)) (map (λ (n : ℕ). (n, n)) (range_with_len 1 l.n))
