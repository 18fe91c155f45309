use Rattle.std.proofs.Common.{◌≡◌, map, take, not, ℕ}
use Rattle.std.specs.Prelude.{◌||◌, ◌==◌}
use Rattle.ped_links.proofs.ranking.unranked.Given as goal

abbrev pub invariant-loop-rank : goal.invariant-loop-rank
invariant-loop-rank l = l.marks.items ≡ map (λ (r : ℕ). not l.rising || (r == 0)) (take l.rank-index l.ranks)
