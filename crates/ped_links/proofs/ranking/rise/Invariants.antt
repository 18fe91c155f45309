use Rattle.std.proofs.Common.{ℕ, ◌<◌, [], get_or}
use Rattle.ped_links.specs.ArrowViews.{ends_of}
use Rattle.ped_links.specs.Ranking.{RiseFrom}
use Rattle.ped_links.proofs.ranking.rise.Given as goal

abbrev pub invariant-loop-from : goal.invariant-loop-from
invariant-loop-from l = (i : ℕ) → i < l.from → RiseFrom l.ranks i (get_or (ends_of l.arrows) i [])
