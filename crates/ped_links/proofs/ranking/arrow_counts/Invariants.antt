use Rattle.std.proofs.Common.{◌≡◌, length}
use Rattle.ped_links.specs.ArrowViews.{ends_of}
use Rattle.ped_links.proofs.ranking.arrow_counts.Given as goal

abbrev pub invariant-loop-from : goal.invariant-loop-from
invariant-loop-from l = length l.counts.items ≡ length (ends_of l.arrows)
