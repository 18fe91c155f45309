use Rattle.std.proofs.Common.{◌≡◌, length}
use Rattle.ped_links.proofs.ranking.count_up.Given as goal

abbrev pub invariant-loop-number : goal.invariant-loop-number
invariant-loop-number l = length l.counts ≡ length l.initial.counts
