use Rattle.std.proofs.Common.{◌≡◌, length}
use Rattle.ped_links.specs.Reaching.{AreBelow}
use Rattle.ped_links.proofs.ranking.count_down.Given as goal

abbrev pub invariant-loop-number : goal.invariant-loop-number
invariant-loop-number l = record {
  wide : length l.counts ≡ length l.initial.counts;
  waiting : AreBelow (length l.initial.counts) l.waiting.items;
}
