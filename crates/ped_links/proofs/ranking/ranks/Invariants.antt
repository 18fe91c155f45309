use Rattle.std.proofs.Common.{◌≡◌, length}
use Rattle.ped_links.specs.ArrowViews.{ends_of}
use Rattle.ped_links.specs.Reaching.{AreBelow}
use Rattle.ped_links.proofs.ranking.ranks.Given as goal

abbrev pub invariant-loop-rank : goal.invariant-loop-rank
invariant-loop-rank l = record {
  counts : length l.counts.items ≡ length (ends_of l.arrows);
  ranks : length l.ranks.items ≡ length (ends_of l.arrows);
  waiting : AreBelow (length (ends_of l.arrows)) l.waiting.items;
}
