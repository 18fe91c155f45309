use Rattle.std.proofs.Common.{take}
use Rattle.ped_links.specs.Ranking.{RiseFrom}
use Rattle.ped_links.proofs.ranking.rise_from.Given as goal

abbrev pub invariant-loop-to : goal.invariant-loop-to
invariant-loop-to l = RiseFrom l.ranks l.from (take l.to-index l.ends)
