use Rattle.std.proofs.Common.{◌≡◌, false, replicate}
use Rattle.ped_links.proofs.reaching.falses.Given as goal

abbrev pub invariant-loop : goal.invariant-loop
invariant-loop l = l.falses.items ≡ replicate l.counter false
