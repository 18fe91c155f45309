use Rattle.std.proofs.Common.{◌≡◌, [], replicate}
use Rattle.ped_links.specs.Reaching.{ends_in}
use Rattle.ped_links.proofs.reaching.no_ends.Given as goal

abbrev pub invariant-loop : goal.invariant-loop
invariant-loop l = ends_in l.ends.items ≡ replicate l.counter []
