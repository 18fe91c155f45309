use Rattle.std.proofs.Common.{◌≡◌, ◌++◌, drop, filter, not}
use Rattle.ped_base.specs.Lists.{is_among}
use Rattle.ped_refusals.proofs.saving.without.Given as goal

abbrev pub invariant-loop-name : goal.invariant-loop-name
invariant-loop-name l = l.rest ++ filter (λ x. not (is_among x l.others)) (drop l.name-index l.names) ≡ filter (λ x. not (is_among x l.others)) l.names
