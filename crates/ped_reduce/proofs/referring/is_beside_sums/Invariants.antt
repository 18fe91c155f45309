use Rattle.std.proofs.Common.{◌≡◌, drop}
use Rattle.ped_base.specs.Lists.{is_among}
use Rattle.ped_refs.specs.Occurrences.{name_text}
use Rattle.ped_reduce.proofs.referring.is_beside_sums.Given as goal

abbrev pub invariant-loop-name : goal.invariant-loop-name
invariant-loop-name l = is_among (name_text l.occurrence.name) (drop l.name-index l.names) ≡ is_among (name_text l.occurrence.name) l.names
