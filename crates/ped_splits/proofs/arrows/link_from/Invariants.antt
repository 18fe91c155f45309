use Rattle.std.proofs.Common.{◌≡◌, ◌<◌}
use Rattle.ped_bits.specs.Places.{Has}
use Rattle.ped_splits.proofs.ArrowLaws.{HasAdded}
use Rattle.ped_splits.proofs.arrows.link_from.Given as goal

abbrev pub invariant-loop-other : goal.invariant-loop-other
invariant-loop-other l = HasAdded l.initial.arrows l.arrows (λ i j. (j < l.other) × ((i ≡ l.unit) × Has l.units j))
