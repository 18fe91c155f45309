use Rattle.std.proofs.Common.{◌<◌}
use Rattle.ped_bits.specs.Places.{Has}
use Rattle.ped_splits.proofs.ArrowLaws.{HasAdded}
use Rattle.ped_splits.proofs.arrows.link.Given as goal

abbrev pub invariant-loop-unit : goal.invariant-loop-unit
invariant-loop-unit l = HasAdded l.initial.arrows l.arrows (λ i j. (i < l.unit) × (Has l.units i × Has l.units j))
