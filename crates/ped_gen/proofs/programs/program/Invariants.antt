use Rattle.std.proofs.Common.{◌≡◌, ◌++◌, ◌+◌}
use Rattle.ped_gen.specs.Generated as Spec
use Rattle.ped_gen.proofs.Texts.{left_from, last}
use Rattle.ped_gen.proofs.programs.program.Given as goal

abbrev pub invariant-loop-nest : goal.invariant-loop-nest
invariant-loop-nest l = l.text ++ left_from Spec.later_nest last l.nest (l.nests + 1) ≡ Spec.program l.nests
