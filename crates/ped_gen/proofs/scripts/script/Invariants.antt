use Rattle.std.proofs.Common.{◌≡◌, ◌++◌, ◌+◌, []}
use Rattle.ped_gen.specs.Generated as Spec
use Rattle.ped_gen.proofs.Texts.{left_from}
use Rattle.ped_gen.proofs.scripts.script.Given as goal

abbrev pub invariant-loop-nest : goal.invariant-loop-nest
invariant-loop-nest l = l.text ++ left_from Spec.commands [] l.nest (l.nests + 1) ≡ Spec.script l.nests
