use Rattle.std.proofs.Common.{◌≡◌, drop}
use Rattle.ped_tree.specs.Constants.NamedConstants.{value_named}
use Rattle.ped_eval.proofs.named.constant_in_line.Given as goal

abbrev pub invariant-loop-place : goal.invariant-loop-place
invariant-loop-place l = value_named (drop l.place l.consts) l.name ≡ value_named l.consts l.name
