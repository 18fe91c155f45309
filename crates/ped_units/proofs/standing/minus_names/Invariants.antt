use Rattle.std.proofs.Common.{◌≡◌, drop}
use Rattle.ped_tree.specs.Views.{expr_tree}
use Rattle.ped_units.specs.Reading.{minus_names}
use Rattle.ped_units.proofs.standing.minus_names.Given as goal

abbrev pub invariant-loop-name : goal.invariant-loop-name
invariant-loop-name l = minus_names (expr_tree l.e) (drop l.name-index l.names) ≡ minus_names (expr_tree l.initial.e) l.names
