use Rattle.std.proofs.Common.{◌≡◌, ◌++◌, drop}
use Rattle.ped_eval.proofs.inner_names.add_all.Given as goal

abbrev pub invariant-loop-name : goal.invariant-loop-name
invariant-loop-name l = l.names ++ drop l.name-index l.more ≡ l.initial.names ++ l.more
