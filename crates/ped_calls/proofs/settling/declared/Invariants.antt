use Rattle.std.proofs.Common.{◌≡◌, ◌++◌, map}
use Rattle.ped_tree.specs.Views.{decl_tree}
use Rattle.ped_calls.proofs.settling.declared.Given as goal

abbrev pub invariant-loop-array : goal.invariant-loop-array
invariant-loop-array l = map decl_tree l.all.items ≡ map decl_tree l.initial.all.items ++ map decl_tree l.yielded
