use Rattle.std.proofs.Common.{map, drop}
use Rattle.ped_tree.specs.Views.{expr_tree, stmt_tree}
use Rattle.ped_calls.specs.Binding.{BindsOn}
use Rattle.ped_calls.specs.Giving.{given_of, HasNext}
use Rattle.ped_calls.specs.Meaning.{meanings_of}
use Rattle.ped_calls.proofs.binding.bind.Given as goal

abbrev pub invariant-loop-place : goal.invariant-loop-place
invariant-loop-place l = record {
  binds : BindsOn l.constants l.formals (map expr_tree l.arguments) (meanings_of l.initial.meanings) (map stmt_tree l.initial.front.items) (given_of l.initial.given)
      (map expr_tree (drop l.place l.arguments)) l.place (meanings_of l.meanings) (map stmt_tree l.front.items) (given_of l.given);
  next : HasNext l.given;
}
