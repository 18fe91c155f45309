use Rattle.std.proofs.Common.{◌≡◌, ◌||◌, List, ℕ, drop}
use Rattle.std.specs.List.{list_any}
use Rattle.ped_base.specs.Lists.{is_among}
use Rattle.ped_tree.specs.NamesIn.{private_names_in}
use Rattle.ped_tree.specs.Nests.{Loop}
use Rattle.ped_tree.specs.Tree.{Do}
use Rattle.ped_tree.specs.Views.{head_of, stmt_trees}
use Rattle.ped_refs.specs.Loops.{nest_of}
use Rattle.ped_reduce.proofs.privacy.is_some_private.Given as goal

abbrev pub invariant-loop-name : goal.invariant-loop-name
invariant-loop-name l =
    list_any (λ (x : List ℕ). is_among x (private_names_in (Do (head_of l.d) (stmt_trees l.d.body.items))) || list_any (λ (m : Loop). is_among x m.head.private) (nest_of l.round)) (drop l.name-index l.names)
    ≡ list_any (λ (x : List ℕ). is_among x (private_names_in (Do (head_of l.d) (stmt_trees l.d.body.items))) || list_any (λ (m : Loop). is_among x m.head.private) (nest_of l.round)) l.names
