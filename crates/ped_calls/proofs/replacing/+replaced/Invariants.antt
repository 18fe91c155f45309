use Rattle.std.proofs.Common.{◌≡◌, map, take}
use Rattle.ped_tree.specs.Views.{expr_tree}
use Rattle.ped_links.specs.ped_units.specs.Expanding.{replaced}
use Rattle.ped_calls.specs.Meaning.{meanings_of}
use Rattle.ped_calls.proofs.replacing.+replaced.Given as goal

abbrev pub invariant-all_replaced-loop-e : goal.invariant-all_replaced-loop-e
invariant-all_replaced-loop-e l = map expr_tree l.all.items ≡ map (replaced (meanings_of l.m)) (map expr_tree (take l.e-index l.exprs))
