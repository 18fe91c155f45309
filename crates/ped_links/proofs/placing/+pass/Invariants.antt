use Rattle.std.proofs.Common.{◌≡◌, List, map, take}
use Rattle.ped_tree.specs.Tree.{Head}
use Rattle.ped_tree.specs.Views.{stmt_trees}
use Rattle.ped_units.specs.ped_valid.specs.ped_symbols.specs.Sites.{stmts_sites}
use Rattle.ped_units.specs.Linking.{all_calls_in}
use Rattle.ped_links.specs.Placing.{around_of, placed_call, Passes}
use Rattle.ped_links.proofs.placing.+pass.Given as goal

abbrev pub invariant-pass_all-loop-statement : goal.invariant-pass_all-loop-statement
invariant-pass_all-loop-statement l = (loops : List Head) → l.around ≡ around_of loops → Passes l.formals (stmts_sites (stmt_trees (take l.statement-index l.statements)))
    (map placed_call (all_calls_in loops l.initial.walk.lines.now (stmt_trees (take l.statement-index l.statements)))) l.initial.walk.found l.initial.walk.lines.now l.walk.found l.walk.lines.now
