use Rattle.std.proofs.Common.{◌≡◌, map, take}
use Rattle.ped_tree.specs.Views.{stmt_tree}
use Rattle.ped_tree.proofs.+copy_stmt.Given as goal

abbrev pub invariant-copying::statements::copy_stmts-loop-stmt :
    goal.invariant-copying::statements::copy_stmts-loop-stmt
invariant-copying::statements::copy_stmts-loop-stmt l =
    map stmt_tree l.copies.items ≡ map stmt_tree (take l.stmt-index l.stmts)
