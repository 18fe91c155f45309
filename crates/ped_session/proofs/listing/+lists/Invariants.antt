use Rattle.std.proofs.Common.{◌≡◌, drop}
use Rattle.ped_tree.specs.Views.{stmt_trees}
use Rattle.ped_session.specs.Listing.{some_holds_list}
use Rattle.ped_session.proofs.listing.+lists.Given as goal

abbrev pub invariant-some_holds_list-loop-statement : goal.invariant-some_holds_list-loop-statement
invariant-some_holds_list-loop-statement l =
    some_holds_list (stmt_trees (drop l.statement-index l.statements)) ≡ some_holds_list (stmt_trees l.statements)
