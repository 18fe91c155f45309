use Rattle.std.proofs.Common.{◌≡◌, drop}
use Rattle.ped_base.specs.Lists.{is_among}
use Rattle.ped_tree.specs.Views.{stmt_trees}
use Rattle.ped_tree.specs.NamesIn.{all_private_names_in}
use Rattle.ped_rules.proofs.privacy.+private.Given as goal

abbrev pub invariant-is_private_among-loop-statement : goal.invariant-is_private_among-loop-statement
invariant-is_private_among-loop-statement l =
    is_among l.name (all_private_names_in (stmt_trees (drop l.statement-index l.statements))) ≡ is_among l.name (all_private_names_in (stmt_trees l.statements))
