use Rattle.std.proofs.Common.{ℕ, List, ap, ◌∙◌}
use Rattle.ped_tree.specs.NamesIn.{stmts_names}
use Rattle.ped_tree.specs.Names.Collecting.{with_names}
use Rattle.ped_tree.specs.Views.{stmt_trees}
use Rattle.ped_links.specs.ped_units.specs.Units.{all_with_calls}
use Rattle.ped_links.specs.ped_units.specs.Expanding.{naming_arguments}
use Rattle.ped_links.specs.ped_units.proofs.CollectedNames.{collected}
use Rattle.ped_calls.proofs.occurring.body_names.Goals as goal

pub returns : goal.returns
returns c =
    let names = stmts_names (all_with_calls naming_arguments (stmt_trees c.args.statements.now)) in
    c.in_ok-add_statements.ensures ∙ ap (λ (before : List (List ℕ)). with_names before names) c.new-names.ensures ∙ collected names
