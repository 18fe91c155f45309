use Rattle.std.proofs.Common.{ℕ, List, [], ap, ◌∙◌}
use Rattle.ped_base.specs.Lists.{is_among}
use Rattle.ped_tree.specs.NamesIn.{all_loop_variables}
use Rattle.ped_tree.specs.Names.Collecting.{with_names}
use Rattle.ped_tree.specs.Views.{stmt_trees}
use Rattle.ped_tree.proofs.NameLaws.Collected.{among_collected}
use Rattle.ped_links.proofs.assigning.indexes.Goals as goal

pub returns : goal.returns
returns c x =
    let variables = all_loop_variables (stmt_trees c.args.statements.now) in
    ap (is_among x) c.in_ok-add_indexes.ensures
    ∙ ap (λ (names : List (List ℕ)). is_among x (with_names names variables)) c.new-names.ensures
    ∙ among_collected x [] variables
