use Rattle.std.proofs.Common.{sym, ◌∙◌}
use Rattle.ped_tree.specs.Views.{stmt_trees}
use Rattle.ped_tree.specs.NamesIn.{all_loop_variables}
use Rattle.ped_flow.specs.RowMarks.{names_in}
use Rattle.ped_flow.proofs.RowSummaries.{less_wide, union_wide}
use Rattle.ped_flow.proofs.EventRows.{trips_loose, trips_indices}
use Rattle.ped_flow.proofs.row_loops.tripping.Goals as goal

pub invariant_of-result : goal.invariant_of-result
invariant_of-result c =
    let b = c.args.body.now in
    let wide = c.in_ok-indices.ensures.width in
    let w = c.in_ok-summaries.ensures.width in
    record {
      loose_wide = less_wide b.loose _ _ _ c.in_ok-loose.ensures (b.loose_wide ∙ c.requires.body ∙ sym w) (wide ∙ sym w);
      indices_wide = union_wide _ b.indices _ _ c.or_into.ensures (wide ∙ sym w) (b.indices_wide ∙ c.requires.body ∙ sym w);
    }

pub returns-clause-part : goal.returns-clause-part
returns-clause-part c = λ n f o k h.
    let names = names_in c.args.places.now in
    let b = c.args.body.now in
    let y = c.args.d.now.variable in
    let variables = all_loop_variables (stmt_trees c.args.d.now.body.items) in
    let wide = c.in_ok-indices.ensures.width in
    let at_y = c.in_ok-indices.ensures.row in
    record {
      width = c.in_ok-summaries.ensures.width;
      summaries = λ x i at. c.in_ok-summaries.ensures.held n _ k.indices x i at (h x i at);
      loose = trips_loose names b f o variables y k _ at_y wide _ c.in_ok-loose.ensures;
      indices = trips_indices names b f o variables y k _ at_y wide _ c.or_into.ensures;
    }
