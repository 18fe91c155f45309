use Rattle.std.proofs.Common.{Bool, [], ◌∷◌, ◌++◌, sym, ap, subst, ◌∙◌, if◌then◌else◌}
use Rattle.ped_tree.specs.Views.{stmt_trees}
use Rattle.ped_tree.specs.Views.{head_of}
use Rattle.ped_flow.specs.Events.{clears, copied}
use Rattle.ped_flow.specs.Summaries.{passing, of_manner}
use Rattle.ped_flow.specs.Rows.{Holds}
use Rattle.ped_flow.specs.declared.summaries.Summary.{Summary}
use Rattle.ped_flow.specs.declared.row_summaries.RowSummary.{RowSummary}
use Rattle.ped_flow.proofs.SumLaws.{cleared}
use Rattle.ped_flow.proofs.EventRows.{if_ok}
use Rattle.ped_flow.proofs.row_loops.leaving.Goals as goal

pub returns-clause-width : goal.returns-clause-width
returns-clause-width c = if_ok c.cleared.result (λ r w. w ∙ c.in_ok-left.ensures.width) c.cleared.ensures.width

pub returns-clause-held : goal.returns-clause-held
returns-clause-held c =
    let d = c.args.d.now in
    let names = (if d.parallel then d.variable ∷ [] else []) ++ copied (head_of d) (stmt_trees d.body.items) in
    if_ok c.cleared.result
    (λ (r : RowSummary) h n k x i at. subst (λ (m : Summary). Holds r i m)
    (ap (λ (z : Bool). if z then of_manner clears 0 else passing) (c.in_ok-left.ensures.row k x i at) ∙ sym (cleared x n names)) (h i))
    c.cleared.ensures.held
