use Rattle.std.proofs.Common.{Bool, sym, ap, subst, ◌∙◌, if◌then◌else◌}
use Rattle.ped_tree.specs.Views.{stmt_trees}
use Rattle.ped_tree.specs.Views.{head_of}
use Rattle.ped_flow.specs.Events.{clears, copied}
use Rattle.ped_flow.specs.Summaries.{passing, of_manner}
use Rattle.ped_flow.specs.Rows.{Holds}
use Rattle.ped_flow.specs.declared.summaries.Summary.{Summary}
use Rattle.ped_flow.proofs.SumLaws.{cleared}
use Rattle.ped_flow.proofs.EventRows.{if_ok}
use Rattle.ped_flow.proofs.row_loops.starting.Goals as goal

pub returns-clause-held : goal.returns-clause-held
returns-clause-held c = if_ok c.cleared.result (λ r made n k x i at.
    let names = copied (head_of c.args.d.now) (stmt_trees c.args.d.now.body.items) in
    subst (λ (m : Summary). Holds r i m)
    (ap (λ (b : Bool). if b then of_manner clears 0 else passing) (c.in_ok-copies.ensures.row k x i at) ∙ sym (cleared x n names))
    (made i))
    c.cleared.ensures.held
