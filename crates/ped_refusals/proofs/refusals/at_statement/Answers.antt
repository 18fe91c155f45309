use Rattle.std.proofs.Common.{Bool, map, ap, ◌∙◌}
use Rattle.ped_tree.specs.Grammar.Refusal.{Limit, refused_if, earliest}
use Rattle.ped_tree.specs.Grammar.ItemViews.{entry_of}
use Rattle.ped_tree.specs.Grammar.RefusalViews.{found_of}
use Rattle.ped_refusals.specs.OpenContexts.{context_of}
use Rattle.ped_refusals.proofs.Parts.{statement_parts}
use Rattle.ped_refusals.proofs.refusals.at_statement.Goals as goal

pub returns : goal.returns
returns c =
    let third = found_of c.at_loops-found.result in
    statement_parts c.args.saved.now (context_of c.args.context.now) (entry_of c.args.entry.now) (map entry_of c.args.rest.now)
    (found_of c.args.found) (found_of c.at_directives.result) (found_of c.at_places-found.result) third (found_of c.standing.result)
    c.at_directives.ensures c.at_places-found.ensures c.at_loops-found.ensures
    (c.standing.ensures ∙ ap (λ (passes : Bool). earliest third (refused_if passes Limit c.args.entry.now.statement.line)) c.is_past_limit-passes.ensures)
