use Rattle.std.proofs.Common.{◌∙◌, ap, refl, ◌++◌}
use Rattle.std.proofs.lemmas.Result.{IfOk-weaker}
use Rattle.ped_tree.specs.Views.{stmt_tree}
use Rattle.ped_symbols.specs.Uses.{own_uses}
use Rattle.ped_symbols.proofs.Walking.{over_statement}
use Rattle.ped_symbols.proofs.statements.own.Goals as goal

pub returns : goal.returns
returns c =
    IfOk-weaker c.at_site.result _ _
    (λ next at. over_statement c.args.known.now c.args.kinds.now c.at_site.new.kinds c.args.found c.counted.result next c.deref.result.now _ (stmt_tree c.args.statement.now) at
    c.counted.ensures.first c.counted.ensures.lines c.counted.ensures.until
    (c.deref.ensures.value ∙ c.in_ok-push_own.ensures ∙ ap (λ us. us ++ own_uses (stmt_tree c.args.statement.now)) c.new-uses.ensures.items)
    c.in_ok-rejects_twice.ensures c.stmt_fails.ensures refl c.is_none_left.ensures)
    c.at_site.ensures
