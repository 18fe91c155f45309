use Rattle.std.proofs.Common.{◌∙◌, sym, arith}
use Rattle.std.proofs.lemmas.Result.{on_ok_weaker}
use Rattle.ped_graph.specs.Held.{pair_by}
use Rattle.ped_update.proofs.OneMore.{keeps_matched, tests_matched, kept_untested, fresh_tested}
use Rattle.ped_update.proofs.matching.match_view.Goals as goal

pub returns-in-Some-clause-parts : goal.returns-in-Some-clause-parts
returns-in-Some-clause-parts g c = on_ok_weaker c.keep_verdict.result (λ keeps keep f once table key.
    keeps_matched c.args.former.now.graph.now keep (pair_by f c.args.view) c.args.parts.now _ c.in-Some.here (sym c.in-Some.is ∙ c.origin.ensures keep f once table key) keeps)
    c.keep_verdict.ensures.kept

pub returns-in-Some-clause-ticks : goal.returns-in-Some-clause-ticks
returns-in-Some-clause-ticks g c = λ keep f once table key.
    let none = kept_untested c.args.former.now.graph.now keep (pair_by f c.args.view) c.in-Some.here (sym c.in-Some.is ∙ c.origin.ensures keep f once table key) in
    omega (arith, none)

pub returns-clause-parts : goal.returns-clause-parts
returns-clause-parts g c = on_ok_weaker c.add_verdict.result (λ adds keep f once table key.
    tests_matched c.args.former.now.graph.now keep (pair_by f c.args.view) c.args.parts.now _ (sym c.in_default.is ∙ c.origin.ensures keep f once table key) adds)
    c.add_verdict.ensures.added

pub returns-clause-ticks : goal.returns-clause-ticks
returns-clause-ticks g c = λ keep f once table key.
    let one = fresh_tested c.args.former.now.graph.now keep (pair_by f c.args.view) (sym c.in_default.is ∙ c.origin.ensures keep f once table key) in
    let tick = c.add_verdict.ensures.tick in
    omega (arith, one, tick)
