use Rattle.std.proofs.Common.{◌≡◌, ◌∙◌, ap, sym, subst, ℕ, false, Option}
use Rattle.ped_views.specs.Views.{View}
use Rattle.ped_views.specs.SameViews.{same_view}
use Rattle.ped_graph.specs.Held.{pair_by}
use Rattle.ped_update.specs.Matching.{IsPlace}
use Rattle.ped_update.proofs.OneMore.{other_place, same_place}
use Rattle.ped_update.proofs.matching.origin.Goals as goal

pub returns-in_default : goal.returns-in_default
returns-in_default g c = λ keep f once table key.
    sym (subst (λ (o : Option ℕ). IsPlace c.args.former.now.graph.now keep (pair_by f c.args.view.now) o) c.in_default.is (c.former_place_of.ensures.place keep f c.args.view.now once table key))

pub returns-then-same : goal.returns-then-same
returns-then-same g c = λ keep f once table key.
    let G = c.args.former.now.graph.now in
    let place = subst (λ (o : Option ℕ). IsPlace G keep (pair_by f c.args.view.now) o) c.in-Some.is (c.former_place_of.ensures.place keep f c.args.view.now once table key) in
    same_place G keep (pair_by f c.args.view.now) c.in-Some.here c.verdict.result.now place c.verdict.ensures (sym c.view.ensures ∙ c.same.ensures.equal.0 c.if-same.true)

pub returns : goal.returns
returns g c = λ keep f once table key.
    let G = c.args.former.now.graph.now in
    let place = subst (λ (o : Option ℕ). IsPlace G keep (pair_by f c.args.view.now) o) c.in-Some.is (c.former_place_of.ensures.place keep f c.args.view.now once table key) in
    let other : same_view c.verdict.result.now c.args.view.now ≡ false = ap (λ (v : View). same_view v c.args.view.now) (sym c.view.ensures) ∙ sym c.same.ensures.same ∙ c.if-same.false in
    other_place G keep (pair_by f c.args.view.now) c.in-Some.here c.verdict.result.now place c.verdict.ensures other
