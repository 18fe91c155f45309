use Rattle.std.proofs.Common.{◌≡◌, ◌∙◌, true, ap, length, sym, subst}
use Rattle.std.proofs.lemmas.Result.{IfOk-weaker}
use Rattle.ped_links.specs.ArrowViews.{ends_of}
use Rattle.ped_links.specs.Ranking.{Rise}
use Rattle.ped_links.proofs.Ranked.{marked_all}
use Rattle.ped_links.proofs.ranking.may_return.Goals as goal

pub returns-clause-marked : goal.returns-clause-marked
returns-clause-marked c =
    let ends = ends_of c.args.arrows.now in
    let ranks = c.deref-2.result.now in
    let same = c.deref.ensures.value ∙ sym c.deref-2.ensures.value in
    let rise : c.rise-rising.result ≡ true → Rise ends ranks = λ t. subst (Rise ends) same (c.rise-rising.ensures.0 t) in
    let wide : length ranks ≡ length ends = ap length c.deref-2.ensures.value ∙ c.in_ok-ranks.ensures in
    IfOk-weaker c.unranked.result _ _ (λ marks e. marked_all ends ranks c.rise-rising.result marks.items rise wide e) c.unranked.ensures
