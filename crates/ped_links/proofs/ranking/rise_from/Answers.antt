use Rattle.std.proofs.Common.{◌≡◌, ◌≤◌, true, false, length, get_or, take, refl, sym, subst, ◌∙◌, arith, take_all}
use Rattle.std.proofs.lemmas.List.{take_more}
use Rattle.ped_links.specs.Ranking.{RiseFrom}
use Rattle.ped_links.proofs.Added.{in_at}
use Rattle.ped_links.proofs.Ranked.{rise_to, rise_more}
use Rattle.ped_links.proofs.ranking.rise_from.Goals as goal

pub rises-requires-clause-to : goal.rises-requires-clause-to
rises-requires-clause-to c = c.requires.ends (get_or c.args.ends.now c.loop-to.to-index 0) (in_at c.args.ends.now c.loop-to.to-index (omega arith))

no_truth : false ≡ true → ⊥
no_truth h = absurd cc

pub returns-then-not-rises : goal.returns-then-not-rises
returns-then-not-rises c =
    let to = get_or c.args.ends.now c.loop-to.to-index 0 in
    (λ h. absurd (no_truth h), λ r. absurd (no_truth (sym c.if-not-rises.true ∙ c.rises.ensures.1 (rise_to c.args.ranks.now c.args.from to c.args.ends.now r (in_at c.args.ends.now c.loop-to.to-index (omega arith))))))

pub loop-to-preserved : goal.loop-to-preserved
loop-to-preserved c =
    let i = c.loop-to.to-index in
    let ends = c.args.ends.now in
    subst (RiseFrom c.args.ranks.now c.args.from) (sym (take_more ends i 0 (omega arith))) (rise_more c.args.ranks.now c.args.from (get_or ends i 0) (take i ends) c.loop-to.invariant (c.rises.ensures.0 c.if-not-rises.false))

pub returns : goal.returns
returns c =
    let ended : length c.args.ends.now ≤ c.loop-to.to-index = omega arith in
    (λ h. subst (RiseFrom c.args.ranks.now c.args.from) (take_all c.loop-to.to-index c.args.ends.now ended) c.loop-to.invariant, λ r. refl)
