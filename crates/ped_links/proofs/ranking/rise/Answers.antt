use Rattle.std.proofs.Common.{◌≡◌, ◌<◌, ℕ, List, [], true, false, get_or, refl, sym, subst, ◌∙◌, arith}
use Rattle.ped_links.specs.ArrowViews.{ends_of}
use Rattle.ped_units.specs.Linking.{IsIn}
use Rattle.ped_links.proofs.Reached.{leads_within}
use Rattle.ped_links.proofs.Ranked.{rise_to, rise_to_all}
use Rattle.ped_links.proofs.ranking.rise.Goals as goal

no_truth : false ≡ true → ⊥
no_truth h = absurd cc

pub rise_from-requires-clause-ends : goal.rise_from-requires-clause-ends
rise_from-requires-clause-ends c n i =
    let below = c.ends.ensures.below n i in
    omega (arith, below, c.requires)

pub returns-then-not-rise_from : goal.returns-then-not-rise_from
returns-then-not-rise_from c =
    (λ h. absurd (no_truth h), λ rise. absurd (no_truth (sym c.if-not-rise_from.true ∙ c.rise_from.ensures.1 (rise_to_all c.args.ranks.now c.loop-from.from c.ends.result.now (λ j i. rise c.loop-from.from j (subst (λ (ns : List ℕ). IsIn j ns) c.ends.ensures.ends i))))))

pub returns : goal.returns
returns c = (
  λ h i j l.
      let within = leads_within (ends_of c.args.arrows.now) i j l in
      let below : i < c.loop-from.from = omega (arith, within, c.count-from-end.ensures, c.loop-from-test.false) in
      rise_to c.args.ranks.now i j (get_or (ends_of c.args.arrows.now) i []) (c.loop-from.invariant i below) l,
  λ r. refl,
)
