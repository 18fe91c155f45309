use Rattle.std.proofs.Common.{rules, ◌≡◌, ◌≤◌, ◌+◌, ◌<◌, [], ◌∷◌, ◌++◌, List, map, drop, get_or, pos, ap, sym, subst, ◌∙◌, arith, FitsSigned, w64}
use Rattle.std.proofs.lemmas.Int.{to_z-of_z}
use Rattle.ped_base.specs.Dimensions.{Dimensions, dimensions}
use Rattle.ped_tree.specs.Views.{bound_tree}
use Rattle.ped_tree.specs.declared.declarations.Bound.{Bound}
use Rattle.ped_links.specs.ped_units.specs.Expanding.{literal_bounds}
use Rattle.ped_calls.specs.Giving.{HasSmallBounds}
use Rattle.ped_calls.proofs.LiteralBounds.{bound_more, no_bound, small_lower, small_upper}
use Rattle.ped_calls.proofs.giving.literal_bounds.Goals.{then-loop-place-test+else-place-lt7, else-loop-place-test}
use Rattle.ped_calls.proofs.giving.literal_bounds.Goals as goal

pub literal_bound-requires-clause-lower : goal.literal_bound-requires-clause-lower
literal_bound-requires-clause-lower c =
    let b = c.bounds.inside in
    let i = c.loop-place.place in
    let l = get_or b.lower i (pos 0) in
    let fits : FitsSigned w64 l = search rules in
    let small = subst HasSmallBounds (sym c.bounds.view_is) c.requires in
    rw to_z-of_z (small_lower b i c.bounds.invariant (omega (arith, c.loop-place-test.true)) small)

pub literal_bound-requires-clause-upper : goal.literal_bound-requires-clause-upper
literal_bound-requires-clause-upper c =
    let b = c.bounds.inside in
    let i = c.loop-place.place in
    let u = get_or b.upper i (pos 0) in
    let fits : FitsSigned w64 u = search rules in
    let small = subst HasSmallBounds (sym c.bounds.view_is) c.requires in
    rw to_z-of_z (small_upper b i c.bounds.invariant (omega (arith, c.loop-place-test.true)) small)

pub loop-place-preserved : goal.loop-place-preserved
loop-place-preserved c =
    let i = c.loop-place.place in
    let b = c.bounds.inside in
    let d = c.args.bounds.now in
    let all = c.loop-place.all.items in
    let x = c.in_ok-literal_bound.field-0 in
    let l = get_or b.lower i (pos 0) in
    let u = get_or b.upper i (pos 0) in
    let fits_lower : FitsSigned w64 l = search rules in
    let fits_upper : FitsSigned w64 u = search rules in
    let is = simp to_z-of_z at c.in_ok-literal_bound.ensures in
    let within : i < b.rank = omega (arith, c.loop-place-test.true) in
    let before = subst (λ (e : Dimensions). map bound_tree all ++ literal_bounds (drop i e.lower) (drop i e.upper) ≡ literal_bounds e.lower e.upper) (sym c.bounds.view_is) c.loop-place.invariant.built in
    let after = bound_more all x b i (literal_bounds (dimensions b).lower (dimensions b).upper) c.bounds.invariant within is before in
    record {
      within = omega (arith, c.if-place-lt7.true);
      built = ap (λ (bs : List Bound). map bound_tree bs ++ literal_bounds (drop (i + 1) d.lower) (drop (i + 1) d.upper)) c.in_ok-push.ensures.items
          ∙ subst (λ (e : Dimensions). map bound_tree (all ++ x ∷ []) ++ literal_bounds (drop (i + 1) e.lower) (drop (i + 1) e.upper) ≡ literal_bounds e.lower e.upper) c.bounds.view_is after;
    }

pub returns : goal.returns
returns c =
    let i = c.loop-place.place in
    let b = c.bounds.inside in
    let all = c.loop-place.all.items in
    let ended : b.rank ≤ i = elim c.loop-place-test.branch [
      | then-loop-place-test+else-place-lt7 w ↦ omega (arith, w.if-place-lt7.false, c.bounds.invariant.few)
      | else-loop-place-test w ↦ omega (arith, w.loop-place-test.false)
    ] in
    let before = subst (λ (e : Dimensions). map bound_tree all ++ literal_bounds (drop i e.lower) (drop i e.upper) ≡ literal_bounds e.lower e.upper) (sym c.bounds.view_is) c.loop-place.invariant.built in
    subst (λ (e : Dimensions). map bound_tree all ≡ literal_bounds e.lower e.upper) c.bounds.view_is
    (no_bound b i (map bound_tree all) (literal_bounds (dimensions b).lower (dimensions b).upper) c.bounds.invariant ended before)
