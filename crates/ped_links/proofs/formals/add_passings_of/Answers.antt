use Rattle.std.proofs.Common.{◌≡◌, ◌⊎◌, ◌≤◌, ◌+◌, [], ◌∷◌, ◌++◌, length, take, inl, inr, refl, sym, ◌∙◌, arith}
use Rattle.std.proofs.lemmas.Grind.{common_steps}
use Rattle.std.proofs.lemmas.List.{length-take-le}
use Rattle.ped_links.specs.ArrowViews.{ends_of}
use Rattle.ped_links.proofs.Passings.{passings_step, passes_front, passes_whole}
use Rattle.ped_links.proofs.formals.add_passings_of.Goals as goal

pub loop-place-init : goal.loop-place-init
loop-place-init c = record { wide = refl; added = λ us f u k from to. (λ l. inl l, λ h. elim h [ inl x ↦ x | inr y ↦ absurd y ]) }

pub loop-place-preserved : goal.loop-place-preserved
loop-place-preserved c =
    let names = c.args.names.now in
    let arguments = c.args.arguments.now in
    let p = c.loop-place.place in
    let name = c.index-names-place.result in
    let argument = c.index-arguments-place.result in
    let low : p ≤ length names = omega arith in
    let also : p ≤ length arguments = omega arith in
    let more : take (p + 1) names ≡ take p names ++ name ∷ [] = grind (arith, common_steps) in
    let longer : take (p + 1) arguments ≡ take p arguments ++ argument ∷ [] = grind (arith, common_steps) in
    record {
      wide = c.add_arrow.ensures.wide ∙ c.loop-place.invariant.wide;
      added = λ us f u k. passings_step us c.args.unit c.args.callee (take p names) (take (p + 1) names) (take p arguments) (take (p + 1) arguments) name argument c.number-from.result c.passed_number-to.result
          (ends_of c.args.arrows.now) (ends_of c.loop-place.arrows) (ends_of c.add_arrow.new.arrows) more longer (length-take-le p names low ∙ sym (length-take-le p arguments also)) (c.number-from.ensures.number us f k) (c.passed_number-to.ensures.number us f u)
          (c.loop-place.invariant.added us f u k) c.in_ok-add_arrow.ensures.added;
    }

pub returns-clause-added : goal.returns-clause-added
returns-clause-added c us f u k from to =
    let names = c.args.names.now in
    let arguments = c.args.arguments.now in
    let p = c.loop-place.place in
    let known = c.loop-place.invariant.added us f u k from to in
    let ended : p ≡ c.lesser-place-end.result = omega (arith, c.loop-place-test.false, c.loop-place.auto.place-end) in
    let whole : (p ≡ length names) ⊎ (p ≡ length arguments) = elim c.lesser-place-end.ensures.one [ inl e ↦ inl (ended ∙ e) | inr e ↦ inr (ended ∙ e) ] in (
      λ l. elim (known.0 l) [ inl o ↦ inl o | inr h ↦ inr (passes_front us c.args.unit c.args.callee p names arguments from to h) ],
      λ h. known.1 (elim h [ inl o ↦ inl o | inr x ↦ inr (passes_whole us c.args.unit c.args.callee p names arguments from to whole x) ]),
    )
