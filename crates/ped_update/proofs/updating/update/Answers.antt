use Rattle.std.proofs.Common.{◌∙◌, ◌+◌, ◌≤◌, ℕ, length, ap, sym, subst, refl, arith}
use Rattle.ped_tree.specs.Views.{program_tree}
use Rattle.ped_graph.specs.Held.{Held, held_of}
use Rattle.ped_graph.specs.Parts.{HeldParts, Fit}
use Rattle.ped_graph.specs.Keeping.{IsOneToOne}
use Rattle.ped_update.proofs.Updated.{program_fits, slots_counted, fresh_of}
use Rattle.ped_update.proofs.updating.update.Goals as goal

pub returns-in_err-parts-clause-most : goal.returns-in_err-parts-clause-most
returns-in_err-parts-clause-most g c =
    let t = program_tree c.args.program.now in
    let once = subst IsOneToOne (sym c.as_slice.ensures) c.requires.one_to_one in
    let fresh = fresh_of c.args.graph.now c.as_slice.result.now c.args.keep.now t (held_of t) c.as_slice.ensures refl in
    subst (λ (n : ℕ). c.parts_of.new.steps ≤ c.args.steps.now + n) fresh (c.parts_of.ensures.most once)

pub overflow_sub-tested : goal.overflow_sub-tested
overflow_sub-tested g c =
    let t = program_tree c.args.program.now in
    let once = subst IsOneToOne (sym c.as_slice.ensures) c.requires.one_to_one in
    let counted = slots_counted c.args.graph.now c.as_slice.result.now once t (held_of t) refl c.in_ok-parts.parts (c.in_ok-parts.ensures.parts once) in
    let slots = ap (λ (p : HeldParts). length p.slots) c.parts.view_is in
    let kept = ap (λ (p : HeldParts). length p.kept) c.parts.view_is in
    let ok = c.parts.inside.slots.ok.0 in
    let ok2 = c.parts.inside.kept.ok.0 in
    let len = c.len.ensures in
    let len2 = c.len-2.ensures in
    omega (arith, counted, slots, kept, ok, ok2, len, len2)

pub exchange-requires : goal.exchange-requires
exchange-requires g c =
    let once = subst IsOneToOne (sym c.as_slice.ensures) c.requires.one_to_one in
    let t = program_tree c.args.program.now in
    (held_of t, program_fits c.args.graph.now c.as_slice.result.now once t (held_of t) refl c.in_ok-parts.parts (c.in_ok-parts.ensures.parts once))

pub returns-clause-built : goal.returns-clause-built
returns-clause-built g c =
    let once = subst IsOneToOne (sym c.as_slice.ensures) c.requires.one_to_one in
    let t = program_tree c.args.program.now in
    (c.exchange.ensures.exchanged (held_of t) (program_fits c.args.graph.now c.as_slice.result.now once t (held_of t) refl c.in_ok-parts.parts (c.in_ok-parts.ensures.parts once))).0

pub returns-clause-back : goal.returns-clause-back
returns-clause-back g c =
    let once = subst IsOneToOne (sym c.as_slice.ensures) c.requires.one_to_one in
    let t = program_tree c.args.program.now in
    let G = c.args.graph.now in
    let done = c.exchange.ensures.exchanged (held_of t) (program_fits G c.as_slice.result.now once t (held_of t) refl c.in_ok-parts.parts (c.in_ok-parts.ensures.parts once)) in
    subst (λ (p : HeldParts). Fit p c.exchange.new.self G) (sym c.new.ensures.parts) (subst (λ (h : Held). Fit c.exchange.new.parts h G) (sym done.0) done.1)

pub returns-clause-tested : goal.returns-clause-tested
returns-clause-tested g c =
    let once = subst IsOneToOne (sym c.as_slice.ensures) c.requires.one_to_one in
    let t = program_tree c.args.program.now in
    let counted = slots_counted c.args.graph.now c.as_slice.result.now once t (held_of t) refl c.in_ok-parts.parts (c.in_ok-parts.ensures.parts once) in
    let fresh = fresh_of c.args.graph.now c.as_slice.result.now c.args.keep.now t (held_of t) c.as_slice.ensures refl in
    let slots = ap (λ (p : HeldParts). length p.slots) c.parts.view_is in
    let kept = ap (λ (p : HeldParts). length p.kept) c.parts.view_is in
    let ok = c.parts.inside.slots.ok.0 in
    let ok2 = c.parts.inside.kept.ok.0 in
    let len = c.len.ensures in
    let len2 = c.len-2.ensures in
    let tested = c.new.ensures.tested in
    omega (arith, counted, fresh, slots, kept, ok, ok2, len, len2, tested)

pub returns-clause-ticks : goal.returns-clause-ticks
returns-clause-ticks g c =
    let t = program_tree c.args.program.now in
    let once = subst IsOneToOne (sym c.as_slice.ensures) c.requires.one_to_one in
    let fresh = fresh_of c.args.graph.now c.as_slice.result.now c.args.keep.now t (held_of t) c.as_slice.ensures refl in
    c.in_ok-parts.ensures.ticks once ∙ ap (λ (n : ℕ). c.args.steps.now + n) fresh

pub returns-clause-most : goal.returns-clause-most
returns-clause-most g c =
    let t = program_tree c.args.program.now in
    let once = subst IsOneToOne (sym c.as_slice.ensures) c.requires.one_to_one in
    let fresh = fresh_of c.args.graph.now c.as_slice.result.now c.args.keep.now t (held_of t) c.as_slice.ensures refl in
    subst (λ (n : ℕ). c.parts_of.new.steps ≤ c.args.steps.now + n) fresh (c.parts_of.ensures.most once)
