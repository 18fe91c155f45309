use Rattle.std.proofs.Common.{◌≡◌, ◌<◌, List, [], None, ℕ, inl, inr, refl, length, get_or, sym, ap, subst, ◌∙◌, arith}
use Rattle.std.proofs.lemmas.Bool.{iff_false}
use Rattle.ped_links.specs.Arguments.{IsMisfit, SomeMisfit}
use Rattle.ped_links.specs.Scenes.{unit_at}
use Rattle.ped_links.proofs.ArgumentSteps.{some_from, some_to, some_behind, read_at}
use Rattle.ped_links.proofs.Seeds.{among_formals}
use Rattle.ped_links.proofs.arguments.At.has_bad_arguments.Goals as goal

pub loop-place-preserved : goal.loop-place-preserved
loop-place-preserved c us i at h =
    let fs = c.args.self.now.formals.now in
    let ns = c.args.self.now.call.now.arguments in
    let around = c.args.self.now.call.now.around in
    let u = unit_at us i in
    let v = unit_at us c.args.self.now.callee in
    let p = c.loop-place.place in
    let given = c.as_slice-arguments.ensures in
    let long = ap length given in
    let low : p < length fs = omega (arith, c.loop-place-test.true, c.if-arguments-self.false) in
    let also : p < length ns = omega (arith, c.loop-place-test.true, long) in
    let among = among_formals fs v.formals p c.index-self-place.result at.formals low in
    elim (some_from (λ f a gs rest. IsMisfit us u v around f a) fs ns p low also (c.loop-place.invariant us i at h)) [
      | inl x ↦
          let first = subst (λ (f : List ℕ). IsMisfit us u v around f (get_or ns p None)) (sym (read_at fs fs p c.index-self-place.result [] refl low)) x in
          let both = subst (IsMisfit us u v around (get_or fs p c.index-self-place.result)) (sym (c.index-arguments-place.is ∙ read_at c.as_slice-arguments.result.now ns p c.index-arguments-place.result None given also)) first in
          absurd (iff_false (c.misfits.ensures us i at among) c.if-misfits.false both)
      | inr y ↦ y
    ]

pub returns-then-misfits : goal.returns-then-misfits
returns-then-misfits c us i at =
    let fs = c.args.self.now.formals.now in
    let ns = c.args.self.now.call.now.arguments in
    let around = c.args.self.now.call.now.around in
    let u = unit_at us i in
    let v = unit_at us c.args.self.now.callee in
    let p = c.loop-place.place in
    let given = c.as_slice-arguments.ensures in
    let long = ap length given in
    let low : p < length fs = omega (arith, c.loop-place-test.true, c.if-arguments-self.false) in
    let also : p < length ns = omega (arith, c.loop-place-test.true, long) in
    let among = among_formals fs v.formals p c.index-self-place.result at.formals low in
    let both = (c.misfits.ensures us i at among).0 c.if-misfits.true in
    let first = subst (IsMisfit us u v around (get_or fs p c.index-self-place.result)) (c.index-arguments-place.is ∙ read_at c.as_slice-arguments.result.now ns p c.index-arguments-place.result None given also) both in
    let here = subst (λ (f : List ℕ). IsMisfit us u v around f (get_or ns p None)) (read_at fs fs p c.index-self-place.result [] refl low) first in
    let some = some_behind (λ f a gs rest. IsMisfit us u v around f a) p fs ns (some_to (λ f a gs rest. IsMisfit us u v around f a) fs ns p low also (inl here)) in
    let formals = ap length at.formals in
    let as_many : length ns ≡ length v.formals = omega (arith, long, formals, c.if-arguments-self.false) in
    (λ t. inr (as_many, subst (λ (gs : List (List ℕ)). SomeMisfit us u v around gs ns) at.formals some), λ h. refl)
