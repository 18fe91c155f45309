use Rattle.std.proofs.Common.{◌⊎◌, ◌<◌, ◌≤◌, inl, inr, refl, length, arith}
use Rattle.std.proofs.lemmas.Bool.{iff_false, false≢true}
use Rattle.ped_links.specs.Arguments.{IsAliasedFirst}
use Rattle.ped_links.specs.Scenes.{unit_at}
use Rattle.ped_links.proofs.ArgumentSteps.{some_from, some_to, some_behind, some_nowhere}
use Rattle.ped_links.proofs.arguments.At.is_aliased.Goals as goal

pub returns-then-is_aliased_at : goal.returns-then-is_aliased_at
returns-then-is_aliased_at c us i at =
    let fs = c.args.self.now.formals.now in
    let ns = c.args.self.now.call.now.arguments in
    let u = unit_at us i in
    let v = unit_at us c.args.self.now.callee in
    let p = c.loop-place.place in
    let low : p < length fs = omega (arith, c.loop-place-test.true, c.count-place-end.ensures.formals) in
    let also : p < length ns = omega (arith, c.loop-place-test.true, c.count-place-end.ensures.arguments) in
    let here = (c.is_aliased_at.ensures us i at).0 c.if-is_aliased_at.true in
    (λ t. some_behind (λ f a gs rest. IsAliasedFirst us u v f a gs rest) p fs ns (some_to (λ f a gs rest. IsAliasedFirst us u v f a gs rest) fs ns p low also (inl here)), λ h. refl)

pub loop-place-preserved : goal.loop-place-preserved
loop-place-preserved c us i at h =
    let fs = c.args.self.now.formals.now in
    let ns = c.args.self.now.call.now.arguments in
    let u = unit_at us i in
    let v = unit_at us c.args.self.now.callee in
    let p = c.loop-place.place in
    let low : p < length fs = omega (arith, c.loop-place-test.true, c.count-place-end.ensures.formals) in
    let also : p < length ns = omega (arith, c.loop-place-test.true, c.count-place-end.ensures.arguments) in
    elim (some_from (λ f a gs rest. IsAliasedFirst us u v f a gs rest) fs ns p low also (c.loop-place.invariant us i at h)) [
      | inl x ↦ absurd (iff_false (c.is_aliased_at.ensures us i at) c.if-is_aliased_at.false x)
      | inr y ↦ y
    ]

pub returns : goal.returns
returns c us i at =
    let fs = c.args.self.now.formals.now in
    let ns = c.args.self.now.call.now.arguments in
    let p = c.loop-place.place in
    let ended : (length fs ≤ p) ⊎ (length ns ≤ p) = elim c.count-place-end.ensures.one [ inl e ↦ inr (omega (arith, e, c.loop-place-test.false)) | inr e ↦ inl (omega (arith, e, c.loop-place-test.false)) ] in
    (λ t. absurd (false≢true t), λ h. absurd (some_nowhere (λ f a gs rest. IsAliasedFirst us (unit_at us i) (unit_at us c.args.self.now.callee) f a gs rest) p fs ns ended (c.loop-place.invariant us i at h)))
