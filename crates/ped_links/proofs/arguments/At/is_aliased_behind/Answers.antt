use Rattle.std.proofs.Common.{◌≡◌, ◌⊎◌, ◌+◌, ◌<◌, ◌≤◌, [], Some, inl, inr, refl, length, get_or, sym, subst, arith}
use Rattle.std.proofs.lemmas.Bool.{iff_false, false≢true}
use Rattle.ped_units.specs.Linking.{IsAssigned}
use Rattle.ped_links.specs.Scenes.{unit_at}
use Rattle.ped_links.proofs.ArgumentSteps.{some_from, some_to, some_later, some_nowhere, read_at}
use Rattle.ped_links.proofs.Seeds.{among_there}
use Rattle.ped_links.proofs.arguments.At.is_aliased_behind.Goals as goal

pub returns-then-is_again_at : goal.returns-then-is_again_at
returns-then-is_again_at c us i at =
    let self = c.args.self.now in
    let fs = self.formals.now in
    let ns = self.call.now.arguments in
    let v = unit_at us self.callee in
    let p = c.args.place in
    let o = c.loop-other.other in
    let name = c.args.name.now in
    let low : o < length fs = omega (arith, c.loop-other-test.true, c.count-other-end.ensures.formals) in
    let also : o < length ns = omega (arith, c.loop-other-test.true, c.count-other-end.ensures.arguments) in
    let r = c.index-self-place.result in
    let first = c.is_assigned-assigned.ensures us at.marks at.below (among_there us fs p self.callee r at.formals at.below c.requires.formals) in
    let same = read_at fs fs p r [] refl c.requires.formals in
    let test = (c.is_again_at.ensures us i at).0 c.if-is_again_at.true in
    let assigned : IsAssigned us v (get_or fs p []) ⊎ IsAssigned us v (get_or fs o []) = elim test.1 [ inl t ↦ inl (subst (IsAssigned us v) same (first.0 t)) | inr s ↦ inr s ] in (
      λ t. some_later (λ f a gs rest. (a ≡ Some name) × (IsAssigned us v (get_or fs p []) ⊎ IsAssigned us v f)) (p + 1) o fs ns c.loop-other.auto.other
          (some_to (λ f a gs rest. (a ≡ Some name) × (IsAssigned us v (get_or fs p []) ⊎ IsAssigned us v f)) fs ns o low also (inl (test.0, assigned))),
      λ h. refl,
    )

pub loop-other-preserved : goal.loop-other-preserved
loop-other-preserved c us i at h =
    let self = c.args.self.now in
    let fs = self.formals.now in
    let ns = self.call.now.arguments in
    let v = unit_at us self.callee in
    let p = c.args.place in
    let o = c.loop-other.other in
    let name = c.args.name.now in
    let low : o < length fs = omega (arith, c.loop-other-test.true, c.count-other-end.ensures.formals) in
    let also : o < length ns = omega (arith, c.loop-other-test.true, c.count-other-end.ensures.arguments) in
    let r = c.index-self-place.result in
    let first = c.is_assigned-assigned.ensures us at.marks at.below (among_there us fs p self.callee r at.formals at.below c.requires.formals) in
    let same = read_at fs fs p r [] refl c.requires.formals in
    elim (some_from (λ f a gs rest. (a ≡ Some name) × (IsAssigned us v (get_or fs p []) ⊎ IsAssigned us v f)) fs ns o low also (c.loop-other.invariant us i at h)) [
      | inl x ↦ absurd (iff_false (c.is_again_at.ensures us i at) c.if-is_again_at.false (x.0, elim x.1 [ inl s ↦ inl (first.1 (subst (IsAssigned us v) (sym same) s)) | inr s ↦ inr s ]))
      | inr y ↦ y
    ]

pub returns : goal.returns
returns c us i at =
    let self = c.args.self.now in
    let fs = self.formals.now in
    let ns = self.call.now.arguments in
    let v = unit_at us self.callee in
    let p = c.args.place in
    let o = c.loop-other.other in
    let name = c.args.name.now in
    let ended : (length fs ≤ o) ⊎ (length ns ≤ o) = elim c.count-other-end.ensures.one [ inl e ↦ inr (omega (arith, e, c.loop-other-test.false)) | inr e ↦ inl (omega (arith, e, c.loop-other-test.false)) ] in
    (λ t. absurd (false≢true t), λ h. absurd (some_nowhere (λ f a gs rest. (a ≡ Some name) × (IsAssigned us v (get_or fs p []) ⊎ IsAssigned us v f)) o fs ns ended (c.loop-other.invariant us i at h)))
