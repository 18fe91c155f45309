-- Runs that are reached from others.
use Rattle.std.proofs.Common.{◌≡◌, ℕ, zero, suc, Option, Some, None, refl, sym, ap, subst, ◌∙◌}
use Rattle.std.specs.Prelude.{option_and_then}
use Rattle.ped_interleavings.specs.ped_tree.specs.Tree.{ProgramTree}
use Rattle.ped_interleavings.specs.ped_eval.specs.Outcomes.{Outcome, setting_of}
use Rattle.ped_interleavings.specs.Interleavings.{Standing, next_standing, after_steps, IsReached, IsInterleavedFrom}

some_is : {A : Type 0} (x y : A) → ◌≡◌ {A = Option A} (Some x) (Some y) → x ≡ y
some_is x y h = cc

module _ (t : ProgramTree) where
  -- one step more
  pub step_more : (st new : Standing) (o : Outcome) → next_standing (setting_of t) st ≡ Some new → IsInterleavedFrom t new o → IsInterleavedFrom t st o
  step_more st new o e (last, (n, h), f) = (last, (suc n, ap (option_and_then (after_steps (setting_of t) n)) e ∙ h), f)

  by_next : (n : ℕ) (st mid : Standing) (o : Outcome) (x : Option Standing) → next_standing (setting_of t) st ≡ x → after_steps (setting_of t) (suc n) st ≡ Some mid → ((new : Standing) → after_steps (setting_of t) n new ≡ Some mid → IsInterleavedFrom t new o) → IsInterleavedFrom t st o
  by_next n st mid o None e h more = absurd (let k : ◌≡◌ {A = Option Standing} None (Some mid) = sym (ap (option_and_then (after_steps (setting_of t) n)) e) ∙ h in cc)
  by_next n st mid o (Some new) e h more = step_more st new o e (more new (sym (ap (option_and_then (after_steps (setting_of t) n)) e) ∙ h))

  -- what a run that is reached comes to
  pub from_steps : (n : ℕ) (st mid : Standing) (o : Outcome) → after_steps (setting_of t) n st ≡ Some mid → IsInterleavedFrom t mid o → IsInterleavedFrom t st o
  from_steps zero st mid o h i = subst (λ (z : Standing). IsInterleavedFrom t z o) (sym (some_is st mid h)) i
  from_steps (suc n) st mid o h i = by_next n st mid o (next_standing (setting_of t) st) refl h (λ new k. from_steps n new mid o k i)

  pub from_reached : (st mid : Standing) (o : Outcome) → IsReached (setting_of t) st mid → IsInterleavedFrom t mid o → IsInterleavedFrom t st o
  from_reached st mid o (n, h) i = from_steps n st mid o h i
