-- Each run ends, with one outcome.
use Rattle.std.proofs.Common.{◌≡◌, ℕ, zero, suc, ◌<◌, Option, Some, None, refl, sym, ap, ◌∙◌, arith}
use Rattle.std.specs.Prelude.{option_and_then}
use Rattle.ped_tree.specs.Tree.{ProgramTree}
use Rattle.ped_eval.specs.ped_store.specs.Stores.{Store}
use Rattle.ped_eval.specs.ped_store.specs.Acts.{Act}
use Rattle.ped_eval.specs.Scopes.{Setting}
use Rattle.ped_eval.specs.Runs.{going}
use Rattle.ped_eval.specs.Outcomes.{Outcome, Fault, setting_of, outcome_of}
use Rattle.ped_interleavings.specs.Lefts.{Left, finished}
use Rattle.ped_interleavings.specs.Steps.{Next, over, met, went, halted}
use Rattle.ped_interleavings.specs.Interleavings.{Standing, choice, next_step, behind_act, standing_by, next_standing, after_steps, ended_by, IsInterleavedFrom}
use Rattle.ped_interleavings.specs.Weights.{left_weight}
use Rattle.ped_interleavings.proofs.Weighing.{lighter}

some_is : {A : Type 0} (x y : A) → ◌≡◌ {A = Option A} (Some x) (Some y) → x ≡ y
some_is x y h = cc

-- a run that has ended goes no further
ended_stays : (t : ProgramTree) (x : Next) (st : Standing) (s : Store) (o : Outcome) → ended_by t x s ≡ Some o → standing_by x st ≡ None
ended_stays t over st s o h = refl
ended_stays t (met fault statement) st s o h = refl
ended_stays t (went a l) st s o h = absurd cc
ended_stays t (halted a) st s o h = absurd cc

none_goes_on : (p : Setting) (n : ℕ) (st last : Standing) → next_standing p st ≡ None → after_steps p (suc n) st ≡ Some last → ⊥
none_goes_on p n st last h k = let e : ◌≡◌ {A = Option Standing} None (Some last) = sym (ap (option_and_then (after_steps p n)) h) ∙ k in cc

module _ (t : ProgramTree) where
  abbrev EndsSo : Standing → Outcome → Type 0
  EndsSo last o = ended_by t (next_step (setting_of t) last) last.store ≡ Some o

  both_go_on : (n m : ℕ) (st x y : Standing) (o other : Outcome) (z : Option Standing) → next_standing (setting_of t) st ≡ z → after_steps (setting_of t) (suc n) st ≡ Some x → after_steps (setting_of t) (suc m) st ≡ Some y
      → ((new : Standing) → after_steps (setting_of t) n new ≡ Some x → after_steps (setting_of t) m new ≡ Some y → o ≡ other) → o ≡ other
  both_go_on n m st x y o other None e h k more = absurd (none_goes_on (setting_of t) n st x e h)
  both_go_on n m st x y o other (Some new) e h k more = more new (sym (ap (option_and_then (after_steps (setting_of t) n)) e) ∙ h) (sym (ap (option_and_then (after_steps (setting_of t) m)) e) ∙ k)

  one : (n m : ℕ) (st x y : Standing) (o other : Outcome) → after_steps (setting_of t) n st ≡ Some x → after_steps (setting_of t) m st ≡ Some y → EndsSo x o → EndsSo y other → o ≡ other
  one zero zero st x y o other h k f g = some_is o other (sym f ∙ ap (λ (z : Standing). ended_by t (next_step (setting_of t) z) z.store) (some_is x y (sym h ∙ k)) ∙ g)
  one zero (suc m) st x y o other h k f g =
      let e = ended_stays t (next_step (setting_of t) x) x x.store o f in
      absurd (none_goes_on (setting_of t) m st y (ap (next_standing (setting_of t)) (some_is st x h) ∙ e) k)
  one (suc n) zero st x y o other h k f g =
      let e = ended_stays t (next_step (setting_of t) y) y y.store other g in
      absurd (none_goes_on (setting_of t) n st x (ap (next_standing (setting_of t)) (some_is st y k) ∙ e) h)
  one (suc n) (suc m) st x y o other h k f g = both_go_on n m st x y o other (next_standing (setting_of t) st) refl h k (λ new a b. one n m new x y o other a b f g)

  pub one_outcome : (st : Standing) (o other : Outcome) → IsInterleavedFrom t st o → IsInterleavedFrom t st other → o ≡ other
  one_outcome st o other (x, (n, h), f) (y, (m, k), g) = one n m st x y o other h k f g

  -- one step more
  pub step_more : (st new : Standing) (o : Outcome) → next_standing (setting_of t) st ≡ Some new → IsInterleavedFrom t new o → IsInterleavedFrom t st o
  step_more st new o e (last, (n, h), f) = (last, (suc n, ap (option_and_then (after_steps (setting_of t) n)) e ∙ h), f)

  -- by the step that comes next
  comes_by : (st : Standing) (x : Next) → next_step (setting_of t) st ≡ x → ((a : Act) (l : Left) → next_step (setting_of t) st ≡ went a l → (o : Outcome) × IsInterleavedFrom t (behind_act a l st) o) → (o : Outcome) × IsInterleavedFrom t st o
  comes_by st over e more = (outcome_of t (going st.store), (st, (0, refl), ap (λ (z : Next). ended_by t z st.store) e))
  comes_by st (met fault statement) e more = (Fault fault statement, (st, (0, refl), ap (λ (z : Next). ended_by t z st.store) e))
  comes_by st (went a l) e more = let c = more a l e in (c.0, step_more st (behind_act a l st) c.0 (ap (λ (z : Next). standing_by z st) e) c.1)
  comes_by st (halted a) e more =
      let new = behind_act a finished st in
      let o = outcome_of t (going new.store) in
      (o, step_more st new o (ap (λ (z : Next). standing_by z st) e) (new, (0, refl), refl))

  -- by the weight of what is left
  comes : (w : ℕ) (st : Standing) → left_weight st.left < w → (o : Outcome) × IsInterleavedFrom t st o
  comes zero st h = absurd (omega (arith, h))
  comes (suc w) st h = comes_by st (next_step (setting_of t) st) refl λ a l e. comes w (behind_act a l st) (let k = lighter (setting_of t) st.left (choice st.choices) st.store a l e in omega (arith, h, k))

  pub some_outcome : (st : Standing) → (o : Outcome) × IsInterleavedFrom t st o
  some_outcome st = comes (suc (left_weight st.left)) st (omega arith)
