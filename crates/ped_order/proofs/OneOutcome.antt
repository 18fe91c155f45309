-- A run comes to one outcome: its choices leave nothing open.
use Rattle.std.proofs.Common.{◌≡◌, ℕ, zero, suc, Option, Some, None, refl, sym, ap, ◌∙◌}
use Rattle.std.specs.Prelude.{option_and_then}
use Rattle.ped_interleavings.specs.ped_tree.specs.Tree.{ProgramTree}
use Rattle.ped_interleavings.specs.ped_eval.specs.ped_store.specs.Stores.{Store}
use Rattle.ped_interleavings.specs.ped_eval.specs.Outcomes.{Outcome, setting_of}
use Rattle.ped_interleavings.specs.Steps.{Next, over, met, went, halted}
use Rattle.ped_interleavings.specs.Interleavings.{Standing, next_step, standing_by, next_standing, after_steps, ended_by, IsInterleavedFrom}

some_is : {A : Type 0} (x y : A) → ◌≡◌ {A = Option A} (Some x) (Some y) → x ≡ y
some_is x y h = cc

no_more : {A : Type 0} (x : A) → ◌≡◌ {A = Option A} None (Some x) → ⊥
no_more x h = cc

-- a run that has ended goes no further
stays : (t : ProgramTree) (x : Next) (st : Standing) (s : Store) (o : Outcome) → ended_by t x s ≡ Some o → standing_by x st ≡ None
stays t over st s o h = refl
stays t (met fault statement) st s o h = refl
stays t (went a l) st s o h = absurd (no_more o h)
stays t (halted a) st s o h = absurd (no_more o h)

module _ (t : ProgramTree) where
  abbrev after : ℕ → Standing → Option Standing
  after n st = after_steps (setting_of t) n st

  abbrev next : Standing → Option Standing
  next st = next_standing (setting_of t) st

  -- what a step and more steps come to, by what the step comes to
  by_next : (n : ℕ) (st : Standing) (z : Option Standing) → next st ≡ z → after (suc n) st ≡ option_and_then (after n) z
  by_next n st z e = ap (option_and_then (after n)) e

  -- no step follows a standing that has none
  none_follows : (n : ℕ) (st y : Standing) → next st ≡ None → after (suc n) st ≡ Some y → ⊥
  none_follows n st y e h = no_more y (sym (by_next n st None e) ∙ h)

  -- two that go on do the same step
  both_go_on : (n m : ℕ) (st x y : Standing) (z : Option Standing) → next st ≡ z → after (suc n) st ≡ Some x → after (suc m) st ≡ Some y
      → ((new : Standing) → after n new ≡ Some x → after m new ≡ Some y → x ≡ y) → x ≡ y
  both_go_on n m st x y None e h k more = absurd (none_follows n st x e h)
  both_go_on n m st x y (Some new) e h k more = more new (sym (by_next n st (Some new) e) ∙ h) (sym (by_next m st (Some new) e) ∙ k)

  one_last : (n m : ℕ) (st x y : Standing) → next x ≡ None → next y ≡ None → after n st ≡ Some x → after m st ≡ Some y → x ≡ y
  one_last zero zero st x y a b h k = some_is x y (sym h ∙ k)
  one_last zero (suc m) st x y a b h k = absurd (none_follows m st y (ap next (some_is st x h) ∙ a) k)
  one_last (suc n) zero st x y a b h k = absurd (none_follows n st x (ap next (some_is st y k) ∙ b) h)
  one_last (suc n) (suc m) st x y a b h k = both_go_on n m st x y (next st) refl h k (λ new p q. one_last n m new x y a b p q)

  pub one_outcome : (st : Standing) (o other : Outcome) → IsInterleavedFrom t st o → IsInterleavedFrom t st other → o ≡ other
  one_outcome st o other (x, (n, h), f) (y, (m, k), g) =
      let a : next x ≡ None = stays t (next_step (setting_of t) x) x x.store o f in
      let b : next y ≡ None = stays t (next_step (setting_of t) y) y y.store other g in
      let same = one_last n m st x y a b h k in
      some_is o other (sym f ∙ ap (λ (z : Standing). ended_by t (next_step (setting_of t) z) z.store) same ∙ g)
