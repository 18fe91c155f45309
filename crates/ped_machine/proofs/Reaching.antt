-- Runs that are reached from others.
use Rattle.std.proofs.Common.{◌≡◌, ℕ, zero, suc, List, true, Option, Some, None, refl, sym, ap, subst, ◌∙◌}
use Rattle.std.specs.Prelude.{option_and_then}
use Rattle.ped_tree.specs.Tree.{ProgramTree}
use Rattle.ped_store.specs.Acts.{Act}
use Rattle.ped_interleavings.specs.ped_eval.specs.Scopes.{Setting}
use Rattle.ped_interleavings.specs.ped_eval.specs.Outcomes.{Outcome, Fault, setting_of, outcome_of}
use Rattle.ped_interleavings.specs.ped_eval.specs.Runs.{going}
use Rattle.ped_interleavings.specs.Lefts.{Left, finished}
use Rattle.ped_interleavings.specs.Steps.{Next, over, met, went, halted, step}
use Rattle.ped_interleavings.specs.Interleavings.{Standing, choice, choices_behind, standing_by, next_standing, after_steps, IsReached, ended_by, IsInterleavedFrom}
use Rattle.ped_machine.specs.declared.steps.Step.{Step}
use Rattle.ped_machine.specs.declared.steps.Step.TheVariants as answer
use Rattle.ped_machine.specs.Answers.{is_last}
use Rattle.ped_machine.specs.Machines.{Held, standing, IsSameRun, IsStepBy, IsOutcomeBy}

some_is : {A : Type 0} (x y : A) → ◌≡◌ {A = Option A} (Some x) (Some y) → x ≡ y
some_is x y h = cc

module _ (p : Setting) where
  by_next : (n : ℕ) (st mid new : Standing) (x : Option Standing) → next_standing p st ≡ x → after_steps p (suc n) st ≡ Some mid → ((z : Standing) → after_steps p n z ≡ Some mid → after_steps p (suc n) z ≡ Some new)
      → after_steps p (suc (suc n)) st ≡ Some new
  by_next n st mid new None k h more = absurd (let w : ◌≡◌ {A = Option Standing} None (Some mid) = sym (ap (option_and_then (after_steps p n)) k) ∙ h in cc)
  by_next n st mid new (Some z) k h more = ap (option_and_then (after_steps p (suc n))) k ∙ more z (sym (ap (option_and_then (after_steps p n)) k) ∙ h)

  more_steps : (n : ℕ) (st mid new : Standing) → after_steps p n st ≡ Some mid → next_standing p mid ≡ Some new → after_steps p (suc n) st ≡ Some new
  more_steps zero st mid new h e = subst (λ (z : Standing). option_and_then (after_steps p zero) (next_standing p z) ≡ Some new) (sym (some_is st mid h)) (ap (option_and_then (after_steps p zero)) e)
  more_steps (suc n) st mid new h e = by_next n st mid new (next_standing p st) refl h (λ z k. more_steps n z mid new k e)

  -- one step more
  pub one_more : (st mid new : Standing) → IsReached p st mid → next_standing p mid ≡ Some new → IsReached p st new
  one_more st mid new (n, h) e = (suc n, more_steps n st mid new h e)

  pub none_yet : (st : Standing) → IsReached p st st
  none_yet st = (0, refl)

module _ (old new : Held) (choices left : List ℕ) (by_choices : left ≡ choices_behind old.left choices) where
  behind_by : (x : Next) → IsStepBy x old answer.Went new → standing_by x (standing old choices) ≡ Some (standing new left)
  behind_by over h = absurd h
  behind_by (met f n) h = absurd h
  behind_by (went a l) h = λ i. Some (record { left = sym h.left i; choices = sym by_choices i; store = sym h.store i })
  behind_by (halted a) h = λ i. Some (record { left = sym h.left i; choices = sym by_choices i; store = sym h.store i })

  -- where a run stands behind a step
  pub next_is : (p : Setting) → IsStepBy (step p old.left (choice choices) old.store) old answer.Went new → next_standing p (standing old choices) ≡ Some (standing new left)
  next_is p h = behind_by (step p old.left (choice choices) old.store) h

-- a step that has gone on has done an act
pub went_on : (x : Next) (old new : Held) (P : Type 0) → IsStepBy x old answer.Went new → ((a : Act) (l : Left) → x ≡ went a l → new.left ≡ l → P) → ((a : Act) → x ≡ halted a → new.left ≡ finished → P) → P
went_on over old new P h f g = absurd h
went_on (met k n) old new P h f g = absurd h
went_on (went a l) old new P h f g = f a l refl h.left
went_on (halted a) old new P h f g = g a refl h.left

pub over_is : (x : Next) (old new : Held) → IsStepBy x old answer.Ended new → x ≡ over
over_is over old new h = refl
over_is (met f n) old new h = absurd h
over_is (went a l) old new h = absurd h
over_is (halted a) old new h = absurd h

pub fault_is : (x : Next) (old new : Held) (f n : ℕ) → IsStepBy x old (answer.Fault f n) new → x ≡ met f n
fault_is over old new f n h = absurd h
fault_is (met k i) old new f n h = λ j. met (sym h.0 j) (sym h.1 j)
fault_is (went a l) old new f n h = absurd h
fault_is (halted a) old new f n h = absurd h

-- where nothing was left, the run is the same
pub same_run : (x : Next) (old new : Held) → IsStepBy x old answer.Ended new → IsSameRun old new
same_run over old new h = h
same_run (met f n) old new h = absurd h
same_run (went a l) old new h = absurd h
same_run (halted a) old new h = absurd h

-- the same run is reached
pub same_reached : (p : Setting) (st : Standing) (old new : Held) (choices : List ℕ) → IsReached p st (standing old choices) → IsSameRun old new → IsReached p st (standing new choices)
same_reached p st old new choices h same = subst (λ (k : Standing). IsReached p st k) (λ i. record { left = sym same.left i; choices = choices; store = sym same.store i }) h

module _ (t : ProgramTree) (st : Standing) (old new : Held) (choices : List ℕ) (reached : IsReached (setting_of t) st (standing old choices)) where
  -- a run that has ended there
  pub ends_there : IsStepBy (step (setting_of t) old.left (choice choices) old.store) old answer.Ended new → (o : Outcome) → o ≡ outcome_of t (going old.store) → IsInterleavedFrom t st o
  ends_there h o is = (standing old choices, reached, (λ i. ended_by t (over_is (step (setting_of t) old.left (choice choices) old.store) old new h i) old.store) ∙ ap Some (sym is))

  -- a run that has met a fault there
  pub faults_there : (f n : ℕ) → IsStepBy (step (setting_of t) old.left (choice choices) old.store) old (answer.Fault f n) new → IsInterleavedFrom t st (Fault f n)
  faults_there f n h = (standing old choices, reached, λ i. ended_by t (fault_is (step (setting_of t) old.left (choice choices) old.store) old new f n h i) old.store)

  -- a run that has come to an outcome there
  pub comes_there : (r : Step) → is_last r ≡ true → IsStepBy (step (setting_of t) old.left (choice choices) old.store) old r new → new.tree ≡ t → (o : Outcome) → IsOutcomeBy r new o → IsInterleavedFrom t st o
  comes_there answer.Went last h tree o is = absurd cc
  comes_there answer.Ended last h tree o is = ends_there h o (is ∙ (λ i. outcome_of (tree i) (going ((same_run (step (setting_of t) old.left (choice choices) old.store) old new h).store i))))
  comes_there (answer.Fault f n) last h tree o is = subst (λ (x : Outcome). IsInterleavedFrom t st x) (sym is) (faults_there f n h)
