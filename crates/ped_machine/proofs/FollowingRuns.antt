-- A run whose copies are forgotten comes to what the run itself comes to.
use Rattle.std.proofs.Common.{◌≡◌, ℕ, List, [], ◌∷◌, Bool, true, false, Some, if◌then◌else◌, refl, sym, ap, subst, ◌∙◌}
use Rattle.std.specs.Prelude.{map}
use Rattle.ped_base.specs.Dimensions.{Dimensions}
use Rattle.ped_tree.specs.Tree.{ProgramTree}
use Rattle.ped_base.specs.Lists.{has_some}
use Rattle.ped_symbols.specs.Kinds.{kind_in}
use Rattle.ped_store.specs.Storage.{elements_of}
use Rattle.ped_store.specs.Variables.{values_of}
use Rattle.ped_store.specs.Cells.{Scalar, Element, Out}
use Rattle.ped_store.specs.Stores.{Store, number_in, lines_in}
use Rattle.ped_store.specs.Acts.{store_behind}
use Rattle.ped_interleavings.specs.ped_eval.specs.Scopes.{Setting}
use Rattle.ped_interleavings.specs.ped_eval.specs.Agreement.{IsSameOutside}
use Rattle.ped_interleavings.specs.ped_eval.specs.Runs.{going}
use Rattle.ped_interleavings.specs.ped_eval.specs.Outcomes.{Outcome, Fault, Ended, bounds_of, setting_of, live_names, outcome_of}
use Rattle.ped_interleavings.specs.Lefts.{Left}
use Rattle.ped_interleavings.specs.Steps.{Next, over, met, went, halted, step}
use Rattle.ped_interleavings.specs.Interleavings.{Standing, choice, choices_behind, standing_by, IsReached, ended_by, IsInterleavedFrom}
use Rattle.ped_machine.specs.declared.steps.Step.{Step}
use Rattle.ped_machine.specs.declared.steps.Step.TheVariants as answer
use Rattle.ped_machine.specs.Answers.{is_last}
use Rattle.ped_machine.specs.Machines.{Held, IsStepBy, IsOutcomeBy}
use Rattle.ped_machine.specs.Naming.{AgreeOn, IsApart, IsForgotten}
use Rattle.ped_machine.specs.Following.{Follows}
use Rattle.ped_machine.proofs.AgreeingStores.{same_step, agree_behind, agree_halted, agree_forgotten}
use Rattle.ped_machine.proofs.StayingApart.{stay_apart}
use Rattle.ped_machine.proofs.Reaching.{one_more, over_is, fault_is, same_run}

pub agree_itself : (l : Left) (s : Store) → AgreeOn l s s
agree_itself l s = record { outside = λ c k. refl; copies = λ x path f. refl }

module _ (t : ProgramTree) (first : Standing) (old mid : Held) (choices behind : List ℕ) (by_choices : behind ≡ choices_behind old.left choices) (f : Follows (setting_of t) first old choices) where
  abbrev p : Setting
  p = setting_of t

  abbrev exact : Standing
  exact = record { left = old.left; choices = choices; store = f.store }

  same : step p old.left (choice choices) old.store ≡ step p old.left (choice choices) f.store
  same = same_step p old.left (choice choices) old.store f.store f.agrees

  follows_by : (x : Next) → step p old.left (choice choices) old.store ≡ x → IsStepBy x old answer.Went mid → Follows p first mid behind
  follows_by over e h = absurd h
  follows_by (met k n) e h = absurd h
  follows_by (went a l) e h =
      let q = sym same ∙ e in record {
        apart = subst IsApart (sym h.left) (stay_apart p (λ m. refl) old.left (choice choices) f.store a l q f.apart);
        store = store_behind a.touches f.store;
        reached =
            one_more p first exact (record { left = mid.left; choices = behind; store = store_behind a.touches f.store }) f.reached
            (ap (λ (y : Next). standing_by y exact) q ∙ λ i. Some (record { left = sym h.left i; choices = sym by_choices i; store = store_behind a.touches f.store }));
        agrees =
            subst (λ (u : Store). AgreeOn mid.left u (store_behind a.touches f.store)) (sym h.store)
            (subst (λ (z : Left). AgreeOn z (store_behind a.touches old.store) (store_behind a.touches f.store)) (sym h.left) (agree_behind p (λ m. refl) old.left (choice choices) old.store f.store a l q f.agrees));
      }
  follows_by (halted a) e h =
      let q = sym same ∙ e in record {
        apart = subst IsApart (sym h.left) tt;
        store = store_behind a.touches f.store;
        reached =
            one_more p first exact (record { left = mid.left; choices = behind; store = store_behind a.touches f.store }) f.reached
            (ap (λ (y : Next). standing_by y exact) q ∙ λ i. Some (record { left = sym h.left i; choices = sym by_choices i; store = store_behind a.touches f.store }));
        agrees =
            subst (λ (u : Store). AgreeOn mid.left u (store_behind a.touches f.store)) (sym h.store)
            (subst (λ (z : Left). AgreeOn z (store_behind a.touches old.store) (store_behind a.touches f.store)) (sym h.left) (agree_halted old.left a.touches old.store f.store f.agrees));
      }

  -- after a step
  pub follows_step : IsStepBy (step p old.left (choice choices) old.store) old answer.Went mid → Follows p first mid behind
  follows_step h = follows_by (step p old.left (choice choices) old.store) refl h

-- after what is spent has been forgotten
pub follows_forgotten : (p : Setting) (first : Standing) (mid new : Held) (choices : List ℕ) → new.left ≡ mid.left → IsForgotten mid.left mid.store new.store → Follows p first mid choices → Follows p first new choices
follows_forgotten p first mid new choices same h f = record {
  apart = subst IsApart (sym same) f.apart;
  store = f.store;
  reached = subst (λ (l : Left). IsReached p first (record { left = l; choices = choices; store = f.store })) (sym same) f.reached;
  agrees = subst (λ (l : Left). AgreeOn l new.store f.store) (sym same) (agree_forgotten mid.left mid.store new.store f.store f.apart h f.agrees);
}

values_same : (b : Dimensions) (x : List ℕ) (u s : Store) → IsSameOutside u s → values_of b x u ≡ values_of b x s
values_same b x u s same = go (has_some b.lower)
  where
    go : (r : Bool) → (if r then map (λ js. number_in (u (Element x js))) (elements_of b) else number_in (u (Scalar x)) ∷ []) ≡ (if r then map (λ js. number_in (s (Element x js))) (elements_of b) else number_in (s (Scalar x)) ∷ [])
    go true = λ i. map (λ js. number_in (same (Element x js) refl i)) (elements_of b)
    go false = λ i. number_in (same (Scalar x) refl i) ∷ []

outcome_same : (t : ProgramTree) (u s : Store) → IsSameOutside u s → outcome_of t (going u) ≡ outcome_of t (going s)
outcome_same t u s same = λ i. Ended (lines_in (same Out refl i)) (map (λ x. record { name = x; values = values_same (bounds_of (kind_in t x)) x u s same i }) (live_names t))

module _ (t : ProgramTree) (first : Standing) (old new : Held) (choices : List ℕ) (f : Follows (setting_of t) first old choices) where
  abbrev here : Standing
  here = record { left = old.left; choices = choices; store = f.store }

  as_there : step (setting_of t) old.left (choice choices) old.store ≡ step (setting_of t) old.left (choice choices) f.store
  as_there = same_step (setting_of t) old.left (choice choices) old.store f.store f.agrees

  ends : IsStepBy (step (setting_of t) old.left (choice choices) old.store) old answer.Ended new → (o : Outcome) → o ≡ outcome_of t (going old.store) → IsInterleavedFrom t first o
  ends h o is = (
    here,
    f.reached,
    (λ i. ended_by t ((sym as_there ∙ over_is (step (setting_of t) old.left (choice choices) old.store) old new h) i) f.store) ∙ ap Some (sym (is ∙ outcome_same t old.store f.store f.agrees.outside)),
  )

  faults : (k n : ℕ) → IsStepBy (step (setting_of t) old.left (choice choices) old.store) old (answer.Fault k n) new → IsInterleavedFrom t first (Fault k n)
  faults k n h = (here, f.reached, λ i. ended_by t ((sym as_there ∙ fault_is (step (setting_of t) old.left (choice choices) old.store) old new k n h) i) f.store)

  -- where no step follows
  pub follows_to : (r : Step) → is_last r ≡ true → IsStepBy (step (setting_of t) old.left (choice choices) old.store) old r new → new.tree ≡ t → (o : Outcome) → IsOutcomeBy r new o → IsInterleavedFrom t first o
  follows_to answer.Went last h tree o is = absurd cc
  follows_to answer.Ended last h tree o is = ends h o (is ∙ (λ i. outcome_of (tree i) (going ((same_run (step (setting_of t) old.left (choice choices) old.store) old new h).store i))))
  follows_to (answer.Fault k n) last h tree o is = subst (λ (x : Outcome). IsInterleavedFrom t first x) (sym is) (faults k n h)
