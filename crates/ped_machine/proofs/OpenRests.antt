-- Steps of the loop that is open in what is left.
use Rattle.std.proofs.Common.{◌≡◌, ◌<◌, ℕ, ◌/◌, ◌%◌, List, Option, Some, None, Result, Ok, Err, sym, ap, ◌∙◌}
use Rattle.std.specs.Prelude.{IfOk, OnErr}
use Rattle.ped_tree.specs.Views.{head_of}
use Rattle.ped_store.specs.Stores.{Store}
use Rattle.ped_store.specs.Memories.{Memory}
use Rattle.ped_interleavings.specs.ped_eval.specs.Scopes.{Setting, Scope}
use Rattle.ped_interleavings.specs.ped_eval.specs.Plans.{entered_by}
use Rattle.ped_interleavings.specs.ped_eval.specs.Turns.{exited}
use Rattle.ped_interleavings.specs.Lefts.{Left, open_loop, unfinished, or_else, with_left}
use Rattle.ped_interleavings.specs.Steps.{step}
use Rattle.ped_machine.specs.declared.opens.Open.{Open}
use Rattle.ped_machine.specs.declared.rests.Rest.{Rest}
use Rattle.ped_machine.specs.declared.steps.Done as answer
use Rattle.ped_machine.specs.declared.steps.Done.TheVariants as done
use Rattle.ped_machine.specs.Doing.{IsDone, IfOpen, HasRoom}
use Rattle.ped_machine.specs.Parts.{Part, parts_of, parts_left}
use Rattle.ped_machine.specs.Opens.{lefts_of, open_entered, place_left, open_left, IsSameLoop, IsSameElsewhere}
use Rattle.ped_machine.specs.Rests.{opened_left, rest_left}
use Rattle.ped_machine.proofs.OpenSteps.{loop_there, loop_before, open_done, close_done}
use Rattle.ped_machine.proofs.Resting.{done_by, none_inner}

module _ {C : Type 0} (left : C → Left) (scope : Scope) (old : Rest C) (o : Open C) (was : old.inner ≡ Some o) where
  some_inner : rest_left left scope old ≡ open_left left scope o (parts_left (parts_of old.parts) scope)
  some_inner = ap (λ (x : Option (Open C)). opened_left left scope x (parts_left (parts_of old.parts) scope)) was

  -- the iteration that is picked
  abbrev pub IsPicked : ℕ → ℕ → Type 0
  IsPicked c j =
      Some j ≡ or_else (unfinished (c % o.plan.count) (lefts_of o.plan.count (place_left left scope o))) (unfinished 0 (lefts_of o.plan.count (place_left left scope o)))

  module _ (new : Rest C) (q : Open C) (inner : Scope) (is : new.inner ≡ Some q) (parts : parts_of new.parts ≡ parts_of old.parts) (there : inner ≡ scope) where
    new_inner : rest_left left inner new ≡ open_left left scope q (parts_left (parts_of old.parts) scope)
    new_inner =
        ap (λ (z : Scope). rest_left left z new) there ∙ ap (λ (x : Option (Open C)). opened_left left scope x (parts_left (parts_of new.parts) scope)) is
        ∙ ap (λ (ps : List Part). open_left left scope q (parts_left ps scope)) parts

    module _ {E : Type 0} (r : Result answer.Done E) (j : ℕ) (less : j < o.plan.count) (same : IfOpen r (IsSameLoop o q)) (elsewhere : IfOpen r (IsSameElsewhere left scope j o q)) where
      -- a step of an iteration is one of all that is left
      pub picked_done : (p : Setting) (c : ℕ) (s u : Store) → IsPicked c j
          → IfOk r (λ d. IsDone (step p (place_left left scope o j) (c / o.plan.count) s) (place_left left scope o j) s d (place_left left scope q j) u)
          → IfOk r (λ d. IsDone (step p (rest_left left scope old) c s) (rest_left left scope old) s d (rest_left left inner new) u)
      picked_done p c s u picked h = by r same elsewhere h
        where
          by : (x : Result answer.Done E) → IfOpen x (IsSameLoop o q) → IfOpen x (IsSameElsewhere left scope j o q)
              → IfOk x (λ d. IsDone (step p (place_left left scope o j) (c / o.plan.count) s) (place_left left scope o j) s d (place_left left scope q j) u)
              → IfOk x (λ d. IsDone (step p (rest_left left scope old) c s) (rest_left left scope old) s d (rest_left left inner new) u)
          by (Ok d) a b k =
              let rest = parts_left (parts_of old.parts) scope in
              done_by p c s u d (rest_left left scope old) (rest_left left inner new) (open_left left scope o rest) (open_left left scope q rest) some_inner new_inner
              (open_done left scope o q rest p c s u j d (sym picked) less k a b)
          by (Err x) a b k = tt

      -- after want of memory the same is left
      pub picked_kept : (m after : Memory) → OnErr r ((place_left left scope q j ≡ place_left left scope o j) × HasRoom m after)
          → OnErr r ((inner ≡ scope) × (rest_left left scope new ≡ rest_left left scope old) × HasRoom m after)
      picked_kept m after h = by r same elsewhere h
        where
          by : (x : Result answer.Done E) → IfOpen x (IsSameLoop o q) → IfOpen x (IsSameElsewhere left scope j o q) → OnErr x ((place_left left scope q j ≡ place_left left scope o j) × HasRoom m after)
              → OnErr x ((inner ≡ scope) × (rest_left left scope new ≡ rest_left left scope old) × HasRoom m after)
          by (Ok d) a b k = tt
          by (Err x) a b k =
              let rest = parts_left (parts_of old.parts) scope in (
                there,
                sym (ap (λ (z : Scope). rest_left left z new) there) ∙ new_inner ∙ loop_there left scope o q rest j less a b
                    ∙ ap (λ (l : Left). open_loop (open_entered o) o.plan.number scope (with_left j l (lefts_of o.plan.count (place_left left scope o))) rest) k.0
                    ∙ sym (loop_before left scope o q rest j less) ∙ sym some_inner,
                k.1,
              )

  -- the close of the loop is a step of all that is left
  pub closed_done : (p : Setting) (c : ℕ) (m after : Memory) (new : Rest C) (inner : Scope) → None ≡ or_else (unfinished (c % o.plan.count) (lefts_of o.plan.count (place_left left scope o))) (unfinished 0 (lefts_of o.plan.count (place_left left scope o)))
      → new.inner ≡ None → parts_of new.parts ≡ parts_of old.parts → inner ≡ scope → after ≡ exited (entered_by (head_of o.d.now) o.plan 0) scope m
      → IsDone (step p (rest_left left scope old) c m.cells) (rest_left left scope old) m.cells done.Went (rest_left left inner new) after.cells
  closed_done p c m after new inner none is parts there exit =
      let rest = parts_left (parts_of old.parts) scope in
      done_by p c m.cells after.cells done.Went (rest_left left scope old) (rest_left left inner new) (open_left left scope o rest) rest some_inner
      (ap (λ (z : Scope). rest_left left z new) there ∙ none_inner left scope new is ∙ ap (λ (ps : List Part). parts_left ps scope) parts)
      (close_done left scope o o rest p c m after none exit)
