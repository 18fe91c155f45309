-- Steps of open loops.
use Rattle.std.proofs.Common.{◌≡◌, ◌<◌, ℕ, suc, ◌+◌, ◌-◌, ◌/◌, ◌%◌, Bool, true, Some, None, Result, Ok, Err, refl, sym, ap, subst, ◌∙◌, arith}
use Rattle.std.specs.Prelude.{IfOk, OnOk, OnErr}
use Rattle.ped_store.specs.Stores.{Store}
use Rattle.ped_store.specs.Memories.{Memory}
use Rattle.ped_tree.specs.Views.{head_of, stmt_trees}
use Rattle.ped_interleavings.specs.ped_eval.specs.Scopes.{Setting, Scope}
use Rattle.ped_interleavings.specs.ped_eval.specs.Plans.{entered_by}
use Rattle.ped_interleavings.specs.ped_eval.specs.Turns.{exited}
use Rattle.ped_interleavings.specs.Lefts.{Left, finished, open_loop, lefts_by, body_left, entered_left, unfinished, or_else, with_left}
use Rattle.ped_interleavings.specs.Steps.{Next, over, met, went, halted, inside, step}
use Rattle.ped_machine.specs.declared.opens.Open.{Open}
use Rattle.ped_machine.specs.declared.steps.Done.{Done}
use Rattle.ped_machine.specs.declared.steps.Done.TheVariants as done
use Rattle.ped_machine.specs.Doing.{IsDone, IfGoing, IfOpen, IfSafe}
use Rattle.ped_machine.specs.Opens.{lefts_of, open_entered, place_left, open_left, IsSameLoop, IsSameElsewhere}
use Rattle.ped_machine.proofs.Growing.{exit_cells}
use Rattle.ped_machine.proofs.OpenLefts.{with_of, same_of, by_numbers, picks, closes}
use Rattle.ped_machine.proofs.Opening.{left_by}
use Rattle.ped_marks.specs.Marks.{at}
use Rattle.ped_marks.specs.declared.marks.Mark.TheVariants.{Waits}
use Rattle.ped_symbols.specs.Kinds.{Table}
use Rattle.ped_store.specs.Cells.{Cell}

-- the step of an iteration is one of the loop
pub inside_done : (x : Next) (d : Done) (whole : Left → Left) (old new before behind : Left) (s u : Store) → before ≡ whole old → IfGoing d (behind ≡ whole new) → IsDone x old s d new u → IsDone (inside x whole) before s d behind u
inside_done over done.Ended whole old new before behind s u b g h = (g ∙ ap whole h.0 ∙ sym b, h.1)
inside_done over done.Went whole old new before behind s u b g h = h
inside_done over done.Halted whole old new before behind s u b g h = h
inside_done over (done.Fault f n) whole old new before behind s u b g h = h
inside_done (met f n) done.Ended whole old new before behind s u b g h = h
inside_done (met f n) done.Went whole old new before behind s u b g h = h
inside_done (met f n) done.Halted whole old new before behind s u b g h = h
inside_done (met f n) (done.Fault k i) whole old new before behind s u b g h = h
inside_done (went a l) done.Ended whole old new before behind s u b g h = h
inside_done (went a l) done.Went whole old new before behind s u b g h = (g ∙ ap whole h.0, h.1)
inside_done (went a l) done.Halted whole old new before behind s u b g h = h
inside_done (went a l) (done.Fault k i) whole old new before behind s u b g h = h
inside_done (halted a) done.Ended whole old new before behind s u b g h = h
inside_done (halted a) done.Went whole old new before behind s u b g h = h
inside_done (halted a) done.Halted whole old new before behind s u b g h = h
inside_done (halted a) (done.Fault k i) whole old new before behind s u b g h = h

-- what holds where the run goes on follows from what holds there
pub if_going : (d : Done) (P Q : Type 0) → (P → Q) → IfGoing d P → IfGoing d Q
if_going done.Ended P Q f h = f h
if_going done.Went P Q f h = f h
if_going done.Halted P Q f h = tt
if_going (done.Fault k i) P Q f h = tt

pub both_going : (d : Done) (P Q : Type 0) → IfGoing d P → IfGoing d Q → IfGoing d (P × Q)
both_going done.Ended P Q f h = (f, h)
both_going done.Went P Q f h = (f, h)
both_going done.Halted P Q f h = tt
both_going (done.Fault k i) P Q f h = tt

-- what holds but behind a fault holds where the run goes on
pub safe_going : (E : Type 0) (d : Done) (P Q : Type 0) → (P → Q) → IfSafe {E = E} (Ok d) P → IfGoing d Q
safe_going E done.Ended P Q f h = f h
safe_going E done.Went P Q f h = f h
safe_going E done.Halted P Q f h = tt
safe_going E (done.Fault k i) P Q f h = tt

-- and behind want of memory
pub safe_open : {E : Type 0} (r : Result Done E) (P Q : Type 0) → (P → Q) → IfSafe r P → IfOpen r Q
safe_open {E} (Ok d) P Q f h = safe_going E d P Q f h
safe_open (Err x) P Q f h = f h

pub open_both : {E : Type 0} (r : Result Done E) (P Q R : Type 0) → (P → Q → R) → IfOpen r P → IfOpen r Q → IfOpen r R
open_both (Ok done.Ended) P Q R f g h = f g h
open_both (Ok done.Went) P Q R f g h = f g h
open_both (Ok done.Halted) P Q R f g h = tt
open_both (Ok (done.Fault k i)) P Q R f g h = tt
open_both (Err x) P Q R f g h = f g h

-- what holds holds where there was memory
pub ok_by : {A E : Type 0} (r : Result A E) (P : Type 0) → P → OnOk r P
ok_by (Ok x) P h = h
ok_by (Err x) P h = tt

pub err_by : {A E : Type 0} (r : Result A E) (P : Type 0) → P → OnErr r P
err_by (Ok x) P h = tt
err_by (Err x) P h = h

pub err_maps : {A E : Type 0} (r : Result A E) (P Q : Type 0) → (P → Q) → OnErr r P → OnErr r Q
err_maps (Ok x) P Q f h = tt
err_maps (Err x) P Q f h = f h

-- what holds with each choice holds with this one
pub chosen : {E : Type 0} (r : Result Done E) (P : Done → ℕ → Type 0) (c : ℕ) → IfOk r (λ d. (k : ℕ) → P d k) → IfOk r (λ d. P d c)
chosen (Ok d) P c h = h c
chosen (Err x) P c h = tt

module _ {C : Type 0} (left : C → Left) (scope : Scope) (old new : Open C) (rest : Left) where
  abbrev at_place : ℕ → Left → Left
  at_place j l = open_loop (open_entered old) old.plan.number scope (with_left j l (lefts_of old.plan.count (place_left left scope old))) rest

  pub entered_same : IsSameLoop old new → open_entered new ≡ open_entered old
  entered_same h = λ i. record {
    number = (h.plan i).number;
    head = head_of (h.d i).now;
    first = (h.plan i).first;
    step = (h.plan i).step;
    count = (h.plan i).count;
    behind_bounds = (h.plan i).behind;
    inner = (h.plan i).inner;
  }

  -- the loop with what an iteration has left then
  pub loop_there : (j : ℕ) → j < old.plan.count → IsSameLoop old new → IsSameElsewhere left scope j old new → open_left left scope new rest ≡ at_place j (place_left left scope new j)
  loop_there j less same elsewhere =
      (λ i. open_loop (entered_same same i) (same.plan i).number scope (lefts_of (same.plan i).count (place_left left scope new)) rest)
      ∙ ap (λ ls. open_loop (open_entered old) old.plan.number scope ls rest) (sym (with_of old.plan.count j (place_left left scope old) (place_left left scope new) less (λ i b d. elsewhere i b d)))

  -- the loop as it was
  pub loop_before : (j : ℕ) → j < old.plan.count → open_left left scope old rest ≡ at_place j (place_left left scope old j)
  loop_before j less = ap (λ ls. open_loop (open_entered old) old.plan.number scope ls rest) (sym (with_of old.plan.count j (place_left left scope old) (place_left left scope old) less (λ i b d. refl)))

  module _ (p : Setting) (c : ℕ) (s u : Store) where
    -- a step of an iteration that is picked
    pub open_done : (j : ℕ) (d : Done) → or_else (unfinished (c % old.plan.count) (lefts_of old.plan.count (place_left left scope old))) (unfinished 0 (lefts_of old.plan.count (place_left left scope old))) ≡ Some j → j < old.plan.count
        → IsDone (step p (place_left left scope old j) (c / old.plan.count) s) (place_left left scope old j) s d (place_left left scope new j) u
        → IfGoing d (IsSameLoop old new) → IfGoing d (IsSameElsewhere left scope j old new)
        → IsDone (step p (open_left left scope old rest) c s) (open_left left scope old rest) s d (open_left left scope new rest) u
    open_done j d picked less h same elsewhere =
        subst (λ (x : Next). IsDone x (open_left left scope old rest) s d (open_left left scope new rest) u)
        (sym (picks p (open_entered old) old.plan.number old.plan.count scope (place_left left scope old) rest c s j picked less))
        (inside_done (step p (place_left left scope old j) (c / old.plan.count) s) d (at_place j) (place_left left scope old j) (place_left left scope new j) (open_left left scope old rest) (open_left left scope new rest) s u
        (loop_before j less)
        (if_going d (IsSameLoop old new × IsSameElsewhere left scope j old new) _ (λ q. loop_there j less q.0 q.1) (both_going d _ _ same elsewhere))
        h)

  -- the close of a loop
  pub close_done : (p : Setting) (c : ℕ) (m after : Memory) → None ≡ or_else (unfinished (c % old.plan.count) (lefts_of old.plan.count (place_left left scope old))) (unfinished 0 (lefts_of old.plan.count (place_left left scope old)))
      → after ≡ exited (entered_by (head_of old.d.now) old.plan 0) scope m
      → IsDone (step p (open_left left scope old rest) c m.cells) (open_left left scope old rest) m.cells done.Went rest after.cells
  close_done p c m after none is =
      subst (λ (x : Next). IsDone x (open_left left scope old rest) m.cells done.Went rest after.cells)
      (sym (closes p (open_entered old) old.plan.number old.plan.count scope (place_left left scope old) rest c m.cells (sym none)))
      (refl, (λ i. (is i).cells) ∙ exit_cells (open_entered old) scope m)

-- a loop that has just been opened
pub opened_is : {C : Type 0} (left : C → Left) (base : C → Scope) (sound : C → Table → (Cell → Bool) → Type 0) (scope : Scope) (o : Open C) (rest : Left) → 0 < o.plan.count → ((k : ℕ) → at o.marks k ≡ Waits)
    → open_left left scope o rest ≡ entered_left true o.plan.count (open_entered o) (stmt_trees o.d.now.body.items) o.plan.number scope rest
opened_is left base sound scope o rest some waits =
    let body = stmt_trees o.d.now.body.items in
    let item : ℕ → Left = λ k. body_left (open_entered o) body o.plan.number scope k finished in
    let count : o.plan.count ≡ suc (o.plan.count - 1) = omega (arith, some) in
    ap (λ ls. open_loop (open_entered o) o.plan.number scope ls rest)
    (same_of o.plan.count (place_left left scope o) (λ j. item (j + 1)) (λ j less. left_by left base sound scope o j Waits (waits j)) ∙ sym (by_numbers o.plan.count item) ∙ ap (λ (k : ℕ). lefts_by k 1 item) count)
    ∙ sym (ap (λ (k : ℕ). entered_left true k (open_entered o) body o.plan.number scope rest) count)
