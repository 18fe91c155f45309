-- What a step of an iteration of an open loop leaves of the loop.
use Rattle.std.proofs.Common.{◌≡◌, ◌≢◌, ◌<◌, ℕ, ◌+◌, length, Bool, true, false, Option, Some, None, Result, Ok, Err, eqb-true, if◌then◌else◌, refl, sym, ap, subst, ◌∙◌, arith}
use Rattle.std.specs.Prelude.{◌==◌}
use Rattle.slab.specs.Slab.{get, Updates}
use Rattle.ped_marks.specs.declared.marks.Mark.{Mark}
use Rattle.ped_marks.specs.declared.marks.Mark.TheVariants.{Running, Done}
use Rattle.ped_marks.specs.Marks.{at}
use Rattle.ped_symbols.specs.Kinds.{Table}
use Rattle.ped_store.specs.Cells.{Cell}
use Rattle.ped_store.specs.Stores.{Store}
use Rattle.ped_store.specs.Memories.{Memory}
use Rattle.std.specs.List.{list_all}
use Rattle.ped_interleavings.specs.ped_eval.specs.Loops.{frame, copied_names}
use Rattle.ped_interleavings.specs.ped_eval.proofs.Copies.{all_among}
use Rattle.ped_interleavings.specs.ped_eval.specs.Scopes.{Scope}
use Rattle.ped_interleavings.specs.ped_eval.specs.Readiness.{setting_by}
use Rattle.ped_interleavings.specs.Steps.{step}
use Rattle.ped_interleavings.specs.Lefts.{Left, is_finished}
use Rattle.ped_machine.specs.declared.opens.Open.{Open}
use Rattle.ped_machine.specs.declared.steps.Done as answer
use Rattle.ped_machine.specs.declared.steps.Done.TheVariants as done
use Rattle.ped_machine.specs.Bases.{IsInside, is_own, HasKept}
use Rattle.ped_machine.specs.Doing.{IsDone, IfGoing, IfSafe}
use Rattle.ped_machine.proofs.OpenSteps.{if_going, both_going, safe_going}
use Rattle.ped_machine.proofs.Dropping.{apart_inside, kept_twice}
use Rattle.ped_machine.specs.Growth.{MoreNear}
use Rattle.ped_machine.specs.Opens.{kept_left, open_entered, place_left, place_scope, IsSameLoop, HasMarked, IsSameElsewhere, IsOpen}
use Rattle.ped_machine.specs.Stepping.{HasStepped, IsSettledBy, HasSettled}
use Rattle.ped_machine.proofs.Opening.{Grows, left_by, is_nothing, marked_there, marked_elsewhere, marked_open, running_apart}

-- a mark behind a step is one of the loop as it was
pub behind_step : {C : Type 0} (slot : Option C) (mark : Mark) (place key : ℕ) (old mid new : Open C) (task : Option C) → IsSameLoop old mid → mid.marks ≡ old.marks → Updates old.tasks mid.tasks key task
    → HasMarked slot mark place key mid new → HasMarked slot mark place key old new
behind_step slot mark place key old mid new task s e u h = record {
  same = record { d = h.same.d ∙ s.d; plan = h.same.plan ∙ s.plan };
  tasks = record { changed = h.tasks.changed; others = λ k d. h.tasks.others k d ∙ u.others k d };
  count = h.count ∙ ap length e;
  marks = λ k. h.marks k ∙ ap (λ ms. if k == place then mark else at ms k) e;
}

itself : (n : ℕ) → (n == n) ≡ true
itself n = grind (arith, eqb-true)

-- an iteration that runs keeps its mark
pub same_mark : {C : Type 0} (task : C) (place key : ℕ) (old new : Open C) → IsSameLoop old new → new.marks ≡ old.marks → Updates old.tasks new.tasks key (Some task) → at old.marks place ≡ Running key → HasMarked (Some task) (Running key) place key old new
same_mark task place key old new s e u r = record {
  same = s;
  tasks = u;
  count = ap length e;
  marks = λ k. ap (λ ms. at ms k) e ∙ by k (k == place) refl;
}
  where
    by : (k : ℕ) (b : Bool) → (k == place) ≡ b → at old.marks k ≡ (if k == place then Running key else at old.marks k)
    by k true q = ap (at old.marks) (eqb-true k place q) ∙ r ∙ sym (ap (λ b. if b then Running key else at old.marks k) q)
    by k false q = sym (ap (λ b. if b then Running key else at old.marks k) q)

-- what an iteration drops no other needs
pub apart_near : {C : Type 0} (scope : Scope) (old : Open C) (place : ℕ) (stands more : Cell → Bool) → ((c : Cell) → (IsInside (place_scope scope old place) c → ⊥) → stands c ≡ true → more c ≡ true)
    → (j : ℕ) → j ≢ place → MoreNear (place_scope scope old j) stands more
apart_near scope old place stands more kept j d c n =
    kept c (λ q. let e : place + 1 ≡ j + 1 = apart_inside (frame (open_entered old) (place + 1)) (frame (open_entered old) (j + 1)) scope c q n in d (omega (arith, e)))

-- the names of which an iteration has copies are its own
pub own_names : {C : Type 0} (scope : Scope) (o : Open C) (place : ℕ) → o.plan.copied ≡ copied_names (open_entered o) → list_all (is_own (place_scope scope o place)) o.plan.copied ≡ true
own_names scope o place e = ap (list_all (is_own (place_scope scope o place))) e ∙ all_among (copied_names (open_entered o))

-- what holds but behind a fault follows from what does so
pub safe_both : {E : Type 0} (r : Result answer.Done E) (P Q R : Type 0) → (P → Q → R) → IfSafe r P → IfSafe r Q → IfSafe r R
safe_both (Ok done.Ended) P Q R f g h = f g h
safe_both (Ok done.Went) P Q R f g h = f g h
safe_both (Ok done.Halted) P Q R f g h = f g h
safe_both (Ok (done.Fault k i)) P Q R f g h = tt
safe_both (Err x) P Q R f g h = f g h

module _ {C : Type 0} (left : C → Left) (base : C → Scope) (sound : C → Table → (Cell → Bool) → Type 0) (scope : Scope) (table : Table) (stands : Cell → Bool)
    (old : Open C) (place key : ℕ) (o : IsOpen left base sound table stands scope old) (there : place < old.plan.count) (running : at old.marks place ≡ Running key) where
  -- what the iteration had left
  pub had_left : (task : C) → get old.tasks key ≡ Some task → place_left left scope old place ≡ left task
  had_left task was = left_by left base sound scope old place (Running key) running ∙ ap (kept_left left) was

  module _ (new : Open C) (behind : C) where
    -- what it has left, finished or not
    pub has_left : (over : Bool) (last : C) → is_finished (left behind) ≡ over → left last ≡ left behind → IsSettledBy left base sound over behind last place key old new → place_left left scope new place ≡ left behind
    has_left true last f s h = marked_there left base sound scope None Done place key old new h ∙ sym (is_nothing (left behind) f)
    has_left false last f s h = marked_there left base sound scope (Some last) (Running key) place key old new h ∙ ap (kept_left left) h.tasks.changed ∙ s

    pub has_elsewhere : (over : Bool) (last : C) → IsSettledBy left base sound over behind last place key old new → IsSameElsewhere left scope place old new
    has_elsewhere true last h = marked_elsewhere left base sound scope None Done place key old new h (running_apart left base sound scope table stands old place key o there running)
    has_elsewhere false last h = marked_elsewhere left base sound scope (Some last) (Running key) place key old new h (running_apart left base sound scope table stands old place key o there running)

    pub has_open : (more : Cell → Bool) → Grows left base sound scope → ((c : Cell) → (IsInside (place_scope scope old place) c → ⊥) → stands c ≡ true → more c ≡ true)
        → (over : Bool) (last : C) → is_finished (left behind) ≡ over → left last ≡ left behind → base last ≡ place_scope scope old place → (over ≡ false → sound last table more) → IsSettledBy left base sound over behind last place key old new → IsOpen left base sound table more scope new
    has_open more grows kept true last f s at_base safe h =
        marked_open left base sound scope None Done place key old new h (running_apart left base sound scope table stands old place key o there running) table stands more grows (apart_near scope old place stands more kept) o
        (λ k e. absurd cc)
    has_open more grows kept false last f s at_base safe h =
        marked_open left base sound scope (Some last) (Running key) place key old new h (running_apart left base sound scope table stands old place key o there running) table stands more grows (apart_near scope old place stands more kept) o
        (λ k e. let w : k ≡ key = cc in (w, record { task = last; kept = h.tasks.changed; inside = at_base; unfinished = ap is_finished s ∙ f; safe = safe refl }, o.real place key there running))

pub some_is : {A : Type 0} (x y : A) → ◌≡◌ {A = Option A} (Some x) (Some y) → x ≡ y
some_is x y h = cc

settled_whole : {C : Type 0} (left : C → Left) (base : C → Scope) (sound : C → Table → (Cell → Bool) → Type 0) (over : Bool) (t b : C) (task : Option C) (place key : ℕ) (old mid new : Open C) → IsSameLoop old mid → mid.marks ≡ old.marks → Updates old.tasks mid.tasks key task
    → IsSettledBy left base sound over t b place key mid new → IsSettledBy left base sound over t b place key old new
settled_whole left base sound true t b task place key old mid new s e u h = behind_step None Done place key old mid new task s e u h
settled_whole left base sound false t b task place key old mid new s e u h = behind_step (Some b) (Running key) place key old mid new task s e u h

settled_same : {C : Type 0} (left : C → Left) (base : C → Scope) (sound : C → Table → (Cell → Bool) → Type 0) (over : Bool) (t b : C) (place key : ℕ) (old new : Open C) → IsSettledBy left base sound over t b place key old new → IsSameLoop old new
settled_same left base sound true t b place key old new h = h.same
settled_same left base sound false t b place key old new h = h.same

module _ {C E : Type 0} (left : C → Left) (base : C → Scope) (sound : C → Table → (Cell → Bool) → Type 0) (scope : Scope) (table : Table) (m after last : Memory) (choice : ℕ)
    (old mid new : Open C) (place key : ℕ) (o : IsOpen left base sound table m.stands scope old) (there : place < old.plan.count) (running : at old.marks place ≡ Running key)
    (d : answer.Done) (st : HasStepped left base sound {E = E} table key choice old.tasks mid.tasks m after (Ok d)) (same : IsSameLoop old mid) (marks : mid.marks ≡ old.marks) (se : HasSettled left base sound place key mid new after last) where
  task_is : se.task ≡ st.behind
  task_is = some_is se.task st.behind (sym se.was ∙ st.tasks.changed)

  settled_by : IsSettledBy left base sound (is_finished (left st.behind)) st.behind se.behind place key old new
  settled_by =
      settled_whole left base sound (is_finished (left st.behind)) st.behind se.behind (Some st.behind) place key old mid new same marks st.tasks
      (subst (λ (t : C). IsSettledBy left base sound (is_finished (left t)) t se.behind place key mid new) task_is se.settled)

  last_same : left se.behind ≡ left st.behind
  last_same = se.same ∙ ap left task_is

  pub step_same : IsSameLoop old new
  step_same = settled_same left base sound (is_finished (left st.behind)) st.behind se.behind place key old new settled_by

  pub step_elsewhere : IsSameElsewhere left scope place old new
  step_elsewhere = has_elsewhere left base sound scope table m.stands old place key o there running new st.behind (is_finished (left st.behind)) se.behind settled_by

  base_is : base st.task ≡ place_scope scope old place
  base_is = let r = o.running place key there running in ap base (some_is st.task r.task (sym st.was ∙ r.kept)) ∙ r.inside

  copied_is : mid.plan.copied ≡ old.plan.copied
  copied_is = λ i. (same.plan i).copied

  dropped : base st.behind ≡ base st.task → HasKept (place_scope scope old place) after last
  dropped e =
      let b : base se.task ≡ place_scope scope old place = ap base task_is ∙ e ∙ base_is in
      subst (λ (z : Scope). HasKept z after last) b
      (se.kept (subst (λ (z : Scope). list_all (is_own z) mid.plan.copied ≡ true) (sym b) (ap (list_all (is_own (place_scope scope old place))) copied_is ∙ own_names scope old place o.plan.copied)))

  -- what stood stands still, but for copies of the iteration
  pub step_kept : IfSafe {E = E} (Ok d) (HasKept (base st.task) m after) → IfSafe {E = E} (Ok d) (HasKept (place_scope scope old place) m last)
  step_kept grown =
      safe_both {E = E} (Ok d) (HasKept (base st.task) m after) (base st.behind ≡ base st.task) _
      (λ h e. kept_twice (place_scope scope old place) m after last (subst (λ (z : Scope). HasKept z m after) base_is h) (dropped e))
      grown st.inside

  pub step_does : IsDone (step (setting_by table) (place_left left scope old place) choice m.cells) (place_left left scope old place) m.cells d (place_left left scope new place) last.cells
  step_does =
      subst (λ (u : Store). IsDone (step (setting_by table) (place_left left scope old place) choice m.cells) (place_left left scope old place) m.cells d (place_left left scope new place) u) (sym se.cells)
      (subst (λ (l : Left). IsDone (step (setting_by table) l choice m.cells) l m.cells d (place_left left scope new place) after.cells)
      (sym (had_left left base sound scope table m.stands old place key o there running st.task st.was))
      (subst (λ (l : Left). IsDone (step (setting_by table) (left st.task) choice m.cells) (left st.task) m.cells d l after.cells)
      (sym (has_left left base sound scope table m.stands old place key o there running new st.behind (is_finished (left st.behind)) se.behind refl last_same settled_by))
      st.does))

  safe_last : sound st.behind table after.stands → is_finished (left st.behind) ≡ false → sound se.behind table last.stands
  safe_last h f =
      subst (λ (k : Memory). sound se.behind table k.stands) (sym (se.unchanged (ap (λ (t : C). is_finished (left t)) task_is ∙ f)))
      (se.safe table after.stands (subst (λ (t : C). sound t table after.stands) (sym task_is) h))

  pub step_open : Grows left base sound scope → IfSafe {E = E} (Ok d) (HasKept (base st.task) m after) → IfGoing d (IsOpen left base sound table last.stands scope new)
  step_open grows grown =
      if_going d (sound st.behind table after.stands × (HasKept (place_scope scope old place) m last × (base st.behind ≡ base st.task))) _
      (λ q. has_open left base sound scope table m.stands old place key o there running new st.behind last.stands grows q.1.0.stands (is_finished (left st.behind)) se.behind refl last_same
      (se.inside ∙ ap base task_is ∙ q.1.1 ∙ base_is) (safe_last q.0) settled_by)
      (both_going d _ _ st.safe (both_going d _ _ (safe_going E d _ _ (λ h. h) (step_kept grown)) (safe_going E d _ _ (λ h. h) st.inside)))

module _ {C E : Type 0} (left : C → Left) (base : C → Scope) (sound : C → Table → (Cell → Bool) → Type 0) (scope : Scope) (table : Table) (m after : Memory) (choice : ℕ)
    (old mid : Open C) (place key : ℕ) (o : IsOpen left base sound table m.stands scope old) (there : place < old.plan.count) (running : at old.marks place ≡ Running key)
    (x : E) (st : HasStepped left base sound {E = E} table key choice old.tasks mid.tasks m after (Err x)) (same : IsSameLoop old mid) (marks : mid.marks ≡ old.marks) where
  -- after want of memory all that is left of the loop can be done
  pub wanted_open : Grows left base sound scope → IsOpen left base sound table after.stands scope mid
  wanted_open grows =
      let r = o.running place key there running in
      let is : r.task ≡ st.task = some_is r.task st.task (sym r.kept ∙ st.was) in
      marked_open left base sound scope (Some st.behind) (Running key) place key old mid (same_mark st.behind place key old mid same marks st.tasks running) (running_apart left base sound scope table m.stands old place key o there running) table m.stands after.stands
      grows (λ j d c n. st.kept.1.grown.stands c) o
      (λ k e.
      let w : k ≡ key = cc in (
        w,
        record {
          task = st.behind;
          kept = st.tasks.changed;
          inside = st.inside ∙ sym (ap base is) ∙ r.inside;
          unfinished = ap is_finished st.kept.0 ∙ sym (ap (λ t. is_finished (left t)) is) ∙ r.unfinished;
          safe = st.safe;
        },
        o.real place key there running,
      ))
