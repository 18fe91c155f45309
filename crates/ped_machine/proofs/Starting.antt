-- Starting an iteration of an open loop leaves what was left, whether there is memory or not.
use Rattle.std.proofs.Common.{◌≡◌, ◌⊎◌, inl, inr, ◌<◌, ℕ, length, Bool, false, Some, None, Result, Ok, Err, refl, sym, ap, subst, ◌∙◌}
use Rattle.std.specs.Prelude.{IfOk, OnErr}
use Rattle.std.proofs.lemmas.Bool.{cases_eq}
use Rattle.slab.specs.Slab.{get, SameValues}
use Rattle.ped_marks.specs.declared.marks.Mark.{Mark}
use Rattle.ped_marks.specs.declared.marks.Mark.TheVariants.{Waits, Running, Done}
use Rattle.ped_marks.specs.Marks.{at}
use Rattle.ped_tree.specs.Views.{head_of, stmt_trees, do_tree}
use Rattle.ped_symbols.specs.Kinds.{Table}
use Rattle.ped_store.specs.Cells.{Cell}
use Rattle.ped_interleavings.specs.ped_eval.specs.Scopes.{Scope}
use Rattle.ped_interleavings.specs.ped_eval.specs.Plans.{IsPlan}
use Rattle.ped_interleavings.specs.ped_eval.specs.Readiness.{CanDo}
use Rattle.ped_interleavings.specs.ped_eval.specs.declared.plans.Plan.{Plan}
use Rattle.ped_interleavings.specs.Lefts.{Left, is_finished}
use Rattle.ped_machine.specs.declared.opens.Open.{Open}
use Rattle.ped_store.specs.Stores.{Store}
use Rattle.ped_store.specs.Memories.{Memory}
use Rattle.ped_interleavings.specs.ped_eval.specs.Scopes.{Setting}
use Rattle.ped_interleavings.specs.Steps.{step}
use Rattle.ped_machine.specs.Bases.{HasKept}
use Rattle.ped_machine.specs.Doing.{IsDone, IfSafe, HasRoom}
use Rattle.ped_machine.proofs.Dropping.{kept_twice, grown_kept}
use Rattle.ped_machine.proofs.Stepped.{safe_both}
use Rattle.ped_machine.specs.declared.steps.Done as answer
use Rattle.ped_machine.proofs.Growing.{room_twice}
use Rattle.ped_machine.specs.Opens.{kept_left, is_bare, place_left, place_scope, IsSameLoop, HasMarked, IsOpen}
use Rattle.ped_machine.specs.Growth.{More}
use Rattle.ped_machine.proofs.Opening.{whole_of, left_by, waits_finished, same_whole, same_scope, Grows, marked_there, marked_elsewhere, marked_open, free_apart}

module _ {C : Type 0} (left : C → Left) (base : C → Scope) (sound : C → Table → (Cell → Bool) → Type 0) (scope : Scope) (old new : Open C) where
  module _ (same : IsSameLoop old new) (marks : new.marks ≡ old.marks) (tasks : SameValues old.tasks new.tasks) where
    mark_kept : (j : ℕ) → at new.marks j ≡ at old.marks j
    mark_kept j = ap (λ ms. at ms j) marks

    -- where marks and tasks are as they were, so is what is left
    pub kept_same : (j : ℕ) → place_left left scope new j ≡ place_left left scope old j
    kept_same j = by (at old.marks j) refl
      where
        by : (m : Mark) → at old.marks j ≡ m → place_left left scope new j ≡ place_left left scope old j
        by Waits e = left_by left base sound scope new j Waits (mark_kept j ∙ e) ∙ same_whole left base sound scope old new j same ∙ sym (left_by left base sound scope old j Waits e)
        by (Running k) e = left_by left base sound scope new j (Running k) (mark_kept j ∙ e) ∙ ap (kept_left left) (tasks k) ∙ sym (left_by left base sound scope old j (Running k) e)
        by Done e = left_by left base sound scope new j Done (mark_kept j ∙ e) ∙ sym (left_by left base sound scope old j Done e)

    -- and all that can be done can be done where more stands
    pub kept_open : (table : Table) (stands more : Cell → Bool) → Grows left base sound scope → More stands more → IsOpen left base sound table stands scope old → IsOpen left base sound table more scope new
    kept_open table stands more grows grown o =
        let count : new.plan.count ≡ old.plan.count = λ i. (same.plan i).count in
        let less : (j : ℕ) → j < new.plan.count → j < old.plan.count = λ j l. subst (λ (n : ℕ). j < n) count l in
        record {
          plan = subst (λ (p : Plan). IsPlan (head_of new.d.now) (stmt_trees new.d.now.body.items) p) (sym same.plan) (subst (λ (d : _). IsPlan (head_of d.now) (stmt_trees d.now.body.items) old.plan) (sym same.d) o.plan);
          can = subst (λ (p : Plan). CanDo table scope p.number (do_tree new.d.now)) (sym same.plan) (subst (λ (d : _). CanDo table scope old.plan.number (do_tree d.now)) (sym same.d) o.can);
          some = subst (λ (n : ℕ). 0 < n) (sym count) o.some;
          marks = ap length marks ∙ o.marks ∙ sym count;
          running = λ j k l r.
              let t = o.running j k (less j l) (sym (mark_kept j) ∙ r) in
              record {
                task = t.task;
                kept = tasks k ∙ t.kept;
                inside = t.inside ∙ sym (same_scope left base sound scope old new j same);
                unfinished = t.unfinished;
                safe = grows t.task table stands more (λ c n. grown c) t.safe;
              };
          real = λ j k l r. ap is_bare (λ i. stmt_trees (same.d i).now.body.items) ∙ o.real j k (less j l) (sym (mark_kept j) ∙ r);
          keys = λ i j k a b r s. o.keys i j k (less i a) (less j b) (sym (mark_kept i) ∙ r) (sym (mark_kept j) ∙ s);
        }

  module _ (place : ℕ) (task : C) (waits : at old.marks place ≡ Waits) (whole : left task ≡ whole_of left base sound scope old place) (inside : base task ≡ place_scope scope old place) where
    module _ (key : ℕ) (h : HasMarked (Some task) (Running key) place key old new) (free : get old.tasks key ≡ None) where
      -- an iteration that has been started has all its body left, as before
      started_there : place_left left scope new place ≡ place_left left scope old place
      started_there =
          marked_there left base sound scope (Some task) (Running key) place key old new h
          ∙ ap (kept_left left) h.tasks.changed ∙ whole ∙ sym (left_by left base sound scope old place Waits waits)

      module _ (table : Table) (stands : Cell → Bool) (o : IsOpen left base sound table stands scope old) where
        pub started_same : (j : ℕ) → j < old.plan.count → (j ≡ place) ⊎ (j ≡ place → ⊥) → place_left left scope new j ≡ place_left left scope old j
        started_same j less (inl e) = ap (place_left left scope new) e ∙ started_there ∙ ap (place_left left scope old) (sym e)
        started_same j less (inr d) = marked_elsewhere left base sound scope (Some task) (Running key) place key old new h (free_apart left base sound scope table stands old place key o free) j less d

        pub started_open : (more : Cell → Bool) → Grows left base sound scope → More stands more → sound task table more → is_finished (place_left left scope old place) ≡ false → IsOpen left base sound table more scope new
        started_open more grows grown safe unfinished =
            marked_open left base sound scope (Some task) (Running key) place key old new h (free_apart left base sound scope table stands old place key o free) table stands more grows (λ j d c n. grown c) o
            (λ k e. (
              (let q : key ≡ k = cc in sym q),
              record {
                task = task;
                kept = h.tasks.changed;
                inside = inside;
                unfinished = ap is_finished (whole ∙ sym (left_by left base sound scope old place Waits waits)) ∙ unfinished;
                safe = safe;
              },
              sym (waits_finished left base sound scope old place waits) ∙ unfinished,
            ))

    module _ {E : Type 0} (r : Result ℕ E) (free : IfOk r (λ key. get old.tasks key ≡ None)) (marked : IfOk r (λ key. HasMarked (Some task) (Running key) place key old new))
        (kept : OnErr r (IsSameLoop old new × (new.marks ≡ old.marks) × SameValues old.tasks new.tasks)) (table : Table) (stands : Cell → Bool) (o : IsOpen left base sound table stands scope old) where
      -- all that was left of the loop is left
      pub answered_same : (j : ℕ) → j < old.plan.count → place_left left scope new j ≡ place_left left scope old j
      answered_same j less = by r free marked kept
        where
          by : (r : Result ℕ E) → IfOk r (λ key. get old.tasks key ≡ None) → IfOk r (λ key. HasMarked (Some task) (Running key) place key old new)
              → OnErr r (IsSameLoop old new × (new.marks ≡ old.marks) × SameValues old.tasks new.tasks) → place_left left scope new j ≡ place_left left scope old j
          by (Ok key) f m k = started_same key m f table stands o j less (cases_eq j place)
          by (Err e) f m k = kept_same k.0 k.1 k.2 j

      -- and can be done
      pub answered_open : (more : Cell → Bool) → Grows left base sound scope → More stands more → sound task table more → is_finished (place_left left scope old place) ≡ false → IsOpen left base sound table more scope new
      answered_open more grows grown safe unfinished = by r free marked kept
        where
          by : (r : Result ℕ E) → IfOk r (λ key. get old.tasks key ≡ None) → IfOk r (λ key. HasMarked (Some task) (Running key) place key old new)
              → OnErr r (IsSameLoop old new × (new.marks ≡ old.marks) × SameValues old.tasks new.tasks) → IsOpen left base sound table more scope new
          by (Ok key) f m k = started_open key m f table stands o more grows grown safe unfinished
          by (Err e) f m k = kept_open k.0 k.1 k.2 table stands more grows grown o

-- a step behind the start of an iteration is one of the loop as it was
module _ {C E : Type 0} (left : C → Left) (scope inner : Scope) (old mid new : Open C) (place : ℕ) (m after last : Memory) (r : Result answer.Done E) (there : inner ≡ scope)
    (same : place_left left scope mid place ≡ place_left left scope old place) (room : HasRoom m after) where
  pub started_does : (p : Setting) (c : ℕ) → IfOk r (λ d. IsDone (step p (place_left left inner mid place) c after.cells) (place_left left inner mid place) after.cells d (place_left left inner new place) last.cells)
      → IfOk r (λ d. IsDone (step p (place_left left scope old place) c m.cells) (place_left left scope old place) m.cells d (place_left left scope new place) last.cells)
  started_does p c h =
      subst (λ (s : Store). IfOk r (λ d. IsDone (step p (place_left left scope old place) c s) (place_left left scope old place) s d (place_left left scope new place) last.cells)) room.cells
      (subst (λ (l : Left). IfOk r (λ d. IsDone (step p l c after.cells) l after.cells d (place_left left scope new place) last.cells)) same
      (subst (λ (z : Scope). IfOk r (λ d. IsDone (step p (place_left left z mid place) c after.cells) (place_left left z mid place) after.cells d (place_left left z new place) last.cells)) there h))

  pub started_kept : OnErr r ((place_left left inner new place ≡ place_left left inner mid place) × HasRoom after last) → OnErr r ((place_left left scope new place ≡ place_left left scope old place) × HasRoom m last)
  started_kept h = by r (subst (λ (z : Scope). OnErr r ((place_left left z new place ≡ place_left left z mid place) × HasRoom after last)) there h)
    where
      by : (q : Result answer.Done E) → OnErr q ((place_left left scope new place ≡ place_left left scope mid place) × HasRoom after last) → OnErr q ((place_left left scope new place ≡ place_left left scope old place) × HasRoom m last)
      by (Ok d) k = tt
      by (Err x) k = (k.0 ∙ same, room_twice m after last room k.1)

-- what stood stands still, but for copies of the iteration
pub started_grown : {C E : Type 0} (left : C → Left) (base : C → Scope) (sound : C → Table → (Cell → Bool) → Type 0) (scope inner : Scope) (old mid : Open C) (place : ℕ) (m after last : Memory) (r : Result answer.Done E) → inner ≡ scope → IsSameLoop old mid → HasRoom m after
    → IfSafe r (HasKept (place_scope inner mid place) after last) → IfSafe r (HasKept (place_scope scope old place) m last)
started_grown left base sound scope inner old mid place m after last r there same room h =
    let at = place_scope scope old place in
    let e : place_scope inner mid place ≡ at = ap (λ (z : Scope). place_scope z mid place) there ∙ same_scope left base sound scope old mid place same in
    safe_both r (HasKept (place_scope inner mid place) after last) (HasKept (place_scope inner mid place) after last) (HasKept at m last)
    (λ k q. kept_twice at m after last (grown_kept at m after room.grown) (subst (λ (z : Scope). HasKept z after last) e k)) h h
