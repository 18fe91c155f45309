-- Open PARALLEL DO loops of the code, and what each of their iterations has left (this project).
use Rattle.std.specs.Prelude.{◌≡◌, ◌≢◌, ◌<◌, ◌+◌, ◌==◌, ◌⊎◌, ℕ, zero, suc, [], ◌∷◌, length, Bool, true, false, Option, Some, None, if◌then◌else◌}
use Rattle.slab.specs.Slab.{Slab, get, Updates}
use Rattle.ped_marks.specs.declared.marks.Mark.{Mark}
use Rattle.ped_marks.specs.declared.marks.Mark.TheVariants.{Waits, Running, Done}
use Rattle.ped_marks.specs.Marks.{at}
use Rattle.ped_tree.specs.Tree.{StmtTrees}
use Rattle.ped_tree.specs.Views.{head_of, stmt_trees, do_tree}
use Rattle.ped_symbols.specs.Kinds.{Table}
use Rattle.ped_store.specs.Cells.{Cell}
use Rattle.ped_store.specs.Memories.{Memory}
use Rattle.ped_machine.specs.Bases.{IsInside}
use Rattle.ped_machine.specs.Naming.{IsSpentCell}
use Rattle.ped_interleavings.specs.ped_eval.specs.Scopes.{Scope}
use Rattle.ped_interleavings.specs.ped_eval.specs.Loops.{Entered, frame}
use Rattle.ped_interleavings.specs.ped_eval.specs.Plans.{entered_by, IsPlan}
use Rattle.ped_interleavings.specs.ped_eval.specs.Readiness.{CanDo}
use Rattle.ped_interleavings.specs.Lefts.{Left, finished, open_loop, Lefts, no_lefts, more_lefts, is_finished, left_of_all, body_left}
use Rattle.ped_machine.specs.declared.opens.Open.{Open}

-- the rest of a task, where one is kept
abbrev pub kept_left : {C : Type 0} → (C → Left) → Option C → Left
kept_left left None = finished
kept_left left (Some task) = left task

-- what an iteration has left by its mark: all its body while it waits, and nothing when it is done
abbrev pub mark_left : {C : Type 0} → (C → Left) → Slab C → Mark → Left → Left
mark_left left tasks Waits body = body
mark_left left tasks (Running key) body = kept_left left (get tasks key)
mark_left left tasks Done body = finished

-- this number of items by their places, from 0
abbrev pub lefts_of : ℕ → (ℕ → Left) → Lefts
lefts_of zero item = no_lefts
lefts_of (suc n) item = more_lefts (item 0) (lefts_of n (λ j. item (suc j)))

-- a loop as it was entered
abbrev pub open_entered : {C : Type 0} → Open C → Entered
open_entered o = entered_by (head_of o.d.now) o.plan o.plan.behind

-- the iterations of an iteration of the loop
abbrev pub place_scope : {C : Type 0} → Scope → Open C → ℕ → Scope
place_scope scope o j = frame (open_entered o) (j + 1) ∷ scope

-- statements that have nothing but comments
abbrev pub is_bare : StmtTrees → Bool
is_bare body = is_finished (left_of_all body 0 [] finished)

-- the same loop
pub record IsSameLoop {C : Type 0} (old new : Open C) : Type 0 where
  pub d : new.d ≡ old.d
  pub plan : new.plan ≡ old.plan

-- an iteration has this mark, and this is kept under its key; the others are as they were
pub record HasMarked {C : Type 0} (slot : Option C) (mark : Mark) (place key : ℕ) (old new : Open C) : Type 0 where
  pub same : IsSameLoop old new
  pub tasks : Updates old.tasks new.tasks key slot
  pub count : length new.marks ≡ length old.marks
  pub marks : (k : ℕ) → at new.marks k ≡ (if k == place then mark else at old.marks k)

module _ {C : Type 0} (left : C → Left) where
  -- what the iteration at a place has left
  abbrev pub place_left : Scope → Open C → ℕ → Left
  place_left scope o j =
      mark_left left o.tasks (at o.marks j) (body_left (open_entered o) (stmt_trees o.d.now.body.items) o.plan.number scope (j + 1) finished)

  -- the other iterations have left what they had
  abbrev pub IsSameElsewhere : Scope → ℕ → Open C → Open C → Type 0
  IsSameElsewhere scope place old new = (j : ℕ) → j < old.plan.count → j ≢ place → place_left scope new j ≡ place_left scope old j

  -- the rest of a loop and what follows it
  abbrev pub open_left : Scope → Open C → Left → Left
  open_left scope o rest = open_loop (open_entered o) o.plan.number scope (lefts_of o.plan.count (place_left scope o)) rest

  -- the cell is a copy of the iteration at a place, which is finished, or of a finished one inside of it
  pub record IsForgottenAt (scope : Scope) (o : Open C) (c : Cell) : Type 0 where
    pub place : ℕ
    pub less : place < o.plan.count
    pub inside : IsInside (place_scope scope o place) c
    pub spent : (is_finished (place_left scope o place) ≡ true) ⊎ IsSpentCell (place_left scope o place) c

  -- each cell holds what it held, or is such a copy
  abbrev pub HasForgottenAt : Scope → Open C → Memory → Memory → Type 0
  HasForgottenAt scope o old new = (c : Cell) → (new.cells c ≡ old.cells c) ⊎ IsForgottenAt scope o c

  module _ (base : C → Scope) (sound : C → Table → (Cell → Bool) → Type 0) (table : Table) (stands : Cell → Bool) where
    -- a task that runs: it is in these iterations, something is left of it, and all of that can be done
    pub record IsRunning (tasks : Slab C) (inner : Scope) (key : ℕ) : Type 0 where
      pub task : C
      pub kept : get tasks key ≡ Some task
      pub inside : base task ≡ inner
      pub unfinished : is_finished (left task) ≡ false
      pub safe : sound task table stands

    -- the steps of an open loop can be done
    pub record IsOpen (scope : Scope) (o : Open C) : Type 0 where
      pub plan : IsPlan (head_of o.d.now) (stmt_trees o.d.now.body.items) o.plan
      pub can : CanDo table scope o.plan.number (do_tree o.d.now)
      pub some : 0 < o.plan.count
      pub marks : length o.marks ≡ o.plan.count
      pub running : (j key : ℕ) → j < o.plan.count → at o.marks j ≡ Running key → IsRunning o.tasks (place_scope scope o j) key
      pub real : (j key : ℕ) → j < o.plan.count → at o.marks j ≡ Running key → is_bare (stmt_trees o.d.now.body.items) ≡ false
      pub keys : (i j key : ℕ) → i < o.plan.count → j < o.plan.count → at o.marks i ≡ Running key → at o.marks j ≡ Running key → i ≡ j
