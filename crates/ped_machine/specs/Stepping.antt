-- Steps of iterations that have been started (this project).
use Rattle.std.specs.Prelude.{◌≡◌, ℕ, Bool, true, false, Some, None, Result, IfOk, OnErr}
use Rattle.std.specs.List.{list_all}
use Rattle.slab.specs.Slab.{Slab, get, Updates}
use Rattle.ped_marks.specs.declared.marks.Mark.TheVariants.{Running, Done}
use Rattle.ped_symbols.specs.Kinds.{Table}
use Rattle.ped_store.specs.Cells.{Cell}
use Rattle.ped_store.specs.Memories.{Memory}
use Rattle.ped_interleavings.specs.ped_eval.specs.Scopes.{Scope}
use Rattle.ped_interleavings.specs.ped_eval.specs.Readiness.{setting_by}
use Rattle.ped_interleavings.specs.Lefts.{Left, is_finished}
use Rattle.ped_interleavings.specs.Steps.{step}
use Rattle.ped_machine.specs.Bases.{is_own, HasKept, HasSameBut}
use Rattle.ped_machine.specs.Naming.{HasForgottenSpent}
use Rattle.ped_machine.specs.Doing.{IsDone, IfOpen, IfSafe, HasRoom}
use Rattle.ped_machine.specs.Opens.{HasMarked}
use Rattle.ped_machine.specs.declared.opens.Open.{Open}
use Rattle.ped_machine.specs.declared.steps.Done as answer

module _ {C : Type 0} (left : C → Left) (base : C → Scope) (sound : C → Table → (Cell → Bool) → Type 0) where
  -- an iteration has done a step, or wanted memory for it
  pub record HasStepped {E : Type 0} (table : Table) (key choice : ℕ) (old new : Slab C) (m after : Memory) (r : Result answer.Done E) : Type 0 where
    pub task : C
    pub behind : C
    pub was : get old key ≡ Some task
    pub tasks : Updates old new key (Some behind)
    pub does : IfOk r (λ d. IsDone (step (setting_by table) (left task) choice m.cells) (left task) m.cells d (left behind) after.cells)
    pub kept : OnErr r ((left behind ≡ left task) × HasRoom m after)
    pub inside : IfSafe r (base behind ≡ base task)
    pub safe : IfOpen r (sound behind table after.stands)

  -- an iteration is reported to be over or not, and has the same rest as before
  pub record IsLookedAt (key : ℕ) (old new : Slab C) (over : Bool) : Type 0 where
    pub task : C
    pub behind : C
    pub was : get old key ≡ Some task
    pub tasks : Updates old new key (Some behind)
    pub same : left behind ≡ left task
    pub inside : base behind ≡ base task
    pub tells : over ≡ is_finished (left task)
    pub safe : (table : Table) (stands : Cell → Bool) → sound task table stands → sound behind table stands

  -- an iteration that is over is dropped and marked as finished, and copies with it that hold nothing; another is kept
  abbrev pub IsSettledBy : Bool → C → C → ℕ → ℕ → Open C → Open C → Type 0
  IsSettledBy true task behind place key old new = HasMarked None Done place key old new
  IsSettledBy false task behind place key old new = HasMarked (Some behind) (Running key) place key old new

  pub record HasSettled (place key : ℕ) (old new : Open C) (m after : Memory) : Type 0 where
    pub task : C
    pub behind : C
    pub was : get old.tasks key ≡ Some task
    pub same : left behind ≡ left task
    pub inside : base behind ≡ base task
    pub cells : after.cells ≡ m.cells
    pub kept : list_all (is_own (base task)) old.plan.copied ≡ true → HasKept (base task) m after
    pub unchanged : is_finished (left task) ≡ false → after ≡ m
    pub safe : (table : Table) (stands : Cell → Bool) → sound task table stands → sound behind table stands
    pub settled : IsSettledBy (is_finished (left task)) task behind place key old new

  -- the copies of iterations inside of one that the latest step has finished have been forgotten
  pub record HasForgottenIn (key : ℕ) (old new : Slab C) (m after : Memory) : Type 0 where
    pub task : C
    pub behind : C
    pub was : get old key ≡ Some task
    pub tasks : Updates old new key (Some behind)
    pub same : left behind ≡ left task
    pub inside : base behind ≡ base task
    pub cells : HasForgottenSpent (left task) m after
    pub others : HasSameBut (base task) m after
    pub kept : HasKept (base task) m after
    pub safe : (table : Table) → sound task table m.stands → sound behind table after.stands
