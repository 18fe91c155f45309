-- The result of a step of a part of a machine (this project).
use Rattle.std.specs.Prelude.{◌≡◌, ℕ, true, Result, Ok, Err}
use Rattle.ped_tree.specs.Tree.{StmtTree}
use Rattle.ped_symbols.specs.Kinds.{Table}
use Rattle.ped_store.specs.Cells.{Cell}
use Rattle.ped_store.specs.Stores.{Store}
use Rattle.ped_store.specs.Memories.{Memory}
use Rattle.ped_store.specs.Acts.{store_behind}
use Rattle.ped_interleavings.specs.ped_eval.specs.Scopes.{Scope}
use Rattle.ped_interleavings.specs.ped_eval.specs.Readiness.{setting_by}
use Rattle.ped_interleavings.specs.Lefts.{Left}
use Rattle.ped_interleavings.specs.Steps.{Next, over, met, went, halted, begun}
use Rattle.ped_machine.specs.declared.steps.Done.{Done}
use Rattle.ped_machine.specs.declared.steps.Done.TheVariants as done

-- the answer says what the result of the step is: the rest after it, and the store after it
abbrev pub IsDone : Next → Left → Store → Done → Left → Store → Type 0
IsDone over left old done.Ended rest new = (rest ≡ left) × (new ≡ old)
IsDone (met fault statement) left old (done.Fault number n) rest new = (number ≡ fault) × (n ≡ statement)
IsDone (went a l) left old done.Went rest new = (rest ≡ l) × (new ≡ store_behind a.touches old)
IsDone (halted a) left old done.Halted rest new = new ≡ store_behind a.touches old
IsDone next left old answer rest new = ⊥

-- something holds where the run may go on: not after a STOP, nor after a fault
abbrev pub IfGoing : Done → Type 0 → Type 0
IfGoing done.Went P = P
IfGoing done.Ended P = P
IfGoing done.Halted P = Unit {0}
IfGoing (done.Fault number n) P = Unit {0}

-- the same, also where memory runs out
abbrev pub IfOpen : {E : Type 0} → Result Done E → Type 0 → Type 0
IfOpen (Ok d) P = IfGoing d P
IfOpen (Err e) P = P

-- something holds but after a fault
abbrev pub IfSafe : {E : Type 0} → Result Done E → Type 0 → Type 0
IfSafe (Ok (done.Fault number n)) P = Unit {0}
IfSafe (Ok done.Went) P = P
IfSafe (Ok done.Ended) P = P
IfSafe (Ok done.Halted) P = P
IfSafe (Err e) P = P

-- arrays have the same bounds, and all cells that existed still exist
pub record HasGrown (old new : Memory) : Type 0 where
  pub bounds : new.bounds ≡ old.bounds
  pub stands : (c : Cell) → old.stands c ≡ true → new.stands c ≡ true

-- no cell has changed, and all that existed still exist
pub record HasRoom (old new : Memory) : Type 0 where
  pub cells : new.cells ≡ old.cells
  pub grown : HasGrown old new

-- the statement with number n has been begun so, where the rest is what follows it
abbrev pub IsActed : Table → Scope → ℕ → StmtTree → Memory → Done → Memory → Type 0
IsActed table scope n t old d new = (left rest : Left) → IsDone (begun (setting_by table) t n scope rest old.cells) left old.cells d rest new.cells
