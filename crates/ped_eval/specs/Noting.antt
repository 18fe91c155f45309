-- Accesses without their place: what a statement notes while it is done (this project).
use Rattle.std.specs.Prelude.{◌≡◌, ◌==◌, ℕ, suc, ℤ, List, [], ◌∷◌, ◌++◌, map, filter, Bool, true, Result, Ok, Err}
use Rattle.ped_tree.specs.Tree.{ExprTree, CondTree}
use Rattle.ped_tree.specs.Views.{pack_exprs, expr_tree}
use Rattle.ped_tree.specs.declared.expressions.Expr.{Expr}
use Rattle.ped_store.specs.Cells.{Cell}
use Rattle.ped_store.specs.CellViews.{cell_view}
use Rattle.ped_store.specs.Acts.{Touch, Place}
use Rattle.ped_store.specs.Races.{Access, is_write, is_access}
use Rattle.ped_store.specs.Stores.{Store, undefined_read}
use Rattle.ped_store.specs.Keeping.{memory_of}
use Rattle.ped_eval.specs.Scopes.{Scope, turns_of}
use Rattle.ped_eval.specs.ScopeViews.{names_at}
use Rattle.ped_eval.specs.Evaluation.{Seen, cell_seen, numbered, number_behind}
use Rattle.ped_eval.specs.Values.{value, values, target, truth}
use Rattle.ped_eval.specs.declared.surroundings.Surroundings.{Surroundings}
use Rattle.ped_eval.specs.declared.notes.Noted as code
use Rattle.ped_eval.specs.declared.notes.Notes.{Notes}

-- an access without its place: the cell, whether it is written, and the number of the reference that does it, 0 where none does (this project)
pub record Noted : Type 0 where
  pub cell : Cell
  pub writes : Bool
  pub reference : ℕ

-- the accesses among touches, without their place (this project)
abbrev pub noted : List Touch → List Noted
noted touches = map (λ t. record { cell = t.cell; writes = is_write t.manner; reference = t.reference }) (filter is_access touches)

-- an access at a place (this project)
abbrev pub access_at : Place → Noted → Access
access_at at n = record { cell = n.cell; writes = n.writes; place = at; reference = n.reference }

-- the place of the statement with this number in these iterations (this project)
abbrev pub place_by : ℕ → Scope → Place
place_by n scope = record { statement = n; turns = turns_of scope }

-- the accesses that are noted, at the place of a statement in these iterations (this project)
abbrev pub accesses_by : ℕ → Scope → List Noted → List Access
accesses_by n scope ns = map (access_at (place_by n scope)) ns

-- an access as the code notes it (this project)
abbrev pub noted_view : code.Noted → Noted
noted_view n = record { cell = cell_view n.cell; writes = n.writes; reference = n.reference }

-- the accesses that the code has noted (this project)
abbrev pub noted_by : Notes → List Noted
noted_by notes = map noted_view notes.touches.items

-- the notes are these accesses, unless nobody keeps them or there was no memory for them (this project)
abbrev pub AreNoted : Notes → List Noted → Type 0
AreNoted notes ns = notes.kept ≡ true → noted_by notes ≡ ns

-- notes that are kept, after an evaluation that has read this: each read is noted, and those of cells are numbered on (this project)
pub record Reading (old : Notes) (seen : List Seen) (new : Notes) : Type 0 where
  pub kept : old.kept ≡ true
  pub touches : noted_by new ≡ noted_by old ++ noted (numbered old.next seen)
  pub next : new.next ≡ number_behind old.next seen

-- the notes after an evaluation that has read this; of notes that aren't kept nothing is said (this project)
abbrev pub HasNoted : Notes → List Seen → Notes → Type 0
HasNoted old seen new = new.kept ≡ true → Reading old seen new

-- notes that are kept, with one access more that a reference makes (this project)
pub record Referring (old : Notes) (cell : Cell) (writes : Bool) (new : Notes) : Type 0 where
  pub kept : old.kept ≡ true
  pub touches : noted_by new ≡ noted_by old ++ record { cell = cell; writes = writes; reference = old.next } ∷ []
  pub next : new.next ≡ suc old.next

-- the notes with one access more that a reference makes, where they are kept (this project)
abbrev pub HasReferred : Notes → Cell → Bool → Notes → Type 0
HasReferred old cell writes new = new.kept ≡ true → Referring old cell writes new

-- notes that are kept, with one access more that no reference makes (this project)
pub record Touching (old : Notes) (cell : Cell) (writes : Bool) (new : Notes) : Type 0 where
  pub kept : old.kept ≡ true
  pub touches : noted_by new ≡ noted_by old ++ record { cell = cell; writes = writes; reference = 0 } ∷ []
  pub next : new.next ≡ old.next

-- the notes with one access more that no reference makes, where they are kept (this project)
abbrev pub HasTouched : Notes → Cell → Bool → Notes → Type 0
HasTouched old cell writes new = new.kept ≡ true → Touching old cell writes new

-- these accesses are noted after those before, where the notes are kept (this project)
abbrev pub HasAdded : Notes → List Noted → Notes → Type 0
HasAdded old ns new = new.kept ≡ true → (old.kept ≡ true) × (noted_by new ≡ noted_by old ++ ns)

-- what the evaluation of an expression reads (this project)
unfoldable pub seen_at : Surroundings → ExprTree → List Seen
seen_at around t = (value (names_at (memory_of around.store.now) around.scope.now around.consts.now) t (memory_of around.store.now).cells).seen

-- what the evaluation of expressions reads, up to the first fault (this project)
unfoldable pub all_seen_at : Surroundings → List Expr → List Seen
all_seen_at around es = (values (names_at (memory_of around.store.now) around.scope.now around.consts.now) (pack_exprs (map expr_tree es)) (memory_of around.store.now).cells).seen

-- what the subscripts of a left side or of an item of a READ read (this project)
unfoldable pub target_seen_at : Surroundings → ExprTree → List Seen
target_seen_at around t = (target (names_at (memory_of around.store.now) around.scope.now around.consts.now) t (memory_of around.store.now).cells).seen

-- what a condition reads (this project)
unfoldable pub truth_seen_at : Surroundings → CondTree → List Seen
truth_seen_at around t = (truth (names_at (memory_of around.store.now) around.scope.now around.consts.now) t (memory_of around.store.now).cells).seen

-- what an evaluation reads after one that has come to this: nothing after a fault (this project)
abbrev pub seen_next : {A : Type 0} → Result A ℕ → List Seen → List Seen
seen_next (Ok u) seen = seen
seen_next (Err fault) seen = []

-- the read of a cell, where it lies within its bounds (this project)
abbrev pub read_within : Store → Result Cell ℕ → List Seen
read_within s (Ok c) = cell_seen c (s c) ∷ []
read_within s (Err fault) = []

-- a cell with this answer has been read: it has a value, or it is undefined (this project)
abbrev pub has_been_read : Result ℤ ℕ → Bool
has_been_read (Ok n) = true
has_been_read (Err fault) = fault == undefined_read
