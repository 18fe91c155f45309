-- What statements note (this project).
use Rattle.std.specs.Prelude.{◌≡◌, ℕ, suc, ℤ, List, [], ◌∷◌, ◌++◌, true, Result, Ok, Err}
use Rattle.ped_tree.specs.Tree.{ExprTree}
use Rattle.ped_store.specs.Cells.{Cell, In, Out}
use Rattle.ped_store.specs.Stores.{Number}
use Rattle.ped_store.specs.DataLines.{Data, Taken, begun, next_value_of}
use Rattle.ped_store.specs.Memories.{Memory, with_content, with_data}
use Rattle.ped_eval.specs.Scopes.{Scope}
use Rattle.ped_eval.specs.Evaluation.{Seen, Evaluated, numbered, number_behind}
use Rattle.ped_eval.specs.Values.{target}
use Rattle.ped_eval.specs.Statements.{Stored}
use Rattle.ped_eval.specs.Takings.{names_with}
use Rattle.ped_eval.specs.Noting.{Noted, noted, noted_by}
use Rattle.ped_eval.specs.declared.notes.Notes.{Notes}

-- reads, whose references have numbers from 1 on (this project)
abbrev pub reads_noted : List Seen → List Noted
reads_noted seen = noted (numbered 1 seen)

-- reads, whose references have numbers from this one on, and after them a write by the next reference (this project)
abbrev pub write_noted : ℕ → List Seen → Cell → List Noted
write_noted n seen c = noted (numbered n seen) ++ record { cell = c; writes = true; reference = number_behind n seen } ∷ []

-- what is read is noted, by references with numbers from this one on, and after a result the write of a cell (this project)
abbrev pub done_noted : {A : Type 0} → ℕ → (A → Cell) → List Seen → Result A ℕ → List Noted
done_noted n cell seen (Ok x) = write_noted n seen (cell x)
done_noted n cell seen (Err fault) = noted (numbered n seen)

-- an assignment notes what it reads, and its write where it stores (ANSI X3.9-1978, section 10.1; this project)
abbrev pub assignment_noted : ℕ → Evaluated Stored → List Noted
assignment_noted n e = done_noted n (λ w. w.cell) e.seen e.result

-- a PRINT notes what it reads, and the output where it adds a line (ANSI X3.9-1978, section 12.8; this project)
abbrev pub print_noted : {A : Type 0} → ℕ → Evaluated A → List Noted
print_noted n e = done_noted n (λ line. Out) e.seen e.result

-- an item of a READ notes what its subscripts read and its write, and then come the others (ANSI X3.9-1978, section 12.8; this project)
abbrev pub item_noted : ℕ → List Seen → Result Cell ℕ → (ℕ → Cell → List Noted) → List Noted
item_noted n seen (Ok c) rest = write_noted n seen c ++ rest (suc (number_behind n seen)) c
item_noted n seen (Err fault) rest = noted (numbered n seen)

-- where a value is taken for an item the item notes it, and else nothing (this project)
abbrev pub value_noted : Result Taken ℕ → (Taken → List Noted) → List Noted
value_noted (Ok t) next = next t
value_noted (Err fault) next = []

-- what the items of a READ note, whose references have numbers from this one on, by what is kept before them (ANSI X3.9-1978, section 12.8; this project)
abbrev pub items_noted : List (List ℕ × ℤ) → Scope → List ExprTree → ℕ → Memory → List Noted
items_noted constants scope [] n m = []
items_noted constants scope (item ∷ rest) n m =
    value_noted (next_value_of m.input) λ t.
    item_noted n (target (names_with (with_data t.behind m) scope constants) item (with_data t.behind m).cells).seen
    (target (names_with (with_data t.behind m) scope constants) item (with_data t.behind m).cells).result
    λ k c. items_noted constants scope rest k (with_content c (Number t.value) (with_data t.behind m))

-- what the items note after the line that a READ begins; without one there are none (this project)
abbrev pub line_noted : Result Data ℕ → (Data → List Noted) → List Noted
line_noted (Ok d) next = next d
line_noted (Err fault) next = []

-- a READ notes that it takes of the data, and then what its items note (ANSI X3.9-1978, section 12.8; this project)
abbrev pub read_noted : List (List ℕ × ℤ) → Scope → List ExprTree → ℕ → Memory → List Noted
read_noted constants scope items n m =
    record { cell = In; writes = true; reference = n } ∷ line_noted (begun m.input.lines) λ d. items_noted constants scope items (suc n) (with_data d m)

-- what is kept after a part of a READ, or the fault that ends it
abbrev pub IsTaken : {A : Type 0} → Result Memory ℕ → Memory → Result A ℕ → Type 0
IsTaken r new (Ok u) = r ≡ Ok new
IsTaken r new (Err n) = r ≡ Err n

-- the notes after an item of a READ, where they are kept: what is noted then, and what the items after it note, is all; after a fault nothing more is noted
abbrev pub IsItemNoted : {A : Type 0} → List (List ℕ × ℤ) → Scope → ExprTree → Notes → Memory → Notes → Memory → Result A ℕ → Type 0
IsItemNoted constants scope item old m new after (Ok u) =
    new.kept ≡ true → (old.kept ≡ true) × ((rest : List ExprTree) → noted_by old ++ items_noted constants scope (item ∷ rest) old.next m ≡ noted_by new ++ items_noted constants scope rest new.next after)
IsItemNoted constants scope item old m new after (Err n) =
    new.kept ≡ true → (old.kept ≡ true) × ((rest : List ExprTree) → noted_by old ++ items_noted constants scope (item ∷ rest) old.next m ≡ noted_by new)
