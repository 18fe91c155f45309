-- What statements other than DO touch: assignments, READ, PRINT (ANSI X3.9-1978, sections 10.1, 12.8; this project).
use Rattle.std.specs.Prelude.{ℕ, suc, ℤ, List, [], ◌∷◌, ◌++◌, Option, Some, None, Result, Ok, Err}
use Rattle.std.specs.List.{join_with_byte}
use Rattle.std.specs.Fmt.{signed_decimal}
use Rattle.ped_tree.specs.Tree.{ExprTree, ItemTree, Value, Text}
use Rattle.ped_store.specs.Cells.{Cell, In, Out}
use Rattle.ped_store.specs.Stores.{Content, Number, Lines, Store, put, lines_in, storable}
use Rattle.ped_store.specs.Acts.{Touch, reads, writes}
use Rattle.ped_store.specs.DataLines.{Data, not_begun, begun, Taken, next_value_of}
use Rattle.ped_eval.specs.Scopes.{Names}
use Rattle.ped_eval.specs.Evaluation.{Seen, Evaluated, ◌>>>◌, given, numbered, number_behind}
use Rattle.ped_eval.specs.Values.{value, target}

-- a read of a cell, by the reference with this number
abbrev pub read_touch : Cell → Content → ℕ → Touch
read_touch c content n = record { cell = c; manner = reads; content = content; reference = n }

-- a write of a cell, by the reference with this number
abbrev pub write_touch : Cell → Content → ℕ → Touch
write_touch c content n = record { cell = c; manner = writes; content = content; reference = n }

-- a cell and the number that it is to hold
pub record Stored : Type 0 where
  pub cell : Cell
  pub number : ℤ

-- what an assignment stores: the right side is evaluated, then the subscripts of the left side, then their bounds are tested, then the range of the value (ANSI X3.9-1978, section 10.1; this project)
abbrev pub assigned : Names → ExprTree → ExprTree → Store → Evaluated Stored
assigned g left right s = value g right s >>> λ v. target g left s >>> λ c. given (storable v) >>> λ n. given (Ok (record { cell = c; number = n }))

-- the touches of an assignment: what it reads, then its write
abbrev pub assignment_touches : List Seen → Stored → List Touch
assignment_touches seen w = numbered 1 seen ++ write_touch w.cell (Number w.number) (number_behind 1 seen) ∷ []

-- the text of an item of a PRINT: a number, or a character constant as written (ANSI X3.9-1978, section 12.8.2; this project)
abbrev pub item_text : Names → ItemTree → Store → Evaluated (List ℕ)
item_text g (Value e) s = value g e s >>> λ n. given (Ok (signed_decimal n))
item_text g (Text text) s = given (Ok text)

-- the texts of the items of a PRINT, in order
abbrev pub item_texts : Names → List ItemTree → Store → Evaluated (List (List ℕ))
item_texts g [] s = given (Ok [])
item_texts g (item ∷ rest) s = item_text g item s >>> λ text. item_texts g rest s >>> λ texts. given (Ok (text ∷ texts))

-- the line that a PRINT writes: its items with one blank between them, and no blank before them (this project)
abbrev pub printed_line : Names → List ItemTree → Store → Evaluated (List ℕ)
printed_line g items s = item_texts g items s >>> λ texts. given (Ok (join_with_byte 32 texts))

-- the touches of a PRINT: what its items read, then the output, which has one more line
abbrev pub print_touches : List Seen → List ℕ → Store → List Touch
print_touches seen line s =
    numbered 1 seen
    ++ read_touch Out (s Out) 0
    ∷ write_touch Out (Lines (lines_in (s Out) ++ line ∷ [])) (number_behind 1 seen)
    ∷ []

-- what came of the items of a READ: their touches, the data that are left, and the fault that one met
pub record Taking : Type 0 where
  pub touches : List Touch
  pub left : Data
  pub fault : Option ℕ

-- with what was touched before
abbrev pub having_touched : List Touch → Taking → Taking
having_touched before t = record { touches = before ++ t.touches; left = t.left; fault = t.fault }

-- an item of a READ is stored, and the others follow; a fault ends it
abbrev pub into_item : ℕ → Data → ℤ → List Seen → Result Cell ℕ → (ℕ → Cell → Taking) → Taking
into_item n left v seen (Ok c) rest = having_touched (numbered n seen ++ write_touch c (Number v) (number_behind n seen) ∷ []) (rest (suc (number_behind n seen)) c)
into_item n left v seen (Err fault) rest = record { touches = numbered n seen; left = left; fault = Some fault }

-- a value is taken for an item; a fault ends it
abbrev pub with_taken : Data → Result Taken ℕ → (ℤ → Data → Taking) → Taking
with_taken left (Ok t) next = next t.value t.behind
with_taken left (Err fault) next = record { touches = []; left = left; fault = Some fault }

-- the items of a READ, whose references have numbers from this one on: for each its value is taken, then its subscripts are evaluated and their bounds tested, then it is stored, before the next item (ANSI X3.9-1978, section 12.8; this project)
abbrev pub taking : Names → List ExprTree → ℕ → Data → Store → Taking
taking g [] n d s = record { touches = []; left = d; fault = None }
taking g (item ∷ rest) n d s =
    with_taken d (next_value_of d) λ v left.
    into_item n left v (target g item s).seen (target g item s).result λ m c. taking g rest m left (put c (Number v) s)

-- a READ begins at the next data line; without one it takes nothing (this project)
abbrev pub taking_from : Names → List ExprTree → Result Data ℕ → Store → Taking
taking_from g items (Ok d) s = taking g items 2 d s
taking_from g items (Err fault) s = record { touches = []; left = not_begun []; fault = Some fault }

-- what came of a READ
abbrev pub reading : Names → List ExprTree → Store → Taking
reading g items s = taking_from g items (begun (lines_in (s In))) s

-- the touches of a READ: the data, of which the lines after the last line that it began are left, and then its items
abbrev pub reading_touches : Taking → Store → List Touch
reading_touches t s = read_touch In (s In) 0 ∷ write_touch In (Lines t.left.lines) 1 ∷ t.touches
