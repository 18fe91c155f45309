-- What names stand for at a place of a run (ANSI X3.9-1978, sections 11.10.5, 17; this project).
use Rattle.std.specs.Prelude.{ℕ, ℤ, List, [], ◌∷◌, ◌++◌, Option, Some, None, if◌then◌else◌}
use Rattle.ped_base.specs.Dimensions.{Dimensions}
use Rattle.ped_base.specs.Lists.{is_same_text, is_among}
use Rattle.ped_store.specs.Cells.{Cell, Scalar, Private}
use Rattle.ped_store.specs.Acts.{Turn, Place, iterations_of}

-- what a run takes from the whole program: the bounds of its arrays (none for any other name), the values of its constants, and the number under which each statement counts in places, copies and faults. A run of a program counts each under its own number; with other numbers, one for each, it does the same (this project)
pub record Setting : Type 0 where
  pub bounds : List ℕ → Dimensions
  pub constants : List (List ℕ × ℤ)
  pub number : ℕ → ℕ

-- an iteration that a body is in: the variable of its DO, and the names of which the iteration has its own copies (ANSI X3.9-1978, section 11.10; ParaScope; this project)
pub record Frame : Type 0 where
  pub turn : Turn
  pub variable : List ℕ
  pub private : List (List ℕ)

-- the iterations around a place, the innermost first (this project)
abbrev pub Scope : Type 0
Scope = List Frame

-- the same iterations, the outermost first (this project)
abbrev pub turns_of : Scope → List Turn
turns_of [] = []
turns_of (f ∷ fs) = turns_of fs ++ f.turn ∷ []

-- the cell that a scalar stands for: the copy of the innermost iteration to which it is private, or else its own cell (ParaScope; this project)
abbrev pub cell_of : Scope → List ℕ → Cell
cell_of [] x = Scalar x
cell_of (f ∷ fs) x = if is_among x f.private then Private x (iterations_of (turns_of (f ∷ fs))) else cell_of fs x

-- the value of the variable of a DO in its body (ANSI X3.9-1978, section 11.10; this project)
abbrev pub index_value : Scope → List ℕ → Option ℤ
index_value [] x = None
index_value (f ∷ fs) x = if is_same_text x f.variable then Some f.turn.value else index_value fs x

-- what names stand for at a place: constants their values, arrays their bounds, scalars their cells; and the variables of the DO loops around it their values (this project)
pub record Names : Type 0 where
  pub bounds : List ℕ → Dimensions
  pub constants : List (List ℕ × ℤ)
  pub cell : List ℕ → Cell
  pub index : List ℕ → Option ℤ

-- what names stand for in these iterations (this project)
abbrev pub names_in : Setting → Scope → Names
names_in p scope = record { bounds = p.bounds; constants = p.constants; cell = cell_of scope; index = index_value scope }

-- the place of a statement in these iterations (this project)
abbrev pub place_of : Setting → ℕ → Scope → Place
place_of p n scope = record { statement = p.number n; turns = turns_of scope }
