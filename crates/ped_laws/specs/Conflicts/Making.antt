-- Accesses of a run and the references of the program that make them (Allen and Kennedy, section 2.2.1; this project).
use Rattle.std.specs.Prelude.{◌≡◌, ◌<◌, ℕ, ℤ, List, [], ◌∷◌, codes, false, Ok, if◌then◌else◌}
use Rattle.ped_flow.specs.ped_base.specs.Lists.{is_same_text}
use Rattle.ped_flow.specs.ped_tree.specs.Tree.{ExprTree, ProgramTree}
use Rattle.ped_graph.specs.ped_refs.specs.References.{Reference, references, outermost}
use Rattle.ped_graph.specs.ped_symbols.specs.Kinds.{kind_in}
use Rattle.ped_eval.specs.ped_store.specs.Cells.{Cell, Element, In, Out}
use Rattle.ped_eval.specs.ped_store.specs.Stores.{Store}
use Rattle.ped_eval.specs.ped_store.specs.Acts.{Turn}
use Rattle.ped_eval.specs.ped_store.specs.Races.{Access, accesses}
use Rattle.ped_laws.specs.Acts.Orders.{IsIn}
use Rattle.ped_graph.specs.ped_symbols.specs.RightUses.RightUses.{is_scalar}
use Rattle.ped_eval.specs.Scopes.{Scope, Names, turns_of, names_in}
use Rattle.ped_eval.specs.Values.{value}
use Rattle.ped_eval.specs.Outcomes.{setting_of, run_of}
use Rattle.ped_graph.specs.Dependences.{setting_in}
use Rattle.ped_laws.specs.Conflicts.Reaching.{IsStoreIn, Reached}

-- in a store the expressions evaluate to these numbers, one each (ANSI X3.9-1978, section 6.6)
abbrev pub ComeTo : Names → Store → List ExprTree → List ℤ → Type 0
ComeTo g u (e ∷ es) (n ∷ ns) = ((value g e u).result ≡ Ok n) × ComeTo g u es ns
ComeTo g u [] [] = Unit {0}
ComeTo g u (e ∷ es) [] = ⊥
ComeTo g u [] (n ∷ ns) = ⊥

-- the cell that a name without subscripts stands for at a place: the data, the output, or that of a scalar (ANSI X3.9-1978, section 17; this project)
abbrev pub cell_named : Names → List ℕ → Cell
cell_named g x = if is_same_text x (codes "(IN)") then In else (if is_same_text x (codes "(OUT)") then Out else g.cell x)

-- the cell that a name with these subscripts stands for at a place and in a store; a name with subscripts is that of an array (ANSI X3.9-1978, section 5.4; this project)
abbrev pub StandsFor : ProgramTree → Names → Store → List ℕ → List ExprTree → Cell → Type 0
StandsFor t g u x [] c = c ≡ cell_named g x
StandsFor t g u x (e ∷ es) c = (ns : List ℤ) × ComeTo g u (e ∷ es) ns × (c ≡ Element x ns) × (is_scalar (kind_in t) x ≡ false)

-- an access in an execution of an outermost DO is made by this reference, in these iterations and in this store (Allen and Kennedy, section 2.2.1; this project)
pub record IsMade (t : ProgramTree) (first : Store) (a : Access) (r : Reference) (scope : Scope) (u : Store) : Type 0 where
  pub listed : IsIn r (references t)
  pub statement : a.place.statement ≡ r.statement
  pub number : a.reference ≡ r.number
  pub writes : a.writes ≡ r.access.writes
  pub turns : a.place.turns ≡ turns_of scope
  pub reached : Reached t (setting_in t (outermost r)) first r.nest scope
  pub within : IsStoreIn (setting_in t (outermost r)) first u
  pub cell : StandsFor t (names_in (setting_of t) scope) u r.access.name r.access.subscripts a.cell

-- each access of a run that a reference makes in a DO is made by a reference of the program, in the execution of an outermost DO that begins with the store that is given for it (Allen and Kennedy, section 2.2.1; this project)
abbrev pub AreMade : ProgramTree → List ℕ → (ℕ → Store) → Type 0
AreMade t data_bytes first =
    (a : Access) (turn : Turn) (inner : List Turn) → IsIn a (accesses (run_of t data_bytes).acts) → 0 < a.reference → a.place.turns ≡ turn ∷ inner
    → (r : Reference) × (scope : Scope) × (u : Store) × IsMade t (first (outermost r)) a r scope u
