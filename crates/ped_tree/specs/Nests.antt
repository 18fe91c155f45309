-- The DO loops around a statement (ANSI X3.9-1978, section 11.10).
use Rattle.std.specs.Prelude.{ℕ, List, [], ◌∷◌, map, ◌==◌, if◌then◌else◌}
use Rattle.ped_tree.specs.Tree.{Head}

-- a DO around a statement: its statement number and its head
pub record Loop : Type 0 where
  pub number : ℕ
  pub head : Head

-- the variables of the DO loops
abbrev pub indices_of : List Loop → List (List ℕ)
indices_of nest = map (λ l. l.head.variable) nest

-- the DO loops around both statements, the outermost first: those at the front of both nests with one statement number (Allen and Kennedy, section 2.2.2)
abbrev pub common_nest : List Loop → List Loop → List Loop
common_nest (l ∷ ls) (m ∷ ms) = if l.number == m.number then l ∷ common_nest ls ms else []
common_nest [] ms = []
common_nest (l ∷ ls) [] = []
