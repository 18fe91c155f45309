-- The order in which a run makes accesses: by the iterations of the loops around both, and in the same iterations by the program's text (ANSI X3.9-1978, section 11.10; this project).
use Rattle.std.specs.Prelude.{◌≡◌, ◌⊎◌, ◌<◌, ℤ, pos, ◌-◌, ◌+ℤ◌, ◌*ℤ◌, List, [], ◌∷◌, true, Some}
use Rattle.ped_flow.specs.ped_tree.specs.Tree.{Head, StmtTrees, Do, ProgramTree}
use Rattle.ped_flow.specs.ped_tree.specs.Numbering.{statement_with}
use Rattle.ped_eval.specs.ped_store.specs.Acts.{Turn}
use Rattle.ped_eval.specs.ped_store.specs.Races.{Access}
use Rattle.ped_eval.specs.Loops.{increment}
use Rattle.ped_eval.specs.Outcomes.{setting_of}

-- the reference of the first access is before that of the second in the text (this project)
abbrev pub IsBeforeInText : Access → Access → Type 0
IsBeforeInText a b = (a.place.statement < b.place.statement) ⊎ ((a.place.statement ≡ b.place.statement) × (a.reference < b.reference))

-- two iterations of one execution of a DO, the first one earlier: they have the values m1+(k-1)*m3 of its variable (ANSI X3.9-1978, section 11.10.7)
pub record AreSuccessive (t : ProgramTree) (i j : Turn) : Type 0 where
  pub same : i.statement ≡ j.statement
  pub parallel : i.parallel ≡ j.parallel
  pub earlier : i.number < j.number
  pub head : Head
  pub body : StmtTrees
  pub stands : statement_with i.statement t ≡ Some (Do head body)
  pub initial : ℤ
  pub at_first : i.value ≡ initial +ℤ pos (i.number - 1) *ℤ increment (setting_of t).constants head
  pub at_second : j.value ≡ initial +ℤ pos (j.number - 1) *ℤ increment (setting_of t).constants head

-- the first access comes before the second, which are in these iterations: where their iterations differ first, those of one DO are successive, and else the first comes before the second in the text; but what a DO writes when it is left comes after what was done in its iterations (ANSI X3.9-1978, section 11.10; this project)
abbrev pub ComesBefore : ProgramTree → Access → Access → List Turn → List Turn → Type 0
ComesBefore t a b (i ∷ is) (j ∷ js) = ((i ≡ j) × ComesBefore t a b is js) ⊎ AreSuccessive t i j ⊎ ((¬ (i.statement ≡ j.statement)) × IsBeforeInText a b)
ComesBefore t a b [] js = IsBeforeInText a b
ComesBefore t a b (i ∷ is) [] = IsBeforeInText a b ⊎ ((i.statement ≡ b.place.statement) × (b.writes ≡ true))
