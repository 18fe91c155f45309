-- Two DO loops that may become one, where both have one variable already: the program between, and accesses that cross (this project).
use Rattle.std.specs.Prelude.{◌≡◌, ◌<◌, ℕ, ◌==◌, List, ◌∷◌, ◌++◌, true, false, if◌then◌else◌}
use Rattle.ped_tree.specs.Tree.{StmtTree, StmtTrees, Do, more_stmts, ProgramTree}
use Rattle.ped_rules.specs.ped_steps.specs.Replacing.{followed, alone}
use Rattle.ped_rules.specs.ped_steps.specs.Runs.Gaps.{filled}
use Rattle.ped_rules.specs.ped_steps.specs.Runs.Renumbering.{renumbered_place}
use Rattle.ped_rules.specs.ped_steps.specs.Tidy.{is_written_in}
use Rattle.ped_rules.specs.ped_flow.specs.Questions.{LoopOf, IsIndexIn}
use Rattle.ped_rules.specs.ped_laws.specs.Acts.Orders.{IsIn}
use Rattle.ped_rules.specs.ped_eval.specs.Outcomes.{run_of}
use Rattle.ped_rules.specs.ped_store.specs.Acts.{Turn}
use Rattle.ped_rules.specs.ped_store.specs.Races.{Access, accesses, conflict}
use Rattle.ped_splits.specs.Neighbours.{Neighbour, next_number, renamed_body}
use Rattle.ped_rules.specs.KeepMaps.{closed_up}

-- the second DO with the variable of the first in the place of its own (ParaScope; this project)
abbrev pub renamed_next : {t : ProgramTree} {s : ℕ} → Neighbour t s → StmtTree
renamed_next x = Do (record x.next { variable = x.own.variable }) (renamed_body x.own x.next x.next_body)

-- the two DO loops, the second one with the variable of the first (this project)
abbrev pub renamed_pair : {t : ProgramTree} {s : ℕ} → Neighbour t s → StmtTrees
renamed_pair x = more_stmts (Do x.own x.own_body) (followed x.between (alone (renamed_next x)))

-- the program in which the second DO has the variable of the first; nobody sees it (this project)
abbrev pub renamed : {t : ProgramTree} {s : ℕ} → Neighbour t s → ProgramTree
renamed {t} x = record { decls = t.decls; body = filled x.gap (renamed_pair x) }

-- the number that a statement of the second DO has in the one DO: that DO itself counts as the first (this project)
abbrev pub number_in_one : {t : ProgramTree} {s : ℕ} → Neighbour t s → ℕ → ℕ
number_in_one {t} {s} x k = if k == next_number x then s else closed_up (next_number x) k

-- an access at the place that it has in the program with the one DO: iterations of the second DO are those of the one DO with the same numbers, and the statements have their new numbers (this project)
abbrev pub in_one : {t : ProgramTree} {s : ℕ} → Neighbour t s → Access → Access
in_one x a = record a { place = renumbered_place (number_in_one x) a.place }

-- no reference in a PARALLEL DO writes this name, where it is the variable of that DO or of a DO in it, of which its iterations have copies (this project)
abbrev pub IsUnwritten : ProgramTree → List ℕ → Type 0
IsUnwritten t x = (l : ℕ) (loop : LoopOf t l) → loop.head.parallel ≡ true → IsIndexIn t l x → is_written_in t l loop.body x ≡ false

-- in a run of the program two accesses conflict that references make: one in an iteration of the second DO, and one in a later iteration of the first, both in the same iterations of the DO loops around the two (Allen and Kennedy, section 6.2.5)
pub record Cross {t : ProgramTree} {s : ℕ} (x : Neighbour t s) (data_bytes : List ℕ) (a b : Access) : Type 0 where
  pub source : IsIn a (accesses (run_of t data_bytes).acts)
  pub sink : IsIn b (accesses (run_of t data_bytes).acts)
  pub source_reference : 0 < a.reference
  pub sink_reference : 0 < b.reference
  pub conflicts : conflict a b ≡ true
  pub round : List Turn
  pub j : Turn
  pub js : List Turn
  pub i : Turn
  pub is : List Turn
  pub at_source : a.place.turns ≡ round ++ j ∷ js
  pub at_sink : b.place.turns ≡ round ++ i ∷ is
  pub of_source : j.statement ≡ next_number x
  pub of_sink : i.statement ≡ s
  pub earlier : j.number < i.number
