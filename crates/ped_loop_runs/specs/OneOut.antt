-- A statement in a DO with no other loop between them, as the inner one of two DO loops that are interchanged (ANSI X3.9-1978, section 11.10.1).
use Rattle.std.specs.Prelude.{◌≡◌, ℕ, ◌+◌, ◌<◌, ◌≤◌, [], ◌∷◌, ◌++◌}
use Rattle.ped_bodies.specs.ped_flow.specs.ped_tree.specs.Tree.{ProgramTree}
use Rattle.ped_bodies.specs.ped_flow.specs.ped_tree.specs.Numbering.{statements_count}
use Rattle.ped_bodies.specs.ped_flow.specs.PlainBounds.{nest_round}
use Rattle.ped_bodies.specs.ped_flow.specs.Questions.{LoopOf}

-- the statement with number m is in the DO with number l, and the loops around it are those around that DO, and it (ANSI X3.9-1978, section 11.10.1)
pub record IsNextIn (t : ProgramTree) (l : ℕ) (outer : LoopOf t l) (m : ℕ) : Type 0 where
  pub from : l < m
  pub to : m ≤ l + statements_count outer.body
  pub nest : nest_round t m ≡ nest_round t l ++ (record { number = l; head = outer.head }) ∷ []
