-- The directions in which two accesses of a run are in the loops around both (Allen and Kennedy, section 2.2.4).
use Rattle.std.specs.Prelude.{◌≡◌, ℕ, ℤ, List, [], ◌∷◌, pos, Bool, false, ◌==◌, Option, Some, None}
use Rattle.std.specs.Bool.{MatchBool}
use Rattle.ped_graph.specs.ped_views.specs.declared.directions.Direction.{Direction}
use Rattle.ped_graph.specs.ped_views.specs.Excluded.{StandsByValue, by_value}
use Rattle.ped_flow.specs.ped_tree.specs.Tree.{StmtTree, Do, ProgramTree}
use Rattle.ped_flow.specs.ped_tree.specs.Numbering.{statement_with}
use Rattle.ped_flow.specs.ped_tree.specs.Constants.ConstantExpressions.{constant_value}
use Rattle.ped_eval.specs.ped_store.specs.Acts.{Turn}
use Rattle.ped_flow.specs.ped_affine.specs.Ranges.{step_by}
use Rattle.ped_eval.specs.Outcomes.{setting_of}

-- the step of a DO among these constants; 1 for any other statement (ANSI X3.9-1978, section 11.10)
abbrev pub step_in : List (List ℕ × ℤ) → Option StmtTree → ℤ
step_in constants None = pos 1
step_in constants (Some (Do h body)) = step_by (constant_value constants h.step)
step_in constants (Some s) = pos 1

-- the step of the DO with this number (ANSI X3.9-1978, section 11.10)
abbrev pub step_at : ProgramTree → ℕ → ℤ
step_at t n = step_in (setting_of t).constants (statement_with n t)

-- at each loop around both, the outermost first, the values of its variable at the source and at the sink are in this direction (Allen and Kennedy, section 2.2.4)
abbrev pub StandInDirections : ProgramTree → List Turn → List Turn → List Direction → Type 0
StandInDirections t (i ∷ is) (j ∷ js) vector =
    MatchBool (i.statement == j.statement)
    ((d : Direction) × (rest : List Direction) × (vector ≡ d ∷ rest) × StandsByValue (by_value (step_at t i.statement) d) i.value j.value × StandInDirections t is js rest)
    (vector ≡ [])
StandInDirections t [] js vector = vector ≡ []
StandInDirections t (i ∷ is) [] vector = vector ≡ []

-- the two are in one execution of their outermost common loop: a DO that is in no other is executed once at most (ANSI X3.9-1978, section 11.10)
abbrev pub share_a_loop : List Turn → List Turn → Bool
share_a_loop (i ∷ is) (j ∷ js) = i.statement == j.statement
share_a_loop [] js = false
share_a_loop (i ∷ is) [] = false
