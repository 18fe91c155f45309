-- Faults in runs of program units: those that a variable of a CALL's own causes, and the numbers of statements in the expansion (ANSI X3.9-1978, sections 15.9, 17.3; this project).
use Rattle.std.specs.Prelude.{◌≡◌, ℕ, zero, suc, ◌-◌, ℤ, List, [], ◌∷◌, ◌++◌, map, filter, take, length, Bool, true, false, Option, Some, None, is_some}
use Rattle.ped_tree.specs.Accesses.{listed}
use Rattle.ped_tree.specs.Tree.{ExprTree, Var, StmtTree, StmtTrees, Assign, If, Do, Print, Read, Stop, Comment, no_stmts, more_stmts}
use Rattle.ped_steps.specs.ped_symbols.specs.Values.{Values, fixed_value}
use Rattle.ped_calls.specs.ped_units.specs.Forms.{Called}
use Rattle.ped_calls.specs.ped_units.specs.Units.{ProgramUnit, ProgramUnits, unit_of, call_of}
use Rattle.ped_calls.specs.ped_units.specs.Expanding.{constants_of}
use Rattle.ped_steps.specs.ped_store.specs.Stores.{Undefined, undefined_read}
use Rattle.ped_steps.specs.ped_store.specs.Acts.{Touch, reads, Act}
use Rattle.ped_steps.specs.ped_eval.specs.Runs.{failed, Run}
use Rattle.ped_call_runs.specs.UnitRuns.{is_own_cell}

-- the last of these touches reads a variable that a CALL has of its own, and that is undefined (ANSI X3.9-1978, section 17.3)
pub record ReadsOwnLast (touches : List Touch) : Type 0 where
  pub before : List Touch
  pub touch : Touch
  pub last : touches ≡ before ++ touch ∷ []
  pub manner : touch.manner ≡ reads
  pub content : touch.content ≡ Undefined
  pub call : ℕ
  pub own : is_own_cell call touch.cell ≡ true

-- the run faults where it reads a variable that a CALL has of its own, and that is undefined (ANSI X3.9-1978, section 17.3)
pub record FaultsInOwn (r : Run) : Type 0 where
  pub statement : ℕ
  pub ending : r.ending ≡ failed undefined_read statement
  pub before : List Act
  pub act : Act
  pub last : r.acts ≡ before ++ act ∷ []
  pub touches : ReadsOwnLast act.touches

-- a dummy argument with its value before others, where it has one
abbrev pub with_value : List ℕ → Option ℤ → Values → Values
with_value x None values = values
with_value x (Some n) values = (x, n) ∷ values

-- the dummy arguments that stand for constants, with their values, where names of the caller have these values (ANSI X3.9-1978, section 15.9.3; this project)
abbrev pub formal_values : Values → List (List ℕ) → List ExprTree → Values
formal_values values (f ∷ fs) (a ∷ rest) = with_value f (fixed_value values a) (formal_values values fs rest)
formal_values values [] arguments = []
formal_values values (f ∷ fs) [] = []

-- an argument for which the expansion has no statement: a name, or an expression with a value of at most 2147483647 in size (this project)
abbrev pub is_left_out : Values → ExprTree → Bool
is_left_out values (Var x) = true
is_left_out values a = is_some (fixed_value values a)

-- the same of a CALL, or of a statement that is none
abbrev pub left_out_or : (Called → List Bool) → Option Called → List Bool
left_out_or call None = false ∷ []
left_out_or call (Some c) = call c

abbrev mutual
  -- for each number that a statement counts as, in order: is it an argument for which the expansion has no statement (this project)
  pub left_out : (Called → List Bool) → StmtTree → List Bool
  left_out call (Assign left right) = left_out_or call (call_of left right)
  left_out call (If condition then_part else_part) = false ∷ (all_left_out call then_part ++ all_left_out call else_part)
  left_out call (Do h body) = false ∷ all_left_out call body
  left_out call (Print items) = false ∷ []
  left_out call (Read items) = false ∷ []
  left_out call Stop = false ∷ []
  left_out call (Comment text) = []

  -- the same of statements
  pub all_left_out : (Called → List Bool) → StmtTrees → List Bool
  all_left_out call no_stmts = []
  all_left_out call (more_stmts s rest) = left_out call s ++ all_left_out call rest

-- the same of a CALL of this subroutine: the CALL itself, its arguments, and the subroutine's statements
abbrev pub left_out_of : (Values → Called → List Bool) → Values → Called → Option ProgramUnit → List Bool
left_out_of inner values c None = false ∷ []
left_out_of inner values c (Some v) =
    false ∷ (map (is_left_out values) (listed c.arguments) ++ all_left_out (inner (formal_values values v.formals (listed c.arguments) ++ constants_of v)) v.tree.body)

-- the same, where CALLs are nested at most this deep
abbrev pub left_out_in : ℕ → ProgramUnits → Values → Called → List Bool
left_out_in zero us values c = false ∷ []
left_out_in (suc depth) us values c = left_out_of (left_out_in depth us) values c (unit_of us c.name)

-- the same of all numbers of a run of program units, from 1 on (this project)
abbrev pub units_left_out : ProgramUnits → List Bool
units_left_out us = all_left_out (left_out_in (length us.others) us (constants_of us.main)) us.main.tree.body

-- the number in the expansion of what counts as this one in the units: without the arguments up to it for which the expansion has no statement (this project)
abbrev pub expanded_number : ProgramUnits → ℕ → ℕ
expanded_number us n = n - length (filter (λ b. b) (take n (units_left_out us)))
