-- Runs of program units: a CALL evaluates its arguments from left to right and runs the statements of its subroutine, whose variables are its own and undefined at each CALL, and whose dummy arguments stand for the arguments (ANSI X3.9-1978, sections 15.6, 15.9, 17.3; this project).
use Rattle.std.specs.Prelude.{ℕ, zero, suc, ◌+◌, List, [], ◌∷◌, ◌++◌, map, length, Bool, false, ◌&&◌, ◌==◌, Option, Some, None, if◌then◌else◌}
use Rattle.std.specs.Str.Lines.{lines}
use Rattle.ped_base.specs.Dimensions.{Dimensions}
use Rattle.ped_tree.specs.Tree.{ExprTree, Var, StmtTree, StmtTrees, Assign, If, Do, Print, Read, Stop, Comment, no_stmts, more_stmts}
use Rattle.ped_tree.specs.Accesses.{listed}
use Rattle.ped_steps.specs.ped_symbols.specs.Kinds.{kind_in}
use Rattle.ped_steps.specs.ped_symbols.specs.Values.{Values}
use Rattle.ped_steps.specs.ped_store.specs.Cells.{Cell, Scalar, Element, Private, In, Out}
use Rattle.ped_steps.specs.ped_store.specs.Stores.{Store, Undefined, store_at_start}
use Rattle.ped_steps.specs.ped_eval.specs.Scopes.{Setting, Scope, names_in, place_of}
use Rattle.ped_steps.specs.ped_eval.specs.Runs.{Run, nothing_done, then_run, run_assignment, run_if, run_do, run}
use Rattle.ped_steps.specs.ped_eval.specs.Outcomes.{bounds_of, setting_of, Outcome, outcome_of}
use Rattle.ped_calls.specs.ped_units.specs.Forms.{Called}
use Rattle.ped_calls.specs.ped_units.specs.Units.{ProgramUnit, ProgramUnits, unit_of, call_of, call_statement}
use Rattle.ped_calls.specs.ped_units.specs.Refusals.{for_names}
use Rattle.ped_calls.specs.ped_units.specs.Expanding.{Meanings, replaced, cond_replaced, head_replaced, is_variable_name, body_names, constants_of, with_formals, Expanded, expanded_in, all_expanded_in}
use Rattle.ped_steps.specs.ped_symbols.specs.Entries.{with_entry}

-- the name of a variable of its own that the CALL with this number has: no text has such a name (this project)
abbrev pub own : ℕ → List ℕ → List ℕ
own n x = 0 ∷ n ∷ x

-- a name that the CALL with this number has of its own
abbrev pub is_own : ℕ → List ℕ → Bool
is_own n (c ∷ m ∷ x) = c == 0 && m == n
is_own n (c ∷ []) = false
is_own n [] = false

-- a cell of a variable that the CALL with this number has of its own
abbrev pub is_own_cell : ℕ → Cell → Bool
is_own_cell n (Scalar x) = is_own n x
is_own_cell n (Element x subscripts) = is_own n x
is_own_cell n (Private x iterations) = is_own n x
is_own_cell n In = false
is_own_cell n Out = false

-- the store in which the variables that the CALL with this number has of its own are undefined (ANSI X3.9-1978, section 17.3)
abbrev pub without_own : ℕ → Store → Store
without_own n s c = if is_own_cell n c then Undefined else s c

-- where statements of a unit run: the setting, the names of variables that its names stand for, and its named constants
pub record Instance : Type 0 where
  pub setting : Setting
  pub stands : Meanings
  pub constants : Values

-- the main program: its names stand for themselves (this project)
abbrev pub main_instance : ProgramUnits → Instance
main_instance us = record { setting = setting_of (for_names us.main); stands = []; constants = constants_of us.main }

-- the number after the CALL's own and those of its arguments: under it counts the first statement of its subroutine (this project)
abbrev pub number_inside : Called → ℕ → ℕ
number_inside c n = n + 1 + length (listed c.arguments)

-- what dummy arguments stand for in the CALL with this number: the variable whose name the argument is, and else a variable of the CALL's own (ANSI X3.9-1978, section 15.9.3)
abbrev pub formals_stand : Instance → ℕ → List (List ℕ) → List ExprTree → List ExprTree
formals_stand i n (f ∷ fs) (a ∷ rest) = (if is_variable_name i.constants a then replaced i.stands a else Var (own n f)) ∷ formals_stand i n fs rest
formals_stand i n [] arguments = []
formals_stand i n (f ∷ fs) [] = []

-- names of a unit that stand for nothing yet, each with a variable of the CALL's own (ANSI X3.9-1978, section 15.9.2)
abbrev pub with_own : ℕ → Meanings → List (List ℕ) → Meanings
with_own n m [] = m
with_own n m (x ∷ xs) = with_own n (with_entry m x (Var (own n x))) xs

-- the bounds of a name of the CALL's own, by its subroutine; of any other those of the caller
abbrev pub bounds_with_own : ProgramUnit → ℕ → (List ℕ → Dimensions) → List ℕ → Dimensions
bounds_with_own v n others (c ∷ m ∷ x) = if c == 0 && m == n then bounds_of (kind_in (for_names v) x) else others (c ∷ m ∷ x)
bounds_with_own v n others (c ∷ []) = others (c ∷ [])
bounds_with_own v n others [] = others []

-- named constants of a subroutine, by names of the CALL's own (ANSI X3.9-1978, section 8.6)
abbrev pub own_constants : ℕ → Values → Values
own_constants n values = map (λ v. (own n v.0, v.1)) values

-- where the statements of the subroutine run for the CALL with this number in a unit (ANSI X3.9-1978, section 15.9; this project)
abbrev pub called_instance : Instance → ℕ → ProgramUnit → Called → Instance
called_instance i n v c = record {
  setting = record i.setting { bounds = bounds_with_own v n i.setting.bounds; constants = own_constants n (constants_of v) ++ i.setting.constants };
  stands = with_own n (with_formals [] v.formals (formals_stand i n v.formals (listed c.arguments))) (body_names v);
  constants = constants_of v;
}

-- the arguments that aren't names of variables are evaluated and stored, from left to right, the first under this number (ANSI X3.9-1978, section 15.9.3; this project)
abbrev pub run_arguments : Instance → ℕ → List (List ℕ) → List ExprTree → ℕ → Scope → Store → Run
run_arguments i n (f ∷ fs) (a ∷ rest) k scope s =
    if is_variable_name i.constants a then run_arguments i n fs rest (k + 1) scope s
    else then_run (run_assignment (names_in i.setting scope) (place_of i.setting k scope) (Var (own n f)) (replaced i.stands a) s) (run_arguments i n fs rest (k + 1) scope)
run_arguments i n [] arguments k scope s = nothing_done s
run_arguments i n (f ∷ fs) [] k scope s = nothing_done s

-- how a CALL runs: where its unit's statements run, with its number, in these iterations (this project)
abbrev pub CallRun : Type 0
CallRun = Instance → Called → ℕ → Scope → Store → Run

-- a CALL stays where it is
abbrev pub call_stays : Called → Unit {0} → Expanded (Unit {0})
call_stays c state = record { statement = call_statement c; state = state }

-- a statement with what stands for each name, in arguments of CALLs too, where CALLs stay (this project)
abbrev pub stmt_replaced : Meanings → StmtTree → StmtTree
stmt_replaced m t = (expanded_in m call_stays t tt).statement

-- the same of statements
abbrev pub stmts_replaced : Meanings → StmtTrees → StmtTrees
stmts_replaced m ts = (all_expanded_in m call_stays ts tt).statements

-- a statement, or the CALL that it is, counted with all that the CALL runs (this project)
abbrev pub count_or : (Called → ℕ) → Option Called → ℕ
count_or size None = 1
count_or size (Some c) = size c

abbrev mutual
  -- how many statements a statement counts as, where each CALL counts with all that it runs (this project)
  pub sized : (Called → ℕ) → StmtTree → ℕ
  sized size (Assign left right) = count_or size (call_of left right)
  sized size (If condition then_part else_part) = 1 + all_sized size then_part + all_sized size else_part
  sized size (Do h body) = 1 + all_sized size body
  sized size (Print items) = 1
  sized size (Read items) = 1
  sized size Stop = 1
  sized size (Comment text) = 0

  -- the same of statements
  pub all_sized : (Called → ℕ) → StmtTrees → ℕ
  all_sized size no_stmts = 0
  all_sized size (more_stmts s rest) = sized size s + all_sized size rest

-- how many statements a CALL counts as: itself, its arguments, and the statements of its subroutine (this project)
abbrev pub size_in : (Called → ℕ) → Called → Option ProgramUnit → ℕ
size_in size c None = 1
size_in size c (Some v) = number_inside c 0 + all_sized size v.tree.body

-- the same, where CALLs are nested at most this deep (this project)
abbrev pub call_size : ℕ → ProgramUnits → Called → ℕ
call_size zero us c = 1
call_size (suc depth) us c = size_in (call_size depth us) c (unit_of us c.name)

-- a statement that runs, or the CALL that it is
abbrev pub run_or : CallRun → Instance → StmtTree → ℕ → Scope → Store → Option Called → Run
run_or call i t n scope s None = run i.setting (stmt_replaced i.stands t) n scope s
run_or call i t n scope s (Some c) = call i c n scope s

abbrev mutual
  -- the run of a statement of a unit with this number in these iterations: as in a program, with what its names stand for, but for a CALL (ANSI X3.9-1978, sections 10.1, 11, 12.8, 15.6.2; this project)
  pub unit_run : CallRun → (Called → ℕ) → Instance → StmtTree → ℕ → Scope → Store → Run
  unit_run call size i (Assign left right) n scope s = run_or call i (Assign left right) n scope s (call_of left right)
  unit_run call size i (If condition then_part else_part) n scope s =
      run_if (names_in i.setting scope) (place_of i.setting n scope) (cond_replaced i.stands condition)
      (unit_run_all call size i then_part (n + 1) scope) (unit_run_all call size i else_part (n + 1 + all_sized size then_part) scope) s
  unit_run call size i (Do h body) n scope s =
      run_do i.setting n scope (head_replaced i.stands h) (stmts_replaced i.stands body) (λ f. unit_run_all call size i body (n + 1) (f ∷ scope)) s
  unit_run call size i (Print items) n scope s = run i.setting (stmt_replaced i.stands (Print items)) n scope s
  unit_run call size i (Read items) n scope s = run i.setting (stmt_replaced i.stands (Read items)) n scope s
  unit_run call size i Stop n scope s = run i.setting Stop n scope s
  unit_run call size i (Comment text) n scope s = nothing_done s

  -- the run of statements of a unit, of which the first has this number
  pub unit_run_all : CallRun → (Called → ℕ) → Instance → StmtTrees → ℕ → Scope → Store → Run
  unit_run_all call size i no_stmts n scope s = nothing_done s
  unit_run_all call size i (more_stmts t rest) n scope s = then_run (unit_run call size i t n scope s) (unit_run_all call size i rest (n + sized size t) scope)

-- the run of a CALL of this subroutine: its own variables are undefined, then its arguments are evaluated, then the subroutine's statements run; one that isn't there does nothing
abbrev pub run_called : CallRun → (Called → ℕ) → Instance → Called → ℕ → Scope → Store → Option ProgramUnit → Run
run_called call size i c n scope s None = nothing_done s
run_called call size i c n scope s (Some v) =
    then_run (run_arguments i n v.formals (listed c.arguments) (n + 1) scope (without_own n s))
    (unit_run_all call size (called_instance i n v c) v.tree.body (number_inside c n) scope)

-- the run of a CALL, where CALLs are nested at most this deep (ANSI X3.9-1978, section 15.6.3; this project)
abbrev pub call_run : ℕ → ProgramUnits → CallRun
call_run zero us i c n scope s = nothing_done s
call_run (suc depth) us i c n scope s = run_called (call_run depth us) (call_size depth us) i c n scope s (unit_of us c.name)

-- the run of program units on the lines of their data: without recursion CALLs are nested no deeper than there are subroutines (ANSI X3.9-1978, section 15.6; this project)
abbrev pub run_units : ProgramUnits → List ℕ → Run
run_units us data_bytes =
    unit_run_all (call_run (length us.others) us) (call_size (length us.others) us) (main_instance us) us.main.tree.body 1 [] (store_at_start (lines data_bytes))

-- the outcome of program units on their data (this project)
abbrev pub outcome_of_units : ProgramUnits → List ℕ → Outcome
outcome_of_units us data_bytes = outcome_of (for_names us.main) (run_units us data_bytes).ending
