-- Runs in order: the acts of statements, one after the other, and how they end. A run is a function of the statements, the number of the first, the iterations around them, and the store (ANSI X3.9-1978, sections 11, 12.8; this project).
use Rattle.std.specs.Prelude.{ℕ, zero, suc, ◌+◌, List, [], ◌∷◌, ◌++◌, Bool, true, false, Option, Some, None, Result, Ok, Err, if◌then◌else◌}
use Rattle.ped_tree.specs.Tree.{ExprTree, CondTree, ItemTree, Head, StmtTree, StmtTrees, Assign, If, Do, Print, Read, Stop, Comment, no_stmts, more_stmts}
use Rattle.ped_tree.specs.Numbering.{statement_count, statements_count}
use Rattle.ped_store.specs.Stores.{Store}
use Rattle.ped_store.specs.Acts.{Touch, Place, Step, did, entered, ended_turn, closed, faulted, Act, store_behind}
use Rattle.ped_eval.specs.Scopes.{Setting, Frame, Scope, Names, names_in, place_of}
use Rattle.ped_eval.specs.Evaluation.{Seen, Evaluated, numbered}
use Rattle.ped_eval.specs.Values.{truth}
use Rattle.ped_eval.specs.Statements.{assigned, assignment_touches, printed_line, print_touches, Taking, reading, reading_touches}
use Rattle.ped_eval.specs.Loops.{limits, Entered, entered_with, frame, exit_touches, exit_when_none, entry_touches}

-- how a run ends: it goes on with a store; a STOP has ended the program with a store; a fault has, with its number and its statement
pub data Ending : Type 0 where
  going : Store → Ending
  stopped : Store → Ending
  failed : ℕ → ℕ → Ending

-- a run: its acts in order, and its ending
pub record Run : Type 0 where
  pub acts : List Act
  pub ending : Ending

-- a run that does nothing and goes on
abbrev pub nothing_done : Store → Run
nothing_done s = record { acts = []; ending = going s }

-- acts and their ending, and then, where that goes on, a run from its store
abbrev pub followed_by : List Act → Ending → (Store → Run) → Run
followed_by acts (going s) next = record { acts = acts ++ (next s).acts; ending = (next s).ending }
followed_by acts (stopped s) next = record { acts = acts; ending = stopped s }
followed_by acts (failed fault statement) next = record { acts = acts; ending = failed fault statement }

-- a run, and then, where it goes on, another from its store
abbrev pub then_run : Run → (Store → Run) → Run
then_run r next = followed_by r.acts r.ending next

-- an act, and then a run from the store after it
abbrev pub does : Step → Place → List Touch → (Store → Run) → Store → Run
does step at touches next s = followed_by (record { step = step; place = at; touches = touches } ∷ []) (going (store_behind touches s)) next

-- a fault: the last act is what the statement has done until then
abbrev pub fails : Place → List Touch → ℕ → Run
fails at touches fault = record { acts = record { step = faulted; place = at; touches = touches } ∷ []; ending = failed fault at.statement }

-- goes on with what was read and the value, or fails
abbrev pub on_value : {A : Type 0} → Place → List Seen → Result A ℕ → (List Seen → A → Run) → Run
on_value at seen (Ok x) next = next seen x
on_value at seen (Err fault) next = fails at (numbered 1 seen) fault

-- goes on with what an evaluation has read and its value, or fails
abbrev pub on : {A : Type 0} → Place → Evaluated A → (List Seen → A → Run) → Run
on at e next = on_value at e.seen e.result next

-- an assignment (ANSI X3.9-1978, section 10.1)
abbrev pub run_assignment : Names → Place → ExprTree → ExprTree → Store → Run
run_assignment g at left right s = on at (assigned g left right s) λ seen w. does did at (assignment_touches seen w) nothing_done s

-- a PRINT (ANSI X3.9-1978, section 12.8)
abbrev pub run_print : Names → Place → List ItemTree → Store → Run
run_print g at items s = on at (printed_line g items s) λ seen line. does did at (print_touches seen line s) nothing_done s

-- a READ that has come to this: it goes on, or fails
abbrev pub run_taking : Place → Taking → Option ℕ → Store → Run
run_taking at t None s = does did at (reading_touches t s) nothing_done s
run_taking at t (Some fault) s = fails at (reading_touches t s) fault

-- a READ (ANSI X3.9-1978, section 12.8; this project)
abbrev pub run_read : Names → Place → List ExprTree → Store → Run
run_read g at items s = run_taking at (reading g items s) (reading g items s).fault s

-- a STOP (ANSI X3.9-1978, section 11.12)
abbrev pub run_stop : Place → Store → Run
run_stop at s = does did at [] (λ u. record { acts = []; ending = stopped u }) s

-- a block IF: its condition, and then one of its parts (ANSI X3.9-1978, section 11.6)
abbrev pub run_if : Names → Place → CondTree → (Store → Run) → (Store → Run) → Store → Run
run_if g at condition then_part else_part s =
    on at (truth g condition s) λ seen holds. does did at (numbered 1 seen) (if holds then then_part else else_part) s

-- n more iterations of a DO, the first of them with number k, each with its end; the last leaves the DO (ANSI X3.9-1978, sections 11.10.4 to 11.10.7)
abbrev pub turns : ℕ → ℕ → Entered → Scope → Place → (Frame → Store → Run) → Store → Run
turns zero k e scope at body s = nothing_done s
turns (suc n) k e scope at body s = then_run (body (frame e k) s) (does (ended_turn n) at (exit_when_none n e scope) (turns n (k + 1) e scope at body))

-- n more iterations of a PARALLEL DO, in order, the first of them with number k (ParaScope; this project)
abbrev pub parallel_turns : ℕ → ℕ → Entered → (Frame → Store → Run) → Store → Run
parallel_turns zero k e body s = nothing_done s
parallel_turns (suc n) k e body s = then_run (body (frame e k) s) (parallel_turns n (k + 1) e body)

-- what follows the entry of a DO; a PARALLEL DO is closed after its iterations. With a count of 0 the entry has left it (ANSI X3.9-1978, section 11.10.4; this project)
abbrev pub run_entered : Bool → ℕ → Entered → Scope → Place → (Frame → Store → Run) → Store → Run
run_entered parallel zero e scope at body s = nothing_done s
run_entered false (suc n) e scope at body s = turns (suc n) 1 e scope at body s
run_entered true (suc n) e scope at body s = then_run (parallel_turns (suc n) 1 e body s) (does closed at (exit_touches e scope) nothing_done)

-- a DO from its entry on, where its bounds have read this (ANSI X3.9-1978, section 11.10.3)
abbrev pub run_from_entry : List Seen → Entered → Scope → Place → (Frame → Store → Run) → Store → Run
run_from_entry seen e scope at body s = does (entered e.count) at (entry_touches seen e scope) (run_entered e.head.parallel e.count e scope at body) s

-- a DO (ANSI X3.9-1978, section 11.10)
abbrev pub run_do : Setting → ℕ → Scope → Head → StmtTrees → (Frame → Store → Run) → Store → Run
run_do p n scope h statements body s =
    on (place_of p n scope) (limits (names_in p scope) h s) λ seen l.
    run_from_entry seen (entered_with p n h statements seen l) scope (place_of p n scope) body s

-- the run of a statement with number n in these iterations (ANSI X3.9-1978, sections 10.1, 11, 12.8; this project)
abbrev mutual
  pub run : Setting → StmtTree → ℕ → Scope → Store → Run
  run p (Assign left right) n scope s = run_assignment (names_in p scope) (place_of p n scope) left right s
  run p (If condition then_part else_part) n scope s =
      run_if (names_in p scope) (place_of p n scope) condition (run_all p then_part (n + 1) scope) (run_all p else_part (n + 1 + statements_count then_part) scope) s
  run p (Do h body) n scope s = run_do p n scope h body (λ f. run_all p body (n + 1) (f ∷ scope)) s
  run p (Print items) n scope s = run_print (names_in p scope) (place_of p n scope) items s
  run p (Read items) n scope s = run_read (names_in p scope) (place_of p n scope) items s
  run p Stop n scope s = run_stop (place_of p n scope) s
  run p (Comment text) n scope s = nothing_done s

  -- the run of statements, of which the first has number n, in these iterations (ANSI X3.9-1978, section 11; this project)
  pub run_all : Setting → StmtTrees → ℕ → Scope → Store → Run
  run_all p no_stmts n scope s = nothing_done s
  run_all p (more_stmts t rest) n scope s = then_run (run p t n scope s) (run_all p rest (n + statement_count t) scope)
