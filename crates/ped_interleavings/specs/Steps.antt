-- One step of a run whose PARALLEL DO loops go on in any order: an assignment, a READ, a PRINT, a STOP, a condition, the entry of a DO, the end of an iteration of a DO, or the close of a PARALLEL DO. A number picks the iteration that does it (this project).
use Rattle.std.specs.Prelude.{ℕ, zero, suc, ◌+◌, ◌/◌, List, [], ◌∷◌, Option, Some, None, Result, Ok, Err, if◌then◌else◌}
use Rattle.ped_tree.specs.Tree.{StmtTree, Assign, If, Do, Print, Read, Stop, Comment}
use Rattle.ped_tree.specs.Numbering.{statements_count}
use Rattle.ped_eval.specs.ped_store.specs.Stores.{Store}
use Rattle.ped_eval.specs.ped_store.specs.Acts.{Touch, Place, Step, did, entered, ended_turn, closed, Act}
use Rattle.ped_eval.specs.Scopes.{Setting, Scope, names_in, place_of}
use Rattle.ped_eval.specs.Evaluation.{Seen, numbered}
use Rattle.ped_eval.specs.Values.{truth}
use Rattle.ped_eval.specs.Loops.{limits, entered_with, exit_touches, exit_when_none, entry_touches}
use Rattle.ped_eval.specs.Runs.{Ending, going, stopped, failed, Run, run}
use Rattle.ped_interleavings.specs.Lefts.{Left, finished, begins, ends_turn, open_loop, Lefts, no_lefts, more_lefts, left_of_all, turns_left, entered_left, many, pick, with_left}

-- the result of the next step: nothing is left; a fault with its number and its statement; an act, and the rest after it; an act by which a STOP ends the program
pub data Next : Type 0 where
  over : Next
  met : ℕ → ℕ → Next
  went : Act → Left → Next
  halted : Act → Next

-- an act by its parts (plain words)
abbrev pub act_of : Step → Place → List Touch → Act
act_of step at touches = record { step = step; place = at; touches = touches }

-- the step of one iteration as a step of the whole: what the iteration has left becomes what the whole has left (plain words)
abbrev pub inside : Next → (Left → Left) → Next
inside over whole = over
inside (met fault statement) whole = met fault statement
inside (went a l) whole = went a (whole l)
inside (halted a) whole = halted a

-- the step of a statement of one act, by the acts and the ending of its run (this project)
abbrev pub by_run : List Act → Ending → Left → Next
by_run acts (failed fault statement) rest = met fault statement
by_run (a ∷ acts) (going s) rest = went a rest
by_run (a ∷ acts) (stopped s) rest = halted a
by_run [] (going s) rest = over
by_run [] (stopped s) rest = over

-- the same, by its run
abbrev pub simple_step : Run → Left → Next
simple_step r rest = by_run r.acts r.ending rest

-- goes on with what was read and the value; a fault ends the program
abbrev pub seen_next : {A : Type 0} → Place → List Seen → Result A ℕ → (List Seen → A → Next) → Next
seen_next at seen (Ok x) next = next seen x
seen_next at seen (Err fault) next = met fault at.statement

-- the step with which a statement with number n begins: an IF does its condition, and its part is left; a DO is entered; any other statement is done (ANSI X3.9-1978, sections 10.1, 11, 12.8; this project)
abbrev pub begun : Setting → StmtTree → ℕ → Scope → Left → Store → Next
begun p (Assign left right) n scope rest s = simple_step (run p (Assign left right) n scope s) rest
begun p (If condition then_part else_part) n scope rest s =
    let e = truth (names_in p scope) condition s in
    seen_next (place_of p n scope) e.seen e.result λ seen holds.
    went (act_of did (place_of p n scope) (numbered 1 seen))
    (if holds then left_of_all then_part (n + 1) scope rest else left_of_all else_part (n + 1 + statements_count then_part) scope rest)
begun p (Do h body) n scope rest s =
    let e = limits (names_in p scope) h s in
    seen_next (place_of p n scope) e.seen e.result λ seen l.
    let d = entered_with p n h body seen l in
    went (act_of (entered d.count) (place_of p n scope) (entry_touches seen d scope)) (entered_left h.parallel d.count d body n scope rest)
begun p (Print items) n scope rest s = simple_step (run p (Print items) n scope s) rest
begun p (Read items) n scope rest s = simple_step (run p (Read items) n scope s) rest
begun p Stop n scope rest s = simple_step (run p Stop n scope s) rest
begun p (Comment text) n scope rest s = simple_step (run p (Comment text) n scope s) rest

-- the step of an open PARALLEL DO: that of the iteration which is picked, or, where none is, its close
abbrev pub opened_step : Option ℕ → (ℕ → Next) → Next → Next
opened_step (Some j) step close = step j
opened_step None step close = close

abbrev mutual
  -- the next step of the rest, with the choice c: in an open PARALLEL DO with N iterations c mod N picks an iteration, and c div N picks on in that; the end of an iteration of a DO, the last of which leaves the DO, and the close of a PARALLEL DO take no choice of their own (this project)
  pub step : Setting → Left → ℕ → Store → Next
  step p finished c s = over
  step p (begins t n scope rest) c s = begun p t n scope rest s
  step p (ends_turn e body n scope k more rest) c s =
      went (act_of (ended_turn more) (place_of p n scope) (exit_when_none more e scope)) (turns_left more (k + 1) e body n scope rest)
  step p (open_loop e n scope ls rest) c s =
      opened_step (pick c ls)
      (λ j. inside (step_at p ls j (c / many ls) s) (λ l. open_loop e n scope (with_left j l ls) rest))
      (went (act_of closed (place_of p n scope) (exit_touches e scope)) rest)

  -- the next step of the iteration at place j (this project)
  pub step_at : Setting → Lefts → ℕ → ℕ → Store → Next
  step_at p no_lefts j c s = over
  step_at p (more_lefts l ls) zero c s = step p l c s
  step_at p (more_lefts l ls) (suc j) c s = step_at p ls j c s
