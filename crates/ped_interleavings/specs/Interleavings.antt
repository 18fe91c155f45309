-- Interleavings: runs of a program whose PARALLEL DO loops go on in any order, as a list of choices picks it (this project).
use Rattle.std.specs.Prelude.{◌≡◌, ℕ, zero, suc, List, [], ◌∷◌, drop, Option, Some, None, option_and_then, if◌then◌else◌}
use Rattle.std.specs.Str.Lines.{lines}
use Rattle.ped_tree.specs.Tree.{ProgramTree}
use Rattle.ped_eval.specs.ped_store.specs.Stores.{Store, store_at_start}
use Rattle.ped_eval.specs.ped_store.specs.Acts.{Act, store_behind}
use Rattle.ped_eval.specs.Scopes.{Setting}
use Rattle.ped_eval.specs.Runs.{going}
use Rattle.ped_eval.specs.Outcomes.{Outcome, Fault, setting_of, outcome_of}
use Rattle.ped_interleavings.specs.Lefts.{Left, finished, left_of_all, wants_choice}
use Rattle.ped_interleavings.specs.Steps.{Next, over, met, went, halted, step}

-- the state of a run: the rest of it, the choices that it hasn't used, and its store
pub record Standing : Type 0 where
  pub left : Left
  pub choices : List ℕ
  pub store : Store

-- the next choice: after the end of the list it is 0
abbrev pub choice : List ℕ → ℕ
choice [] = 0
choice (c ∷ cs) = c

-- the choices after a step, which has used one where it was a step of an iteration of a PARALLEL DO
abbrev pub choices_behind : Left → List ℕ → List ℕ
choices_behind l cs = if wants_choice l then drop 1 cs else cs

-- the next step of a run
abbrev pub next_step : Setting → Standing → Next
next_step p st = step p st.left (choice st.choices) st.store

-- the state of a run after an act, with this rest
abbrev pub behind_act : Act → Left → Standing → Standing
behind_act a l st = record { left = l; choices = choices_behind st.left st.choices; store = store_behind a.touches st.store }

-- the state of a run after a step with this result: where nothing is left or a fault is met, it has ended
abbrev pub standing_by : Next → Standing → Option Standing
standing_by over st = None
standing_by (met fault statement) st = None
standing_by (went a l) st = Some (behind_act a l st)
standing_by (halted a) st = Some (behind_act a finished st)

-- the state of a run after its next step, unless it has ended
abbrev pub next_standing : Setting → Standing → Option Standing
next_standing p st = standing_by (next_step p st) st

-- the state of a run after this many steps, unless it has ended before
abbrev pub after_steps : Setting → ℕ → Standing → Option Standing
after_steps p zero st = Some st
after_steps p (suc n) st = option_and_then (after_steps p n) (next_standing p st)

-- a run in the one state reaches the other
abbrev pub IsReached : Setting → Standing → Standing → Type 0
IsReached p st new = (n : ℕ) × (after_steps p n st ≡ Some new)

-- the outcome of a program with this store whose next step has this result: it has ended where nothing is left, or with a fault
abbrev pub ended_by : ProgramTree → Next → Store → Option Outcome
ended_by t over s = Some (outcome_of t (going s))
ended_by t (met fault statement) s = Some (Fault fault statement)
ended_by t (went a l) s = None
ended_by t (halted a) s = None

-- a run of a program in this state ends with this outcome
abbrev pub IsInterleavedFrom : ProgramTree → Standing → Outcome → Type 0
IsInterleavedFrom t st o = (last : Standing) × IsReached (setting_of t) st last × (ended_by t (next_step (setting_of t) last) last.store ≡ Some o)

-- a program before its first step: all of it is left (ANSI X3.9-1978, section 2.4.1; this project)
abbrev pub at_start : ProgramTree → List ℕ → List ℕ → Standing
at_start t data_bytes choices = record { left = left_of_all t.body 1 [] finished; choices = choices; store = store_at_start (lines data_bytes) }

-- with these choices, and 0 after them, the program ends with this outcome on its data (this project)
abbrev pub IsInterleaved : ProgramTree → List ℕ → List ℕ → Outcome → Type 0
IsInterleaved t data_bytes choices o = IsInterleavedFrom t (at_start t data_bytes choices) o
