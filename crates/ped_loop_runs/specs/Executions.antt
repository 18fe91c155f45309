-- Executions of statements among the acts of a run: the iterations that have been entered for them, and the copies that nobody else touches (this project).
use Rattle.std.specs.Prelude.{◌≡◌, ℕ, ◌+◌, ◌<◌, ◌≤◌, List, [], ◌∷◌, ◌++◌, Ok}
use Rattle.ped_bodies.specs.ped_flow.specs.ped_tree.specs.Tree.{Do, ProgramTree}
use Rattle.ped_bodies.specs.ped_store.specs.Cells.{Cell, Private, Iteration}
use Rattle.ped_bodies.specs.ped_store.specs.Stores.{Store}
use Rattle.ped_bodies.specs.ped_store.specs.Acts.{Turn, Touch, Act, iterations_of}
use Rattle.ped_bodies.specs.ped_laws.specs.Acts.Fitting.{store_after}
use Rattle.ped_bodies.specs.ped_laws.specs.Acts.Orders.{IsIn}
use Rattle.ped_bodies.specs.ped_eval.specs.Scopes.{Setting, Frame, Scope, turns_of, names_in}
use Rattle.ped_bodies.specs.ped_eval.specs.Evaluation.{Seen}
use Rattle.ped_bodies.specs.ped_eval.specs.Loops.{Limits, limits, entered_with, frame}
use Rattle.ped_bodies.specs.ped_eval.specs.Runs.{run, run_all}
use Rattle.ped_bodies.specs.ped_flow.specs.PlainBounds.{nest_round, outermost_or}
use Rattle.ped_bodies.specs.ped_flow.specs.Questions.{LoopOf}
use Rattle.ped_bodies.specs.ped_steps.specs.Runs.Pasting.{IsPlaceOf, IsInOutermost, IsDone}

-- a copy that belongs to an iteration of a DO with one of these numbers, this many from n on, or of one in such a DO; the DO is in these iterations (ParaScope; this project)
pub record IsCopyInside (p : Setting) (scope : Scope) (n count : ℕ) (c : Cell) : Type 0 where
  pub name : List ℕ
  pub statement : ℕ
  pub from : n ≤ statement
  pub to : statement < n + count
  pub number : ℕ
  pub rest : List Iteration
  pub is : c ≡ Private name (iterations_of (turns_of scope) ++ (record { statement = p.number statement; number = number }) ∷ rest)

-- a place is in such an iteration (ANSI X3.9-1978, section 11.10; this project)
pub record StandsInside (p : Setting) (scope : Scope) (n count : ℕ) (turns : List Turn) : Type 0 where
  pub statement : ℕ
  pub from : n ≤ statement
  pub to : statement < n + count
  pub number : ℕ
  pub rest : List Iteration
  pub is : iterations_of turns ≡ iterations_of (turns_of scope) ++ (record { statement = p.number statement; number = number }) ∷ rest

-- no act touches such a copy, nor does its place give the value of one; and none is in such an iteration (this project)
abbrev pub LeaveCopies : Setting → Scope → ℕ → ℕ → List Act → Type 0
LeaveCopies p scope n count acts = (a : Act) → IsIn a acts → ((t : Touch) → IsIn t a.touches → IsCopyInside p scope n count t.cell → ⊥) × (StandsInside p scope n count a.place.turns → ⊥)

-- an act of one of this many statements from number n on, done in these iterations or further inside (this project)
pub record IsActInside (p : Setting) (scope : Scope) (n count : ℕ) (a : Act) : Type 0 where
  pub number : ℕ
  pub from : n ≤ number
  pub to : number < n + count
  pub is : a.place.statement ≡ p.number number
  pub more : List Turn
  pub turns : a.place.turns ≡ turns_of scope ++ more

-- none of these acts is one of this many statements from number n on in these iterations, or further inside (this project)
abbrev pub LeavePlaces : Setting → Scope → ℕ → ℕ → List Act → Type 0
LeavePlaces p scope n count acts = (a : Act) → IsIn a acts → IsActInside p scope n count a → ⊥

-- an iteration of a DO of the program that has been entered in these iterations around it: its limits came with the store that the first ones of these acts have left, and it is one of the DO's iterations (ANSI X3.9-1978, sections 11.10.3 to 11.10.7)
pub record IsEntered (p : Setting) (t : ProgramTree) (acts : List Act) (first : Store) (outer : Scope) (f : Frame) : Type 0 where
  pub number : ℕ
  pub loop : LoopOf t number
  pub front : List Act
  pub behind : List Act
  pub whole : acts ≡ front ++ behind
  pub store : Store
  pub left : store ≡ store_after front first
  pub seen : List Seen
  pub bounds : Limits
  pub come : limits (names_in p outer) loop.head store ≡ record { seen = seen; result = Ok bounds }
  pub turn : ℕ
  pub from : 1 ≤ turn
  pub to : turn ≤ (entered_with p number loop.head loop.body seen bounds).count
  pub is : f ≡ frame (entered_with p number loop.head loop.body seen bounds) turn

-- each of these iterations has been entered in those around it (ANSI X3.9-1978, section 11.10.3)
abbrev pub AreEntered : Setting → ProgramTree → List Act → Store → Scope → Type 0
AreEntered p t acts first [] = Unit {0}
AreEntered p t acts first (f ∷ outer) = IsEntered p t acts first outer f × AreEntered p t acts first outer

-- the iterations around these acts have been entered in the execution of the outermost DO, where one is around them (ANSI X3.9-1978, section 11.10.3; this project)
abbrev pub AreEnteredIn : (p : Setting) (t : ProgramTree) (start : Store) (l : ℕ) (scope : Scope) (acts : List Act) (u : Store) → IsInOutermost p t start l scope acts u → Type 0
AreEnteredIn p t start l [] acts u x = Unit {0}
AreEnteredIn p t start l (f ∷ fs) acts u x = AreEntered p t (run p (Do x.loop.head x.loop.body) (outermost_or l (nest_round t l)) [] x.first).acts x.first (f ∷ fs)

-- in a run of a program, which begins with a store, these acts of this many statements from number l on are done in these iterations, from this store, after the front and before what follows: the iterations have been entered, no other act touches the copies that belong to iterations inside the statements, or is in such an iteration, and none is one of theirs in these iterations (ANSI X3.9-1978, section 11.10; this project)
pub record IsExecuted (p : Setting) (t : ProgramTree) (start : Store) (l count : ℕ) (scope : Scope) (front acts behind : List Act) (u : Store) : Type 0 where
  pub place : IsPlaceOf p t l scope
  pub whole : (run_all p t.body 1 [] start).acts ≡ front ++ (acts ++ behind)
  pub from : u ≡ store_after front start
  pub outer : IsInOutermost p t start l scope acts u
  pub entered : AreEnteredIn p t start l scope acts u outer
  pub unused_before : LeaveCopies p scope l count front
  pub unused_behind : LeaveCopies p scope l count behind
  pub only_before : LeavePlaces p scope l count front
  pub only_behind : LeavePlaces p scope l count behind

-- the same without what has been entered and what nobody touches (this project)
abbrev pub as_done : {p : Setting} {t : ProgramTree} {start : Store} {l count : ℕ} {scope : Scope} {front acts behind : List Act} {u : Store} → IsExecuted p t start l count scope front acts behind u → IsDone p t start l scope acts u
as_done {front = front} {behind = behind} x = record { part = record { front = front; behind = behind; is = x.whole; from = x.from }; outer = x.outer }
