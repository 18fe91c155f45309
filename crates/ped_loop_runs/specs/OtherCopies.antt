-- Cut and paste where a step brings a name into PARALLEL DO loops around the statements, or takes it away: their iterations have other copies then (ParaScope; this project).
use Rattle.std.specs.Prelude.{◌≡◌, ℕ, ◌+◌, ◌<◌, ◌≤◌, List, [], ◌∷◌, ◌++◌, Bool, true, false, ◌⊎◌}
use Rattle.std.specs.Str.Lines.{lines}
use Rattle.std.specs.List.{flat_map}
use Rattle.ped_bodies.specs.ped_flow.specs.ped_base.specs.Lists.{is_among}
use Rattle.ped_bodies.specs.ped_flow.specs.ped_tree.specs.Tree.{Head, StmtTrees, ProgramTree}
use Rattle.ped_bodies.specs.ped_flow.specs.ped_tree.specs.NamesIn.{stmts_names, all_loop_variables, saved_in}
use Rattle.ped_bodies.specs.ped_flow.specs.ped_tree.specs.Numbering.{statement_count, statements_count}
use Rattle.ped_bodies.specs.ped_store.specs.Cells.{Cell}
use Rattle.ped_bodies.specs.ped_store.specs.Stores.{Store, store_at_start}
use Rattle.ped_bodies.specs.ped_store.specs.Acts.{Touch, Step, Act}
use Rattle.ped_bodies.specs.ped_laws.specs.Acts.Fitting.{store_after}
use Rattle.ped_bodies.specs.ped_laws.specs.Acts.Orders.{IsIn}
use Rattle.ped_bodies.specs.ped_laws.specs.Acts.Pieces.{Part, old_parts, new_parts, StandsFor}
use Rattle.ped_bodies.specs.ped_laws.specs.FlowRuns.Covering.{some_stop}
use Rattle.ped_bodies.specs.ped_laws.specs.FlowRuns.Exits.{is_exit, IsOneToOne, AreIterationsOf}
use Rattle.ped_bodies.specs.ped_laws.specs.Runs.Replaying.{act, goes_on, finish_of, Replays}
use Rattle.ped_bodies.specs.ped_laws.specs.Runs.Touching.{is_own_store}
use Rattle.ped_bodies.specs.ped_flow.specs.Questions.{LoopOf}
use Rattle.ped_bodies.specs.ped_eval.specs.Scopes.{Setting, Scope, turns_of, index_value, cell_of, place_of}
use Rattle.ped_bodies.specs.ped_eval.specs.Evaluation.{Seen}
use Rattle.ped_bodies.specs.ped_eval.specs.Loops.{Limits, entered_with, frame, inner_variables, undefined_all}
use Rattle.ped_bodies.specs.ped_eval.specs.Runs.{Run, run_all}
use Rattle.ped_bodies.specs.ped_eval.specs.Outcomes.{setting_of, run_of, live_names, IsRaceFree}
use Rattle.ped_bodies.specs.ped_symbols.specs.Kinds.{kind_in}
use Rattle.ped_bodies.specs.ped_store.specs.Races.{accesses, HasNoRace}
use Rattle.ped_bodies.specs.ped_laws.specs.Runs.Showing.{shown_at_end}
use Rattle.ped_bodies.specs.ped_steps.specs.Runs.Renumbering.{IsToldBack, renumbered}
use Rattle.ped_bodies.specs.ped_steps.specs.Runs.Gaps.{Gap, at_front, past, in_then, in_else, in_body, filled, number_at}
use Rattle.ped_bodies.specs.ped_steps.specs.Runs.Pasting.{AgreeInBounds, is_in_parallel}
use Rattle.ped_loop_runs.specs.Executions.{IsExecuted}
use Rattle.ped_loop_runs.specs.Meaning.{SuitEnds}
use Rattle.ped_loop_runs.specs.Pasting.{CountAlike, AreChangedBy}

-- two places in the same iterations, which give the same values of DO variables: a scalar stands for the same cell at both, but for these names, and what one of them stands for at the first place is apart where it is another cell at the second (ParaScope; this project)
pub record AreNear (names : List (List ℕ)) (apart : Cell → Bool) (scope other : Scope) : Type 0 where
  pub turns : turns_of other ≡ turns_of scope
  pub index : (x : List ℕ) → index_value other x ≡ index_value scope x
  pub cell : (x : List ℕ) → (cell_of other x ≡ cell_of scope x) ⊎ ((is_among x names ≡ true) × (apart (cell_of scope x) ≡ true))

-- the DO loops in some statements and in others have the same variables, but for these names (ANSI X3.9-1978, section 11.10; this project)
abbrev pub HaveSameIndicesBut : List (List ℕ) → StmtTrees → StmtTrees → Type 0
HaveSameIndicesBut names old new = (x : List ℕ) → is_among x names ≡ false → is_among x (all_loop_variables new) ≡ is_among x (all_loop_variables old)

-- this holds of each PARALLEL DO around a gap, by its number, its head and the gap in its body; the first statement of all has number n (plain words)
abbrev pub OfParallelRound : (ℕ → Head → Gap → Type 0) → Gap → ℕ → Type 0
OfParallelRound P (at_front rest) n = Unit {0}
OfParallelRound P (past s gap) n = OfParallelRound P gap (n + statement_count s)
OfParallelRound P (in_then condition gap else_part rest) n = OfParallelRound P gap (n + 1)
OfParallelRound P (in_else condition then_part gap rest) n = OfParallelRound P gap (n + 1 + statements_count then_part)
OfParallelRound P (in_body h gap rest) n = (h.parallel ≡ true → P n h gap) × OfParallelRound P gap (n + 1)

-- in a PARALLEL DO with these statements in the gap, and with others there, the iterations have copies of the same names; where they have one of one of these names, which its head doesn't name, with some statements alone, what that name stands for there is apart; and where it does so and was there with the old ones, it isn't there with the new ones (ParaScope; this project)
pub record HasOtherCopies (names : List (List ℕ)) (apart : Cell → Bool) (p : Setting) (old new : StmtTrees) (n : ℕ) (h : Head) (gap : Gap) : Type 0 where
  pub variable : is_among h.variable names ≡ false
  pub private : (x : List ℕ) → is_among x h.private ≡ true → is_among x names ≡ false
  pub copies : (x : List ℕ) → is_among x names ≡ true → (is_among x (all_loop_variables (filled gap new)) ≡ is_among x (all_loop_variables (filled gap old)))
      ⊎ ((scope : Scope) (seen : List Seen) (m : Limits) (k : ℕ) → apart (cell_of (frame (entered_with p n h (filled gap old) seen m) k ∷ scope) x) ≡ true)
  pub went : (x : List ℕ) → is_among x names ≡ true → is_among x (all_loop_variables (filled gap old)) ≡ true → ((scope : Scope) (seen : List Seen) (m : Limits) (k : ℕ) → apart (cell_of (frame (entered_with p n h (filled gap old) seen m) k ∷ scope) x) ≡ true) → is_among x (all_loop_variables (filled gap new)) ≡ false

-- the same as of statements that are exchanged, where a PARALLEL DO around them finds other variables of DO loops in it among these names (ParaScope; this project)
pub record IsPastedBut (names : List (List ℕ)) (apart : Cell → Bool) (p q : Setting) (gap : Gap) (old new : StmtTrees) (t u : ProgramTree) : Type 0 where
  pub old_body : t.body ≡ filled gap old
  pub new_body : u.body ≡ filled gap new
  pub bounds : AgreeInBounds p.bounds q.bounds (stmts_names t.body)
  pub constants : p.constants ≡ q.constants
  pub one_each : IsOneToOne p.number
  pub numbers : CountAlike p q (number_at gap 1) (statements_count old) (statements_count new) (statements_count t.body)
  pub some : 0 < statements_count old
  pub unstopped : some_stop old ≡ false
  pub indices : is_in_parallel t (number_at gap 1) ≡ true → HaveSameIndicesBut names old new
  pub round : OfParallelRound (HasOtherCopies names apart p old new) gap 1

-- an act is one of the statements with these numbers, this many from l on (plain words)
abbrev pub IsOfThese : Setting → (l count : ℕ) → Act → Type 0
IsOfThese p l count a = (k : ℕ) × (l ≤ k) × (k < l + count) × (a.place.statement ≡ p.number k)

-- a PARALLEL DO around the statement with number l (ParaScope)
pub record IsParallelRound (t : ProgramTree) (l number : ℕ) : Type 0 where
  pub loop : LoopOf t number
  pub parallel : loop.head.parallel ≡ true
  pub from : number < l
  pub to : l ≤ number + statements_count loop.body

-- the act leaves a PARALLEL DO around the statement with number l (ParaScope)
abbrev pub LeavesParallel : Setting → ProgramTree → (l : ℕ) → Act → Type 0
LeavesParallel p t l a = (number : ℕ) × IsParallelRound t l number × (a.place.statement ≡ p.number number) × (is_exit a.step ≡ true)

-- of these acts, those of other statements touch no cell that is apart, but for what a PARALLEL DO around the statements stores of itself when it is left (ParaScope; this project)
abbrev pub LeaveApart : (apart : Cell → Bool) → Setting → ProgramTree → (l count : ℕ) → List Act → Type 0
LeaveApart apart p t l count acts = (a : Act) → IsIn a acts → (x : Touch) → IsIn x a.touches → apart x.cell ≡ true → IsOfThese p l count a ⊎ (LeavesParallel p t l a × (is_own_store x ≡ true))

-- the exit of a PARALLEL DO around the statements, and what it is in the new program: the one makes these names undefined at its place, and the other those at a place near it; both are the same, but for the names, of which one that is apart in its iterations has gone (ParaScope; this project)
pub record IsOtherExit (names : List (List ℕ)) (apart : Cell → Bool) (p : Setting) (t : ProgramTree) (start : Store) (l : ℕ) (front behind : List Act) (u : Store) (old new : List Act) : Type 0 where
  pub number : ℕ
  pub round : IsParallelRound t l number
  pub scope : Scope
  pub other : Scope
  pub near : AreNear names apart scope other
  pub step : Step
  pub leaves : is_exit step ≡ true
  pub first : List Touch
  pub undefined : List (List ℕ)
  pub undefined_now : List (List ℕ)
  pub iterations : AreIterationsOf p t scope
  pub undefined_is : undefined ≡ inner_variables true round.loop.body
  pub alike : (x : List ℕ) → is_among x names ≡ false → is_among x undefined_now ≡ is_among x undefined
  pub went : (x : List ℕ) → is_among x names ≡ true → is_among x undefined ≡ true → ((S : Scope) (seen : List Seen) (m : Limits) (k : ℕ) → apart (cell_of (frame (entered_with p number round.loop.head round.loop.body seen m) k ∷ S) x) ≡ true) → is_among x undefined_now ≡ false
  pub old_is : old ≡ act step (place_of p number scope) (first ++ undefined_all scope undefined) ∷ []
  pub new_is : new ≡ act step (place_of p number scope) (first ++ undefined_all other undefined_now) ∷ []
  pub whole : (run_all p t.body 1 [] start).acts ≡ front ++ (old ++ behind)
  pub from : u ≡ store_after front start

-- an execution that goes on of this many statements from number l on, and what is done in its place at a place near it (this project)
pub record IsExchangedNear (names : List (List ℕ)) (apart : Cell → Bool) (p : Setting) (t : ProgramTree) (start : Store) (l count : ℕ) (piece : Scope → Store → Run) (fresh : (scope other : Scope) → Store → List Act) (front behind : List Act) (u : Store) (old new : List Act) : Type 0 where
  pub scope : Scope
  pub other : Scope
  pub near : AreNear names apart scope other
  pub executed : IsExecuted p t start l count scope front (piece scope u).acts behind u
  pub goes : finish_of (piece scope u).ending ≡ goes_on
  pub old_is : old ≡ (piece scope u).acts
  pub new_is : new ≡ fresh scope other u

-- the changed parts of a list of acts, which is done from this store after the front and before what follows, are executions of the statements at the number, and exits of PARALLEL DO loops around it (ParaScope; this project)
abbrev pub AreExchangedNear : (names : List (List ℕ)) (apart : Cell → Bool) (p : Setting) (t : ProgramTree) (start : Store) (l count : ℕ) (piece : Scope → Store → Run) (fresh : (scope other : Scope) → Store → List Act) → List Act → List Part → List Act → Store → Type 0
AreExchangedNear names apart p t start l count piece fresh =
    AreChangedBy (λ front behind u old new. IsExchangedNear names apart p t start l count piece fresh front behind u old new ⊎ IsOtherExit names apart p t start l front behind u old new)

-- this holds of each execution that goes on of this many statements from number l on, and of each place near it (plain words)
abbrev pub OfExecutionsNear : (names : List (List ℕ)) (apart : Cell → Bool) (p : Setting) (t : ProgramTree) (start : Store) (l count : ℕ) (piece : Scope → Store → Run) → (Scope → Scope → List Act → Store → Type 0) → Type 0
OfExecutionsNear names apart p t start l count piece P = (scope other : Scope) (front behind : List Act) (u : Store) → AreNear names apart scope other → IsExecuted p t start l count scope front (piece scope u).acts behind u → finish_of (piece scope u).ending ≡ goes_on → P scope other behind u

-- for each execution, others do the new acts at each place near it, from each store that these fit (this project)
abbrev pub DoNear : (names : List (List ℕ)) (apart : Cell → Bool) (p q : Setting) (t : ProgramTree) (start : Store) (l count : ℕ) (piece : Scope → Store → Run) (others : StmtTrees) (fresh : (scope other : Scope) → Store → List Act) → Type 0
DoNear names apart p q t start l count piece others fresh = OfExecutionsNear names apart p t start l count piece λ scope other behind u. Replays (run_all q others l other) (fresh scope other u) goes_on

-- for each execution, the new acts may stand for the old ones, where for the acts from there on a set of cells is given on which the stores agree (this project)
abbrev pub StandNear : (agreed : List Act → Cell → Bool) (names : List (List ℕ)) (apart : Cell → Bool) (p : Setting) (t : ProgramTree) (start : Store) (l count : ℕ) (piece : Scope → Store → Run) (fresh : (scope other : Scope) → Store → List Act) → Type 0
StandNear agreed names apart p t start l count piece fresh = OfExecutionsNear names apart p t start l count piece λ scope other behind u.
    StandsFor (record { agreed = agreed ((piece scope u).acts ++ behind); old = (piece scope u).acts; new = fresh scope other u }) (agreed behind) u

-- in both programs the exit makes undefined what the name stands for, which is one cell (ParaScope; this project)
abbrev pub IsUndefinedInBoth : {names : List (List ℕ)} {apart : Cell → Bool} {p : Setting} {t : ProgramTree} {start : Store} {l : ℕ} {front behind : List Act} {u : Store} {old new : List Act} → IsOtherExit names apart p t start l front behind u old new → List ℕ → Type 0
IsUndefinedInBoth e x = (is_among x e.undefined ≡ true) × (is_among x e.undefined_now ≡ true) × (cell_of e.other x ≡ cell_of e.scope x)

-- after each exit of a PARALLEL DO around the statements nothing is asked of what one of these names stands for there, where the exit makes it undefined in one of the two programs alone (ParaScope; this project)
abbrev pub AskNothing : (agreed : List Act → Cell → Bool) (names : List (List ℕ)) (apart : Cell → Bool) (p : Setting) (t : ProgramTree) (start : Store) (l : ℕ) → Type 0
AskNothing agreed names apart p t start l =
    (front behind : List Act) (u : Store) (old new : List Act) → (e : IsOtherExit names apart p t start l front behind u old new) → (x : List ℕ) → is_among x names ≡ true
    → IsUndefinedInBoth e x ⊎ ((is_among x e.undefined ≡ true → agreed behind (cell_of e.scope x) ≡ false) × (is_among x e.undefined_now ≡ true → agreed behind (cell_of e.other x) ≡ false))

-- where the old acts of a run have no race, the list with the new ones has none (ParaScope; this project)
abbrev pub RaceFreeNear : (names : List (List ℕ)) (apart : Cell → Bool) (p : Setting) (t : ProgramTree) (start : Store) (l count : ℕ) (piece : Scope → Store → Run) (fresh : (scope other : Scope) → Store → List Act) → Type 0
RaceFreeNear names apart p t start l count piece fresh =
    (parts : List Part) → old_parts parts ≡ (run_all p t.body 1 [] start).acts → AreExchangedNear names apart p t start l count piece fresh [] parts [] start → HasNoRace (accesses (old_parts parts)) → HasNoRace (accesses (new_parts parts))

-- a program in which statements are exchanged for others, where names come into PARALLEL DO loops around them, or go, and what a step shows of it: the same as where none does; and that other statements leave alone what is apart, and nobody asks for it after the exits of these loops (ParaScope; this project)
pub record IsExchangeNear (names : List (List ℕ)) (apart : Cell → Bool) (gap : Gap) (old new : StmtTrees) (t u : ProgramTree) : Type 0 where
  pub saved : flat_map saved_in u.decls ≡ flat_map saved_in t.decls
  pub kinds : (x : List ℕ) → is_among x (live_names t) ≡ true → kind_in u x ≡ kind_in t x
  pub counted : ℕ → ℕ
  pub told : ℕ → ℕ
  pub back : IsToldBack counted told
  pub pasted : IsPastedBut names apart (setting_of t) (renumbered counted (setting_of u)) gap old new t u
  pub quiet : (data_bytes : List ℕ) → IsRaceFree t data_bytes → LeaveApart apart (setting_of t) t (number_at gap 1) (statements_count old) (run_of t data_bytes).acts
  pub agreed : List ℕ → List Act → Cell → Bool
  pub suit : (data_bytes : List ℕ) → SuitEnds (shown_at_end t) (agreed data_bytes)
  pub asked : (data_bytes : List ℕ) → IsRaceFree t data_bytes → AskNothing (agreed data_bytes) names apart (setting_of t) t (store_at_start (lines data_bytes)) (number_at gap 1)
  pub fresh : List ℕ → (scope other : Scope) → Store → List Act
  pub instead : (data_bytes : List ℕ) → IsRaceFree t data_bytes → DoNear names apart (setting_of t) (renumbered counted (setting_of u)) t (store_at_start (lines data_bytes)) (number_at gap 1) (statements_count old) (run_all (setting_of t) old (number_at gap 1)) new (fresh data_bytes)
  pub stand : (data_bytes : List ℕ) → IsRaceFree t data_bytes → StandNear (agreed data_bytes) names apart (setting_of t) t (store_at_start (lines data_bytes)) (number_at gap 1) (statements_count old) (run_all (setting_of t) old (number_at gap 1)) (fresh data_bytes)
  pub free : (data_bytes : List ℕ) → IsRaceFree t data_bytes → RaceFreeNear names apart (setting_of t) t (store_at_start (lines data_bytes)) (number_at gap 1) (statements_count old) (run_all (setting_of t) old (number_at gap 1)) (fresh data_bytes)
