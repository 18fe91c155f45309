-- A DO taken apart into its trips, one for each iteration, and put together from them (ANSI X3.9-1978, section 11.10; this project).
use Rattle.std.specs.Prelude.{◌≡◌, ℕ, ◌+◌, ◌-◌, ◌≤◌, List, [], ◌∷◌, ◌++◌, Bool, true, ◌==◌, ◌&&◌, not, Ok, if◌then◌else◌}
use Rattle.std.specs.List.{flat_map, range_with_len}
use Rattle.ped_steps.specs.ped_flow.specs.ped_tree.specs.Tree.{Head, StmtTrees, Do}
use Rattle.ped_steps.specs.ped_store.specs.Cells.{Cell}
use Rattle.ped_steps.specs.ped_store.specs.Stores.{Store}
use Rattle.ped_steps.specs.ped_store.specs.Acts.{Place, Act, entered, ended_turn, closed}
use Rattle.ped_steps.specs.ped_laws.specs.Acts.Fitting.{store_after}
use Rattle.ped_steps.specs.ped_eval.specs.Scopes.{Setting, Scope, Names, turns_of, names_in, place_of}
use Rattle.ped_steps.specs.ped_eval.specs.Evaluation.{Seen}
use Rattle.ped_steps.specs.ped_eval.specs.Loops.{is_bound, Limits, limits, Entered, entered_with, frame, exit_touches, exit_when_none, entry_touches}
use Rattle.ped_steps.specs.ped_eval.specs.Values.{value}
use Rattle.ped_steps.specs.ped_eval.specs.Runs.{run}
use Rattle.ped_steps.specs.ped_eval.specs.Turns.{body_run}
use Rattle.ped_steps.specs.ped_laws.specs.Runs.Replaying.{goes_on, finish_of, act, Replays, IsEntered}
use Rattle.ped_bodies.specs.Likewise.{AreLikewise}
use Rattle.ped_bodies.specs.Standing.{GoLikewise}

-- the bounds of a DO have values with this store, within their range: what is read for the terminal value comes after what is read for the initial one (ANSI X3.9-1978, section 11.10.3; this project)
pub record HasLimits (g : Names) (d : Head) (s : Store) (l : Limits) : Type 0 where
  pub first : (value g d.first s).result ≡ Ok l.first
  pub last : (value g d.last s).result ≡ Ok l.last
  pub first_bound : is_bound l.first ≡ true
  pub last_bound : is_bound l.last ≡ true
  pub seen : (limits g d s).seen ≡ (value g d.first s).seen ++ (value g d.last s).seen

-- the entry of a DO, whose bounds have read this (ANSI X3.9-1978, section 11.10.3)
abbrev pub loop_entry : List Seen → Entered → Scope → Place → Act
loop_entry seen e scope at = act (entered e.count) at (entry_touches seen e scope)

-- the end of iteration k of a DO; those of a PARALLEL DO have none (ANSI X3.9-1978, section 11.10.4; ParaScope)
abbrev pub trip_end : Entered → Scope → Place → ℕ → List Act
trip_end e scope at k = if e.head.parallel then [] else act (ended_turn (e.count - k)) at (exit_when_none (e.count - k) e scope) ∷ []

-- this many trips with their ends, the first of which has number k (ANSI X3.9-1978, sections 11.10.4 to 11.10.7)
abbrev pub trips : Entered → Scope → Place → (ℕ → List Act) → (k count : ℕ) → List Act
trips e scope at trip k count = flat_map (λ j. trip j ++ trip_end e scope at j) (range_with_len k count)

-- the close of a PARALLEL DO that has had iterations; another DO has none (ParaScope)
abbrev pub loop_close : Entered → Scope → Place → List Act
loop_close e scope at = if e.head.parallel && not (e.count == 0) then act closed at (exit_touches e scope) ∷ [] else []

-- a DO by its trips: its entry, the trips with their ends, and its close (ANSI X3.9-1978, section 11.10; this project)
abbrev pub loop_acts : List Seen → Entered → Scope → Place → (ℕ → List Act) → List Act
loop_acts seen e scope at trip = loop_entry seen e scope at ∷ (trips e scope at trip 1 e.count ++ loop_close e scope at)

-- the store before trip k of a DO that was entered from the store s (this project)
abbrev pub store_before : List Seen → Entered → Scope → Place → (ℕ → List Act) → Store → ℕ → Store
store_before seen e scope at trip s k = store_after (loop_entry seen e scope at ∷ trips e scope at trip 1 (k - 1)) s

-- this holds of the number of each iteration of a DO that has been entered (plain words)
abbrev pub OfTrips : Entered → (ℕ → Type 0) → Type 0
OfTrips e P = (k : ℕ) → 1 ≤ k → k ≤ e.count → P k

-- what a DO has read in its bounds when it is reached with this store (plain words)
abbrev pub bounds_seen : Setting → Head → Scope → Store → List Seen
bounds_seen p d scope s = (limits (names_in p scope) d s).seen

-- a DO that is entered from the store s with these limits (plain words)
abbrev pub entered_from : Setting → Head → StmtTrees → ℕ → Scope → Store → Limits → Entered
entered_from p d body n scope s l = entered_with p n d body (bounds_seen p d scope s) l

-- a trip is what the body does in this iteration from this store, and the body goes on (this project)
pub record IsTrip (p : Setting) (body : StmtTrees) (n : ℕ) (scope : Scope) (e : Entered) (k : ℕ) (u : Store) (acts : List Act) : Type 0 where
  pub goes : finish_of (body_run p body n scope (frame e k) u).ending ≡ goes_on
  pub is : acts ≡ (body_run p body n scope (frame e k) u).acts

-- the run of a DO from the store s by its trips: its bounds have values, with which it is entered, here and from each store that holds what they have read; and each trip is what its body does in that iteration from the store that is left before it (ANSI X3.9-1978, section 11.10; this project)
pub record IsMadeOfTrips (p : Setting) (d : Head) (body : StmtTrees) (n : ℕ) (scope : Scope) (s : Store) : Type 0 where
  pub bounds : Limits
  pub come : (limits (names_in p scope) d s).result ≡ Ok bounds
  pub entered : IsEntered p n scope d body (bounds_seen p d scope s) (entered_from p d body n scope s bounds)
  pub trip : ℕ → List Act
  pub are : OfTrips (entered_from p d body n scope s bounds) (λ k. IsTrip p body n scope (entered_from p d body n scope s bounds) k (store_before (bounds_seen p d scope s) (entered_from p d body n scope s bounds) scope (place_of p n scope) trip s k) (trip k))
  pub acts : (run p (Do d body) n scope s).acts ≡ loop_acts (bounds_seen p d scope s) (entered_from p d body n scope s bounds) scope (place_of p n scope) trip

-- a DO of which each trip does likewise what some trip of an old one did: it replays the loop that is made of these trips (this project)
pub record MakesTripsLikewise (name : Cell → Cell) (idle : Cell → Bool) (f : ℕ → ℕ) (e : Entered) (scope : Scope) (trip : ℕ → List Act) (of : ℕ → ℕ) (q : Setting) (d : Head) (body : StmtTrees) (m : ℕ) (other : Scope) (seen : List Seen) (z : Entered) : Type 0 where
  pub fresh : ℕ → List Act
  pub likewise : OfTrips z (λ j. AreLikewise name idle f (turns_of (frame e (of j) ∷ scope)) (turns_of (frame z j ∷ other)) (trip (of j)) (fresh j))
  pub replays : Replays (run q (Do d body) m other) (loop_acts seen z other (place_of q m other) fresh) goes_on

-- in each of its iterations the body of a DO does likewise what that of an old one did in one of its own (this project)
abbrev pub DoTripsLikewise : (name : Cell → Cell) (idle : Cell → Bool) (f : ℕ → ℕ) (p : Setting) (body : StmtTrees) (n : ℕ) (scope : Scope) (e : Entered) (of : ℕ → ℕ) (q : Setting) (others : StmtTrees) (m : ℕ) (other : Scope) (z : Entered) → Type 0
DoTripsLikewise name idle f p body n scope e of q others m other z = OfTrips z (λ j. (1 ≤ of j) × (of j ≤ e.count) × GoLikewise name idle f p q body others (n + 1) (m + 1) (frame e (of j) ∷ scope) (frame z j ∷ other))
