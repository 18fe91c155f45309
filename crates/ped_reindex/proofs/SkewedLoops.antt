-- A DO whose one inner DO gives way to one with as many iterations, whose bodies do likewise: it does the same acts, but for what the inner one leaves in its variable.
use Rattle.std.proofs.Common.{◌≡◌, ℕ, ◌+◌, ◌-◌, ◌<◌, ◌≤◌, List, [], ◌∷◌, ◌++◌, Bool, true, false, ◌==◌, ◌&&◌, not, Some, None, Ok, refl, sym, ap, ◌∙◌, subst, inr, arith, append-nil, if◌then◌else◌}
use Rattle.ped_tree.specs.Numbering.{statements_count}
use Rattle.ped_tree.specs.NamesIn.{loop_variables, all_loop_variables}
use Rattle.ped_tree.specs.Tree.{Assign, Comment, Do, Head, If, Print, Read, StmtTree, StmtTrees, Stop, more_stmts, no_stmts}
use Rattle.ped_rules.specs.ped_store.specs.Cells.{Cell}
use Rattle.ped_rules.specs.ped_store.specs.Stores.{Store}
use Rattle.ped_rules.specs.ped_store.specs.Acts.{Touch, Place, Act, ended_turn, closed}
use Rattle.ped_rules.specs.ped_laws.specs.Acts.Fitting.{of_cells}
use Rattle.ped_rules.specs.ped_laws.specs.Acts.Sets.{nothing}
use Rattle.ped_rules.specs.ped_laws.specs.Acts.Renaming.{own_name}
use Rattle.ped_rules.specs.ped_laws.specs.Runs.Seeing.{ComesTo}
use Rattle.ped_rules.specs.ped_laws.specs.Runs.Replaying.{IsEntered, Replays, finish_of, goes_on, act}
use Rattle.ped_rules.specs.ped_laws.proofs.RunLaws.Sight.{limits_told}
use Rattle.ped_rules.specs.ped_eval.specs.Evaluation.{numbered}
use Rattle.ped_rules.specs.ped_eval.specs.Loops.{Entered, Limits, limits, sorted_once, inner_variables, frame, left_in_variable, undefined_by, undefined_all, exit_touches, exit_when_none}
use Rattle.ped_rules.specs.ped_eval.specs.Runs.{Run, run}
use Rattle.ped_rules.specs.ped_eval.specs.Scopes.{Frame, Scope, Setting, turns_of, cell_of, names_in, place_of}
use Rattle.ped_rules.specs.ped_eval.specs.Statements.{write_touch}
use Rattle.ped_rules.specs.ped_eval.specs.Turns.{body_run}
use Rattle.ped_rules.specs.ped_bodies.specs.Likewise.{AreSeenAlike}
use Rattle.ped_rules.specs.ped_bodies.specs.Moving.{own_number}
use Rattle.ped_rules.specs.ped_bodies.specs.Standing.{GoLikewise}
use Rattle.ped_rules.specs.ped_bodies.specs.Trips.{IsMadeOfTrips, IsTrip, MakesTripsLikewise, OfTrips, bounds_seen, entered_from, loop_acts, loop_close, loop_entry, store_before, trip_end, trips}
use Rattle.ped_rules.specs.ped_bodies.proofs.BodyLaws.TripLists.{loop_apart, loop_made}
use Rattle.ped_rules.specs.ped_bodies.proofs.BodyLaws.TripsLikewise.{chosen, chosen_are, trips_made}
use Rattle.ped_rules.specs.OnlyLoops.{change_only, only_loop}
use Rattle.ped_rules.proofs.NestLaws.OnlyBodies.{pair, only_runs, only_tells, same_head, same_inside}
use Rattle.ped_reindex.proofs.SkewedActs.{valueless, AreSameTurns, AllKept, IsKeptAct, AreKept, turns_append, touches_themselves, cells_kept, acts_themselves, kept_append, kept_rows, likewise_kept, touches_likewise}

-- with these limits of the old DO the new one has limits, for which it reads the same; it has as many iterations, and in each its body does likewise what the old one's did
pub record HasLaterTrips (p : Setting) (g h : Head) (inside others : StmtTrees) (n : ℕ) (scope : Scope) (s : Store) (old : Limits) : Type 0 where
  pub bounds : Limits
  pub come : (limits (names_in p scope) h s).result ≡ Ok bounds
  pub seen : AreSeenAlike own_name nothing (bounds_seen p g scope s) (bounds_seen p h scope s)
  pub count : (entered_from p h others n scope s bounds).count ≡ (entered_from p g inside n scope s old).count
  pub likewise : OfTrips (entered_from p h others n scope s bounds) (λ j. GoLikewise own_name nothing own_number p p inside others (n + 1) (n + 1) (frame (entered_from p g inside n scope s old) j ∷ scope) (frame (entered_from p h others n scope s bounds) j ∷ scope))

-- what is done instead
pub record IsDoneInstead (idle : Cell → Bool) (piece : Store → Run) (acts : List Act) : Type 0 where
  pub fresh : List Act
  pub replays : Replays piece fresh goes_on
  pub kept : AreKept idle acts fresh

-- the one inner DO, changed
module _ (g h : Head) (inside others : StmtTrees) (new : Head → StmtTrees → StmtTree) (is : new g inside ≡ Do h others) where
  alone_by : (f : Head) (body rest : StmtTrees) (b : Bool) → (statements_count rest == 0) ≡ b → (if b then Some (pair f body) else None) ≡ Some (pair g inside) → only_loop (more_stmts (new f body) rest) ≡ Some (pair h others)
  alone_by f body rest true c e =
      ap (λ (z : StmtTree). only_loop (more_stmts z rest)) ((λ i. new (same_head f g body inside e i) (same_inside f g body inside e i)) ∙ is)
      ∙ ap (λ (b : Bool). if b then Some (pair h others) else None) c
  alone_by f body rest false c e = absurd cc

  pub only_new : (ts : StmtTrees) → only_loop ts ≡ Some (pair g inside) → only_loop (change_only new ts) ≡ Some (pair h others)
  only_new no_stmts e = absurd cc
  only_new (more_stmts (Comment text) rest) e = only_new rest e
  only_new (more_stmts (Do f body) rest) e = alone_by f body rest (statements_count rest == 0) refl e
  only_new (more_stmts (Assign left right) rest) e = absurd cc
  only_new (more_stmts (If c a b) rest) e = absurd cc
  only_new (more_stmts (Print items) rest) e = absurd cc
  only_new (more_stmts (Read items) rest) e = absurd cc
  only_new (more_stmts Stop rest) e = absurd cc

-- an outer DO taken apart
module _ (p : Setting) (d : Head) (body : StmtTrees) (l : ℕ) (scope : Scope) (s : Store) (goes : finish_of (run p (Do d body) l scope s).ending ≡ goes_on) where
  pub outer : IsMadeOfTrips p d body l scope s
  outer = loop_apart p d body l scope s goes

  abbrev pub outer_entered : Entered
  outer_entered = entered_from p d body l scope s outer.bounds

  -- the store before an iteration
  abbrev pub store_at : ℕ → Store
  store_at k = store_before (bounds_seen p d scope s) (entered_from p d body l scope s outer.bounds) scope (place_of p l scope) outer.trip s k

-- the inner DO, in one iteration of the outer one
module _ (p : Setting) (g h : Head) (inside others : StmtTrees) (variable : h.variable ≡ g.variable) (private : h.private ≡ g.private) (parallel : h.parallel ≡ g.parallel) (loops : all_loop_variables others ≡ all_loop_variables inside) (idle : Cell → Bool) where
  module _ (n : ℕ) (scope : Scope) (s : Store) (stored : idle (cell_of scope g.variable) ≡ true) (goes : finish_of (run p (Do g inside) n scope s).ending ≡ goes_on) (later : (old : Limits) → (limits (names_in p scope) g s).result ≡ Ok old → HasLaterTrips p g h inside others n scope s old) where
    old : IsMadeOfTrips p g inside n scope s
    old = loop_apart p g inside n scope s goes

    same : HasLaterTrips p g h inside others n scope s old.bounds
    same = later old.bounds old.come

    abbrev e : Entered
    e = entered_from p g inside n scope s old.bounds

    abbrev z : Entered
    z = entered_from p h others n scope s same.bounds

    abbrev at : Place
    at = place_of p n scope

    comes : ComesTo (limits (names_in p scope) h) (bounds_seen p h scope s) (Ok same.bounds)
    comes u holds = (limits_told (names_in p scope) h).comes s u holds ∙ (λ i. record { seen = bounds_seen p h scope s; result = same.come i })

    made : MakesTripsLikewise own_name nothing own_number e scope old.trip (λ j. j) p h others n scope (bounds_seen p h scope s) z
    made = trips_made p p g h inside others n n scope scope s (bounds_seen p h scope s) z own_name nothing own_number (λ j. j) old (same.bounds, comes, refl)
        (λ j from to. (from, (let count = same.count in omega (arith, count, to)), same.likewise j from to))

    -- what leaves the DO
    inner_same : inner_variables h.parallel others ≡ inner_variables g.parallel inside
    inner_same = (λ i. inner_variables (parallel i) others) ∙ go g.parallel
      where
        go : (b : Bool) → inner_variables b others ≡ inner_variables b inside
        go true = λ i. sorted_once (loops i)
        go false = refl

    behind_same : z.behind_bounds ≡ e.behind_bounds
    behind_same = same.seen.behind 1

    exits_kept : AllKept idle (of_cells (exit_touches e scope)) (of_cells (exit_touches z scope))
    exits_kept =
        cells_kept idle (write_touch (cell_of scope g.variable) (left_in_variable e) 0 ∷ []) (write_touch (cell_of scope h.variable) (left_in_variable z) 0 ∷ []) (rest e.behind_bounds g.private e.inner) (rest z.behind_bounds h.private z.inner)
        ((record { manner = refl; reference = refl; cell = ap (cell_of scope) variable; content = inr stored }), tt)
        (subst (λ (ts : List Touch). AllKept idle (of_cells (rest e.behind_bounds g.private e.inner)) (of_cells ts)) (λ i. rest (sym behind_same i) (sym private i) (sym inner_same i)) (touches_themselves idle (of_cells (rest e.behind_bounds g.private e.inner))))
      where
        rest : ℕ → List (List ℕ) → List (List ℕ) → List Touch
        rest k xs ys = undefined_by scope k xs ++ undefined_all scope ys

    when_none : (m : ℕ) → AllKept idle (of_cells (exit_when_none m e scope)) (of_cells (exit_when_none m z scope))
    when_none m = go (m == 0)
      where
        go : (b : Bool) → AllKept idle (of_cells (if b then exit_touches e scope else [])) (of_cells (if b then exit_touches z scope else []))
        go true = exits_kept
        go false = tt

    entry_kept : IsKeptAct idle (loop_entry (bounds_seen p g scope s) e scope at) (loop_entry (bounds_seen p h scope s) z scope at)
    entry_kept = record {
      turns = refl;
      touches = cells_kept idle (numbered 1 (bounds_seen p g scope s)) (numbered 1 (bounds_seen p h scope s)) (exit_when_none e.count e scope) (exit_when_none z.count z scope)
          (touches_likewise idle (of_cells (numbered 1 (bounds_seen p g scope s))) (of_cells (numbered 1 (bounds_seen p h scope s))) (same.seen.touches 1))
          (subst (λ (m : ℕ). AllKept idle (of_cells (exit_when_none e.count e scope)) (of_cells (exit_when_none m z scope))) (sym same.count) (when_none e.count));
    }

    -- the ends of iterations
    end_by : (b : Bool) (j m : ℕ) → e.count - j ≡ m → AreKept idle (if b then [] else act (ended_turn (e.count - j)) at (exit_when_none (e.count - j) e scope) ∷ []) (if b then [] else act (ended_turn m) at (exit_when_none m z scope) ∷ [])
    end_by true j m q = tt
    end_by false j m q = (record { turns = refl; touches = subst (λ (k : ℕ). AllKept idle (of_cells (exit_when_none (e.count - j) e scope)) (of_cells (exit_when_none k z scope))) q (when_none (e.count - j)) }, tt)

    end_kept : (j : ℕ) → AreKept idle (trip_end e scope at j) (trip_end z scope at j)
    end_kept j =
        subst (λ (c : Bool). AreKept idle (trip_end e scope at j) (if c then [] else act (ended_turn (z.count - j)) at (exit_when_none (z.count - j) z scope) ∷ [])) (sym parallel)
        (end_by g.parallel j (z.count - j) (λ i. sym same.count i - j))

    close_by : (b : Bool) (m : ℕ) → e.count ≡ m → AreKept idle (if b && not (e.count == 0) then act closed at (exit_touches e scope) ∷ [] else []) (if b && not (m == 0) then act closed at (exit_touches z scope) ∷ [] else [])
    close_by b m q =
        subst (λ (k : ℕ). AreKept idle (if b && not (e.count == 0) then act closed at (exit_touches e scope) ∷ [] else []) (if b && not (k == 0) then act closed at (exit_touches z scope) ∷ [] else [])) q (go (b && not (e.count == 0)))
      where
        go : (c : Bool) → AreKept idle (if c then act closed at (exit_touches e scope) ∷ [] else []) (if c then act closed at (exit_touches z scope) ∷ [] else [])
        go true = (record { turns = refl; touches = exits_kept }, tt)
        go false = tt

    close_kept : AreKept idle (loop_close e scope at) (loop_close z scope at)
    close_kept =
        subst (λ (c : Bool). AreKept idle (loop_close e scope at) (if c && not (z.count == 0) then act closed at (exit_touches z scope) ∷ [] else [])) (sym parallel)
        (close_by g.parallel z.count (sym same.count))

    -- the iterations
    same_turns : (j : ℕ) → AreSameTurns (turns_of (frame z j ∷ scope)) (turns_of (frame e j ∷ scope))
    same_turns j = turns_append (turns_of scope) (turns_of scope) ((frame z j).turn ∷ []) ((frame e j).turn ∷ []) refl (λ i. valueless (record { statement = e.number; parallel = parallel i; number = j; value = (frame z j).turn.value }) ∷ [])

    trip_kept : (j : ℕ) → 1 ≤ j → j < 1 + e.count → AreKept idle (old.trip j ++ trip_end e scope at j) (made.fresh j ++ trip_end z scope at j)
    trip_kept j from less =
        kept_append idle (old.trip j) (made.fresh j) (trip_end e scope at j) (trip_end z scope at j)
        (likewise_kept idle (turns_of (frame e j ∷ scope)) (turns_of (frame z j ∷ scope)) (old.trip j) (made.fresh j) (same_turns j) (made.likewise j from (let count = same.count in omega (arith, count, less))))
        (end_kept j)

    trips_kept : AreKept idle (trips e scope at old.trip 1 e.count) (trips z scope at made.fresh 1 z.count)
    trips_kept =
        subst (λ (m : ℕ). AreKept idle (trips e scope at old.trip 1 e.count) (trips z scope at made.fresh 1 m)) (sym same.count)
        (kept_rows idle (λ j. old.trip j ++ trip_end e scope at j) (λ j. made.fresh j ++ trip_end z scope at j) e.count 1 (λ j from less. trip_kept j from less))

    pub inner_instead : IsDoneInstead idle (run p (Do h others) n scope) (run p (Do g inside) n scope s).acts
    inner_instead = record {
      fresh = loop_acts (bounds_seen p h scope s) z scope at made.fresh;
      replays = made.replays;
      kept = subst (λ (acts : List Act). AreKept idle acts (loop_acts (bounds_seen p h scope s) z scope at made.fresh)) (sym old.acts)
          (entry_kept, kept_append idle (trips e scope at old.trip 1 e.count) (trips z scope at made.fresh 1 z.count) (loop_close e scope at) (loop_close z scope at) trips_kept close_kept);
    }

  -- it has the same DO loops in it
  module _ (body other_body : StmtTrees) (only : only_loop body ≡ Some (pair g inside)) (new_only : only_loop other_body ≡ Some (pair h others)) where
    old_loops : all_loop_variables body ≡ loop_variables (Do g inside)
    old_loops = only_tells g inside loop_variables all_loop_variables (λ (xs ys : List (List ℕ)). xs ++ ys) [] (λ xs. refl) (λ xs. append-nil xs) refl (λ t rest. refl) (λ text. refl) body only

    new_loops : all_loop_variables other_body ≡ loop_variables (Do h others)
    new_loops = only_tells h others loop_variables all_loop_variables (λ (xs ys : List (List ℕ)). xs ++ ys) [] (λ xs. refl) (λ xs. append-nil xs) refl (λ t rest. refl) (λ text. refl) other_body new_only

    pub same_loops : all_loop_variables other_body ≡ all_loop_variables body
    same_loops = new_loops ∙ (λ i. variable i ∷ loops i) ∙ sym old_loops

    inner_names : (b : Bool) → inner_variables b body ≡ inner_variables b other_body
    inner_names true = λ i. sorted_once (sym same_loops i)
    inner_names false = refl

  -- the outer one
  module _ (d : Head) (body other_body : StmtTrees) (only : only_loop body ≡ Some (pair g inside)) (new_only : only_loop other_body ≡ Some (pair h others)) (l : ℕ) (scope : Scope) (s : Store) (goes : finish_of (run p (Do d body) l scope s).ending ≡ goes_on) (stored : (f : Frame) → idle (cell_of (f ∷ scope) g.variable) ≡ true) where
    abbrev its_place : Place
    its_place = place_of p l scope

    abbrev pub e0 : Entered
    e0 = outer_entered p d body l scope s goes

    abbrev pub old_trip : ℕ → List Act
    old_trip = (outer p d body l scope s goes).trip

    new_entered : IsEntered p l scope d other_body (bounds_seen p d scope s) e0
    new_entered = (
      (outer p d body l scope s goes).bounds,
      (λ u holds. (limits_told (names_in p scope) d).comes s u holds ∙ (λ i. record { seen = bounds_seen p d scope s; result = (outer p d body l scope s goes).come i })),
      (λ i. record { number = e0.number; head = d; first = e0.first; step = e0.step; count = e0.count; behind_bounds = e0.behind_bounds; inner = inner_names body other_body only new_only d.parallel i }),
    )

    module _ (later : (k : ℕ) → 1 ≤ k → k ≤ e0.count → (old : Limits) → (limits (names_in p (frame e0 k ∷ scope)) g (store_at p d body l scope s goes k)).result ≡ Ok old → HasLaterTrips p g h inside others (l + 1) (frame e0 k ∷ scope) (store_at p d body l scope s goes k) old) where
      abbrev pub Instead : ℕ → List Act → Type 0
      Instead k acts = Replays (body_run p other_body l scope (frame e0 k)) acts goes_on × AreKept idle (old_trip k) acts

      pub each : OfTrips e0 (λ k. (acts : List Act) × Instead k acts)
      each k from to = (
        instead.fresh,
        (
          subst (λ (f : Store → Run). Replays f instead.fresh goes_on) (λ i v. sym (only_runs h others p other_body (l + 1) (frame e0 k ∷ scope) v new_only) i) instead.replays,
          subst (λ (acts : List Act). AreKept idle acts instead.fresh) (sym (trip.is ∙ ap (λ (r : Run). r.acts) alone)) instead.kept,
        ),
      )
        where
          trip : IsTrip p body l scope e0 k (store_at p d body l scope s goes k) (old_trip k)
          trip = (outer p d body l scope s goes).are k from to

          alone : body_run p body l scope (frame e0 k) (store_at p d body l scope s goes k) ≡ run p (Do g inside) (l + 1) (frame e0 k ∷ scope) (store_at p d body l scope s goes k)
          alone = only_runs g inside p body (l + 1) (frame e0 k ∷ scope) (store_at p d body l scope s goes k) only

          instead : IsDoneInstead idle (run p (Do h others) (l + 1) (frame e0 k ∷ scope)) (run p (Do g inside) (l + 1) (frame e0 k ∷ scope) (store_at p d body l scope s goes k)).acts
          instead = inner_instead (l + 1) (frame e0 k ∷ scope) (store_at p d body l scope s goes k) (stored (frame e0 k)) (ap (λ (r : Run). finish_of r.ending) (sym alone) ∙ trip.goes) (later k from to)

      abbrev pub new_trip : ℕ → List Act
      new_trip = chosen e0 Instead each

      -- what follows the entry
      abbrev pub old_rest : List Act
      old_rest = trips e0 scope (place_of p l scope) old_trip 1 e0.count ++ loop_close e0 scope (place_of p l scope)

      abbrev pub new_rest : List Act
      new_rest = trips e0 scope (place_of p l scope) (chosen e0 Instead each) 1 e0.count ++ loop_close e0 scope (place_of p l scope)

      pub rests_kept : AreKept idle old_rest new_rest
      rests_kept =
          kept_append idle (trips e0 scope its_place old_trip 1 e0.count) (trips e0 scope its_place new_trip 1 e0.count) (loop_close e0 scope its_place) (loop_close e0 scope its_place)
          (kept_rows idle (λ j. old_trip j ++ trip_end e0 scope its_place j) (λ j. new_trip j ++ trip_end e0 scope its_place j) e0.count 1
          (λ j from less.
          kept_append idle (old_trip j) (new_trip j) (trip_end e0 scope its_place j) (trip_end e0 scope its_place j) (chosen_are e0 Instead each j from (omega (arith, less))).1
          (acts_themselves idle (trip_end e0 scope its_place j))))
          (acts_themselves idle (loop_close e0 scope its_place))

      pub new_replays : Replays (run p (Do d other_body) l scope) (loop_entry (bounds_seen p d scope s) e0 scope (place_of p l scope) ∷ new_rest) goes_on
      new_replays = loop_made p d other_body l scope (bounds_seen p d scope s) e0 new_entered new_trip (λ k from to. (chosen_are e0 Instead each k from to).0)
