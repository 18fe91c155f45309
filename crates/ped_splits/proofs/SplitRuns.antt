-- What the new DO loops do in an execution: in each iteration each unit does likewise what it did in the old one.
use Rattle.std.proofs.Common.{◌≡◌, ℕ, zero, suc, ◌+◌, ◌<◌, ◌≤◌, List, [], ◌∷◌, ◌++◌, length, Bool, true, false, ◌&&◌, inl, inr, refl, sym, ap, subst, ◌∙◌, arith}
use Rattle.std.proofs.lemmas.Bool.{and_parts, both_ways}
use Rattle.std.proofs.lemmas.Bool.Decides.{nat_tests}
use Rattle.std.proofs.lemmas.List.Elements.{All-head, All-tail}
use Rattle.std.specs.List.{flat_map, range_with_len}
use Rattle.std.specs.Prelude.{slice_index_or, nat_le, nat_lt}
use Rattle.ped_tree.specs.Tree.{Head, StmtTrees, Do, no_stmts, ProgramTree}
use Rattle.ped_tree.specs.Numbering.{statement_count, statements_count}
use Rattle.ped_rules.specs.ped_loop_runs.proofs.TidyLaws.TidyPathsGaps.{followed_count}
use Rattle.ped_rules.specs.ped_loop_runs.proofs.PastingLaws.PastedLoops.{run_followed}
use Rattle.ped_rules.specs.ped_loop_runs.specs.Numbers.{counted_by}
use Rattle.ped_rules.specs.ped_bodies.proofs.BodyLaws.Instances.{distributed_body}
use Rattle.ped_rules.specs.ped_bodies.proofs.BodyLaws.TripLists.{loop_apart, loop_made}
use Rattle.ped_rules.specs.ped_bodies.specs.Likewise.{AreLikewise, DoesLikewise}
use Rattle.ped_rules.specs.ped_bodies.specs.Moving.{own_number, in_loop, moved_behind}
use Rattle.ped_rules.specs.ped_bodies.specs.Standing.{SettingsAgree}
use Rattle.ped_rules.specs.ped_bodies.specs.Trips.{IsMadeOfTrips, bounds_seen, entered_from, loop_acts, store_before}
use Rattle.ped_rules.specs.ped_steps.specs.Replacing.{followed}
use Rattle.ped_rules.specs.ped_steps.specs.Runs.Renumbering.{renumbered}
use Rattle.ped_rules.specs.ped_flow.proofs.Answering.{loop_fits}
use Rattle.ped_rules.specs.ped_flow.specs.Questions.{LoopOf}
use Rattle.ped_rules.specs.ped_laws.proofs.RunLaws.Joined.{parted_more, replays_nothing, statements_more}
use Rattle.ped_rules.specs.ped_laws.proofs.RunLaws.Sight.{limits_told}
use Rattle.ped_rules.specs.ped_laws.proofs.RunLaws.StatementsTold.{all_told}
use Rattle.ped_rules.specs.ped_laws.proofs.RunLaws.Told.{replays_behind}
use Rattle.ped_rules.specs.ped_laws.specs.Acts.Fitting.{store_after}
use Rattle.ped_rules.specs.ped_laws.specs.Runs.Replaying.{IsEntered, Replays, behind, finish_of, goes_on}
use Rattle.ped_rules.specs.ped_laws.specs.Runs.Seeing.{ComesTo}
use Rattle.ped_rules.specs.ped_eval.specs.Evaluation.{Seen}
use Rattle.ped_rules.specs.ped_eval.specs.Loops.{Entered, frame, inner_variables, limits}
use Rattle.ped_rules.specs.ped_eval.specs.Outcomes.{setting_of}
use Rattle.ped_rules.specs.ped_eval.specs.Runs.{Ending, Run, failed, followed_by, going, run, run_all, stopped}
use Rattle.ped_rules.specs.ped_eval.specs.Scopes.{Scope, Setting, names_in, place_of, turns_of}
use Rattle.ped_rules.specs.ped_store.specs.Acts.{Act, iterations_of}
use Rattle.ped_rules.specs.ped_store.specs.Cells.{Cell}
use Rattle.ped_rules.specs.ped_laws.specs.Acts.Sets.{nothing}
use Rattle.ped_rules.specs.ped_store.specs.Stores.{Store}
use Rattle.ped_splits.proofs.PiBlockLaws.{In, in_back, in_either, in_front}
use Rattle.ped_splits.proofs.PiBlockSizes.{found_below, width}
use Rattle.ped_splits.proofs.DistributeTrusted.{each_placed}
use Rattle.ped_splits.proofs.Partitions.{blocks_few, flat}
use Rattle.ped_splits.proofs.SplitFacts.{IsSplit}
use Rattle.ped_splits.proofs.SplitNumbers.{all_flat, split_numbers}
use Rattle.ped_splits.proofs.SplitPlaces.{end_of, look, ArePlaced, AllPlaced, AllStanding, AreStanding, Stands, units_placed, units_standing}
use Rattle.ped_splits.proofs.SplitUnits.{offset, size_of_unit, units_joined}
use Rattle.ped_splits.proofs.UnitSizes.{units_few}
use Rattle.ped_splits.specs.PiBlocks.{pi_blocks}
use Rattle.ped_splits.specs.CodeUnits.{AreBelow}
use Rattle.ped_splits.specs.Distributing.{joined, units_at, loops_of}
use Rattle.ped_splits.specs.Units.{units}

-- a function of numbers that count one more
shifted : {X : Type 0} (f : ℕ → List X) (a n : ℕ) → flat_map f (range_with_len (a + 1) n) ≡ flat_map (λ k. f (suc k)) (range_with_len a n)
shifted f a zero = refl
shifted f a (suc n) = (λ i. f ((let e : a + 1 ≡ suc a = omega arith in e) i) ++ shifted f (a + 1) n i)

-- where the whole goes on, what comes first does
pub then_goes : (acts : List Act) (r : Ending) (next : Store → Run) → finish_of (followed_by acts r next).ending ≡ goes_on → finish_of r ≡ goes_on
then_goes acts (going w) next h = refl
then_goes acts (stopped w) next h = h
then_goes acts (failed fault n) next h = h

-- what units do, one behind another
module _ (p : Setting) (scope : Scope) where
  abbrev pub unit_acts : List StmtTrees → ℕ → Store → ℕ → List Act
  unit_acts [] n v k = []
  unit_acts (u ∷ us) n v zero = (run_all p u n scope v).acts
  unit_acts (u ∷ us) n v (suc k) = unit_acts us (n + statements_count u) (store_after (run_all p u n scope v).acts v) k

  -- a unit does this from some store, and goes on
  pub record IsDoneBy (u : StmtTrees) (n : ℕ) (acts : List Act) : Type 0 where
    pub store : Store
    pub goes : finish_of (run_all p u n scope store).ending ≡ goes_on
    pub is : acts ≡ (run_all p u n scope store).acts

  -- the first of two pieces goes on, and then the second does
  first_goes : (u rest : StmtTrees) (n : ℕ) (v : Store) → finish_of (run_all p (followed u rest) n scope v).ending ≡ goes_on → finish_of (run_all p u n scope v).ending ≡ goes_on
  first_goes u rest n v goes =
      then_goes (run_all p u n scope v).acts (run_all p u n scope v).ending (run_all p rest (n + statements_count u) scope)
      (ap (λ (f : Store → Run). finish_of (f v).ending) (sym (run_followed p u rest n scope)) ∙ goes)

  second_is : (u rest : StmtTrees) (n : ℕ) (v : Store) → finish_of (run_all p u n scope v).ending ≡ goes_on → run_all p (followed u rest) n scope v ≡ behind (run_all p u n scope v).acts (run_all p rest (n + statements_count u) scope (store_after (run_all p u n scope v).acts v))
  second_is u rest n v goes = (λ i. run_followed p u rest n scope i v) ∙ parted_more (run_all p u n scope) (run_all p rest (n + statements_count u) scope) (all_told p u n scope) v goes

  pub units_parted : (us : List StmtTrees) (n : ℕ) (v : Store) → finish_of (run_all p (joined us) n scope v).ending ≡ goes_on → (run_all p (joined us) n scope v).acts ≡ flat_map (unit_acts us n v) (range_with_len 0 (length us))
  units_parted [] n v goes = refl
  units_parted (u ∷ us) n v goes =
      let first = first_goes u (joined us) n v goes in
      let whole = second_is u (joined us) n v first in
      ap (λ (r : Run). r.acts) whole
      ∙ ap (λ (acts : List Act). (run_all p u n scope v).acts ++ acts)
      (units_parted us (n + statements_count u) (store_after (run_all p u n scope v).acts v) (ap (λ (r : Run). finish_of r.ending) (sym whole) ∙ goes)
      ∙ sym (shifted (unit_acts (u ∷ us) n v) 0 (length us)))

  pub units_done : (us : List StmtTrees) (n : ℕ) (v : Store) → finish_of (run_all p (joined us) n scope v).ending ≡ goes_on → (k : ℕ) → k < length us → IsDoneBy (slice_index_or us k no_stmts) (n + offset us k) (unit_acts us n v k)
  units_done [] n v goes k less = absurd (omega (arith, less))
  units_done (u ∷ us) n v goes zero less = subst (λ (m : ℕ). IsDoneBy u m (run_all p u n scope v).acts) (let e : n ≡ n + 0 = omega arith in e) (record { store = v; goes = first_goes u (joined us) n v goes; is = refl })
  units_done (u ∷ us) n v goes (suc k) less =
      let whole = second_is u (joined us) n v (first_goes u (joined us) n v goes) in
      subst (λ (m : ℕ). IsDoneBy (slice_index_or us k no_stmts) m (unit_acts us (n + statements_count u) (store_after (run_all p u n scope v).acts v) k)) (let e : n + statements_count u + offset us k ≡ n + (statements_count u + offset us k) = omega arith in e)
      (units_done us (n + statements_count u) (store_after (run_all p u n scope v).acts v) (ap (λ (r : Run). finish_of r.ending) (sym whole) ∙ goes) k (omega (arith, less)))

-- acts that are there for each iteration and each unit, in one function
module _ (count long : ℕ) (P : ℕ → ℕ → List Act → Type 0) (each : (i k : ℕ) → 1 ≤ i → i ≤ count → k < long → (acts : List Act) × P i k acts) where
  abbrev pub within : ℕ → ℕ → Bool
  within i k = nat_le 1 i && (nat_le i count && nat_lt k long)

  pub from_is : (i k : ℕ) → within i k ≡ true → 1 ≤ i
  from_is i k h = let both = and_parts (nat_le 1 i) (nat_le i count && nat_lt k long) h in let is : nat_le 1 i ≡ true = both.0 in grind (arith, nat_tests)

  pub to_is : (i k : ℕ) → within i k ≡ true → i ≤ count
  to_is i k h = let both = and_parts (nat_le 1 i) (nat_le i count && nat_lt k long) h in let rest = and_parts (nat_le i count) (nat_lt k long) both.1 in let is : nat_le i count ≡ true = rest.0 in grind (arith, nat_tests)

  pub unit_is : (i k : ℕ) → within i k ≡ true → k < long
  unit_is i k h = let both = and_parts (nat_le 1 i) (nat_le i count && nat_lt k long) h in let rest = and_parts (nat_le i count) (nat_lt k long) both.1 in let is : nat_lt k long ≡ true = rest.1 in grind (arith, nat_tests)

  is_within : (i k : ℕ) → 1 ≤ i → i ≤ count → k < long → within i k ≡ true
  is_within i k from to less = grind (arith, nat_tests)

  abbrev pub by_test : (i k : ℕ) (b : Bool) → within i k ≡ b → List Act
  by_test i k true h = (each i k (from_is i k h) (to_is i k h) (unit_is i k h)).0
  by_test i k false h = []

  abbrev pub all_chosen : ℕ → ℕ → List Act
  all_chosen i k = by_test i k (within i k) refl

  pub all_are : (i k : ℕ) → 1 ≤ i → i ≤ count → k < long → P i k (all_chosen i k)
  all_are i k from to less = go (within i k) refl
    where
      go : (b : Bool) (h : within i k ≡ b) → P i k (by_test i k b h)
      go true h = (each i k (from_is i k h) (to_is i k h) (unit_is i k h)).1
      go false h = absurd (both_ways (within i k) h (is_within i k from to less))

module _ (t : ProgramTree) (s : ℕ) (l : LoopOf t s) (found : List (List ℕ)) (x : IsSplit t s l found) (scope : Scope) (v : Store) (goes : finish_of (run (setting_of t) (Do l.head l.body) s scope v).ending ≡ goes_on) where
  abbrev p : Setting
  p = setting_of t

  abbrev g : ℕ → ℕ
  g = counted_by (split_numbers t s l.body found)

  abbrev q : Setting
  q = renumbered (counted_by (split_numbers t s l.body found)) (setting_of t)

  abbrev d : Head
  d = l.head

  abbrev body : StmtTrees
  body = l.body

  abbrev pub unit : ℕ → StmtTrees
  unit k = slice_index_or (units l.body) k no_stmts

  abbrev pub many_units : ℕ
  many_units = length (units l.body)

  pub old : IsMadeOfTrips p d body s scope v
  old = loop_apart p d body s scope v goes

  abbrev pub e : Entered
  e = entered_from (setting_of t) l.head l.body s scope v old.bounds

  abbrev pub seen : List Seen
  seen = bounds_seen (setting_of t) l.head scope v

  -- a new DO is entered as the old one, under its number
  abbrev pub entered_at : ℕ → Entered
  entered_at at = record { number = counted_by (split_numbers t s l.body found) at; head = l.head; first = e.first; step = e.step; count = e.count; behind_bounds = e.behind_bounds; inner = e.inner }

  -- the number of the DO of a unit, and the unit's there
  abbrev pub loop_at : ℕ → ℕ
  loop_at k = (look l.body s found k).0

  abbrev pub unit_at : ℕ → ℕ
  unit_at k = (look l.body s found k).1

  -- what copies are called in the DO of a unit
  abbrev pub unit_names : ℕ → Cell → Cell
  unit_names k = moved_behind (iterations_of (turns_of scope)) (in_loop s (counted_by (split_numbers t s l.body found) (loop_at k)))

  abbrev pub store_of : ℕ → Store
  store_of i = store_before seen e scope (place_of (setting_of t) s scope) old.trip v i

  -- what a unit did in an iteration
  abbrev pub old_unit : ℕ → ℕ → List Act
  old_unit i k = unit_acts (setting_of t) (frame e i ∷ scope) (units l.body) (s + 1) (store_of i) k

  some : 0 < statements_count body
  some = by (statements_count body) refl
    where
      many : 2 ≤ length found
      many = x.many

      by : (n : ℕ) → statements_count body ≡ n → 0 < statements_count body
      by (suc n) is = omega (arith, is)
      by zero is =
          let few = units_few body in
          let rows = width t s l.head l.body found x.are in
          let order : length found ≡ length (pi_blocks x.are.reach) = ap (λ (bs : List (List ℕ)). length bs) x.are.order in
          let less : length (pi_blocks x.are.reach) ≤ length x.are.reach = blocks_few x.are.reach (length x.are.reach) (range_with_len 0 (length x.are.reach)) in
          absurd (omega (arith, few, rows, order, less, is, many))

  pub its_body : joined (units l.body) ≡ l.body
  its_body = units_joined l.body some

  goes_there : (i : ℕ) → 1 ≤ i → i ≤ e.count → finish_of (run_all p (joined (units l.body)) (s + 1) (frame e i ∷ scope) (store_of i)).ending ≡ goes_on
  goes_there i from to = ap (λ (ts : StmtTrees). finish_of (run_all p ts (s + 1) (frame e i ∷ scope) (store_of i)).ending) its_body ∙ (old.are i from to).goes

  pub old_parted : (i : ℕ) → 1 ≤ i → i ≤ e.count → old.trip i ≡ flat_map (old_unit i) (range_with_len 0 many_units)
  old_parted i from to =
      (old.are i from to).is
      ∙ ap (λ (ts : StmtTrees). (run_all p ts (s + 1) (frame e i ∷ scope) (store_of i)).acts) (sym its_body)
      ∙ units_parted p (frame e i ∷ scope) (units l.body) (s + 1) (store_of i) (goes_there i from to)

  pub old_units_done : (i k : ℕ) → 1 ≤ i → i ≤ e.count → k < many_units → IsDoneBy p (frame e i ∷ scope) (unit k) (s + 1 + offset (units l.body) k) (old_unit i k)
  old_units_done i k from to less = units_done p (frame e i ∷ scope) (units l.body) (s + 1) (store_of i) (goes_there i from to) k less

  pub inside : s + statements_count l.body ≤ statements_count t.body
  inside = loop_fits t s l.head l.body l.is

  -- a unit stands in the new DO under its old numbers
  stands_in_block : (k at m : ℕ) (block : List ℕ) → ArePlaced body (look body s found) at m block → AreStanding s body g m block → In k block → Stands s body g k (unit_at k)
  stands_in_block k at m [] placed standing i = absurd i
  stands_in_block k at m (j ∷ block) placed standing (inl same) = subst (λ (n : ℕ). Stands s body g n (unit_at n)) (sym same) (subst (λ (w : ℕ × ℕ). Stands s body g j w.1) (sym placed.0) standing.0)
  stands_in_block k at m (j ∷ block) placed standing (inr i) = stands_in_block k at (m + size_of_unit body j) block placed.1 standing.1 i

  stands_in_all : (k at : ℕ) (bs : List (List ℕ)) → AllPlaced body (look body s found) at bs → AllStanding s body g at bs → In k (flat bs) → Stands s body g k (unit_at k)
  stands_in_all k at [] placed standing i = absurd i
  stands_in_all k at (block ∷ bs) placed standing i = elim (in_either k block (flat bs) i) [
    | inl j ↦ stands_in_block k at (at + 1) block placed.0 standing.0 j
    | inr j ↦ stands_in_all k (end_of body (at + 1) block) bs placed.1 standing.1 j
  ]

  unit_stands : (k : ℕ) → k < many_units → Stands s body g k (unit_at k)
  unit_stands k less = stands_in_all k s found (units_placed t s l.head l.body found x.are inside) (units_standing t s l.head l.body found x.are inside) (each_placed t s l.head l.body found x.are k less)

  -- in an iteration of its new DO a unit does likewise what it did
  pub record IsUnitDone (i k : ℕ) (acts : List Act) : Type 0 where
    pub likewise : AreLikewise (unit_names k) nothing own_number (turns_of (frame e i ∷ scope)) (turns_of (frame (entered_at (loop_at k)) i ∷ scope)) (old_unit i k) acts
    pub replays : Replays (run_all q (unit k) (unit_at k) (frame (entered_at (loop_at k)) i ∷ scope)) acts goes_on

  pub each_unit : (i k : ℕ) → 1 ≤ i → i ≤ e.count → k < many_units → (acts : List Act) × IsUnitDone i k acts
  each_unit i k from to less =
      let was = units_done p (frame e i ∷ scope) (units l.body) (s + 1) (store_of i) (goes_there i from to) k less in
      let agree : SettingsAgree own_number p q (unit k) (s + 1 + offset (units l.body) k) (unit_at k) = record { constants = refl; bounds = λ y w. refl; numbers = unit_stands k less } in
      let done : DoesLikewise (unit_names k) nothing own_number (turns_of (frame e i ∷ scope)) (turns_of (frame (entered_at (loop_at k)) i ∷ scope)) (old_unit i k) goes_on (run_all q (unit k) (unit_at k) (frame (entered_at (loop_at k)) i ∷ scope)) =
      subst (λ (acts : List Act). DoesLikewise (unit_names k) nothing own_number (turns_of (frame e i ∷ scope)) (turns_of (frame (entered_at (loop_at k)) i ∷ scope)) acts goes_on (run_all q (unit k) (unit_at k) (frame (entered_at (loop_at k)) i ∷ scope))) (sym was.is)
      (distributed_body p q (unit k) (s + 1 + offset (units l.body) k) (unit_at k) agree scope s (g (loop_at k)) (frame e i) (frame (entered_at (loop_at k)) i) refl refl refl (refl, refl) refl was.store was.goes) in
      (done.fresh, record { likewise = done.likewise; replays = done.replays })

  -- what a unit does in an iteration of its new DO
  abbrev pub new_unit : ℕ → ℕ → List Act
  new_unit = all_chosen e.count many_units IsUnitDone each_unit

  pub new_units_are : (i k : ℕ) → 1 ≤ i → i ≤ e.count → k < many_units → IsUnitDone i k (new_unit i k)
  new_units_are i k from to less = all_are e.count many_units IsUnitDone each_unit i k from to less

  -- what the DO loops of blocks do
  abbrev pub split_acts : ℕ → List (List ℕ) → List Act
  split_acts at [] = []
  split_acts at (block ∷ bs) = loop_acts seen (entered_at at) scope (place_of (renumbered (counted_by (split_numbers t s l.body found)) (setting_of t)) at scope) (λ i. flat_map (new_unit i) block) ++ split_acts (end_of l.body (at + 1) block) bs

  -- a block does it
  block_replays : (at m : ℕ) (block : List ℕ) → ArePlaced body (look body s found) at m block → ((k : ℕ) → In k block → k < many_units) → (i : ℕ) → 1 ≤ i → i ≤ e.count → Replays (run_all q (units_at body block) m (frame (entered_at at) i ∷ scope)) (flat_map (new_unit i) block) goes_on
  block_replays at m [] placed below i from to = replays_nothing
  block_replays at m (k ∷ block) placed below i from to =
      subst (λ (f : Store → Run). Replays f (new_unit i k ++ flat_map (new_unit i) block) goes_on) (sym (run_followed q (unit k) (units_at body block) m (frame (entered_at at) i ∷ scope)))
      (replays_behind (run_all q (unit k) m (frame (entered_at at) i ∷ scope)) (run_all q (units_at body block) (m + statements_count (unit k)) (frame (entered_at at) i ∷ scope)) (new_unit i k) (flat_map (new_unit i) block) goes_on
      (subst (λ (w : ℕ × ℕ). Replays (run_all q (unit k) w.1 (frame (entered_at w.0) i ∷ scope)) (new_unit i k) goes_on) placed.0 (new_units_are i k from to (below k (inl refl))).replays)
      (block_replays at (m + size_of_unit body k) block placed.1 (λ j among. below j (inr among)) i from to))

  -- and so does its DO
  enters : (at : ℕ) (block : List ℕ) → IsEntered q at scope d (units_at body block) seen (entered_at at)
  enters at block = (old.bounds, subst (ComesTo (limits (names_in p scope) d) seen) old.come ((limits_told (names_in p scope) d).comes v), (λ i. record { number = g at; head = l.head; first = e.first; step = e.step; count = e.count; behind_bounds = e.behind_bounds; inner = none_inner i }))
    where
      none_inner : e.inner ≡ inner_variables d.parallel (units_at body block)
      none_inner = ap (λ (b : Bool). inner_variables b body) x.serial ∙ sym (ap (λ (b : Bool). inner_variables b (units_at body block)) x.serial)

  loop_replays : (at : ℕ) (block : List ℕ) → ArePlaced body (look body s found) at (at + 1) block → ((k : ℕ) → In k block → k < many_units) → Replays (run q (Do d (units_at body block)) at scope) (loop_acts seen (entered_at at) scope (place_of q at scope) (λ i. flat_map (new_unit i) block)) goes_on
  loop_replays at block placed below = loop_made q d (units_at body block) at scope seen (entered_at at) (enters at block) (λ i. flat_map (new_unit i) block) (λ i from to. block_replays at (at + 1) block placed below i from to)

  end_is : (m : ℕ) (block : List ℕ) → end_of body m block ≡ m + statements_count (units_at body block)
  end_is m [] = omega arith
  end_is m (k ∷ block) =
      let rest = end_is (m + size_of_unit body k) block in
      let whole = followed_count (unit k) (units_at body block) in
      omega (arith, rest, whole)

  loops_replay : (at : ℕ) (bs : List (List ℕ)) → AllPlaced body (look body s found) at bs → ((k : ℕ) → In k (flat bs) → k < many_units) → Replays (run_all q (loops_of bs d body) at scope) (split_acts at bs) goes_on
  loops_replay at [] placed below = replays_nothing
  loops_replay at (block ∷ bs) placed below =
      statements_more q (Do d (units_at body block)) (loops_of bs d body) at scope (loop_acts seen (entered_at at) scope (place_of q at scope) (λ i. flat_map (new_unit i) block)) (split_acts (end_of body (at + 1) block) bs) goes_on
      (loop_replays at block placed.0 (λ k i. below k (in_front k block (flat bs) i)))
      (subst (λ (n : ℕ). Replays (run_all q (loops_of bs d body) n scope) (split_acts (end_of body (at + 1) block) bs) goes_on) (let e : end_of body (at + 1) block ≡ at + statement_count (Do d (units_at body block)) = (let is = end_is (at + 1) block in omega (arith, is)) in e)
      (loops_replay (end_of body (at + 1) block) bs placed.1 (λ k i. below k (in_back k block (flat bs) i))))

  pub units_below : (k : ℕ) → In k (flat found) → k < many_units
  units_below k i = each_below (flat found) (all_flat many_units found (found_below t s l.head l.body found x.are)) i
    where
      each_below : (ks : List ℕ) → AreBelow many_units ks → In k ks → k < many_units
      each_below [] h i = absurd i
      each_below (j ∷ ks) h (inl same) = subst (λ (n : ℕ). n < many_units) (sym same) (All-head (λ n. n < many_units) j ks h)
      each_below (j ∷ ks) h (inr i) = each_below ks (All-tail (λ n. n < many_units) j ks h) i

  -- the new DO loops do this, from each store that it fits
  pub split_replays : Replays (run_all q (loops_of found l.head l.body) s scope) (split_acts s found) goes_on
  split_replays = loops_replay s found (units_placed t s l.head l.body found x.are inside) units_below
