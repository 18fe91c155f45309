-- Behind a DO its PRIVATE names are undefined at its place: its last act writes them last.
use Rattle.std.proofs.Common.{◌≡◌, ℕ, zero, suc, ◌+◌, ◌≤◌, List, [], ◌∷◌, ◌++◌, length, append-nil, append_assoc, Bool, true, false, ◌||◌, if◌then◌else◌, refl, sym, ap, subst, ◌∙◌, arith}
use Rattle.std.specs.List.{flat_map, list_any, range_with_len}
use Rattle.ped_tree.specs.Tree.{Do, ProgramTree}
use Rattle.ped_rules.specs.ped_bodies.proofs.BodyLaws.TripLists.{close_in_order, end_in_order}
use Rattle.ped_rules.specs.ped_bodies.specs.Trips.{bounds_seen, loop_acts, loop_entry, trip_end, trips}
use Rattle.ped_rules.specs.ped_flow.specs.Questions.{LoopOf}
use Rattle.ped_rules.specs.ped_steps.specs.Runs.Renumbering.{renumbered}
use Rattle.ped_rules.specs.ped_loop_runs.specs.Numbers.{counted_by}
use Rattle.ped_rules.specs.ped_laws.proofs.ActLaws.Appending.{written_append}
use Rattle.ped_rules.specs.ped_laws.proofs.ActLaws.Renamings.{or_right}
use Rattle.ped_rules.specs.ped_laws.proofs.ActLaws.Stores.{after_append, behind_append}
use Rattle.ped_rules.specs.ped_laws.specs.Acts.Fitting.{store_after}
use Rattle.ped_rules.specs.ped_laws.specs.Acts.Sets.{written, written_by}
use Rattle.ped_rules.specs.ped_laws.specs.Runs.Replaying.{act, finish_of, goes_on}
use Rattle.ped_rules.specs.ped_eval.specs.Evaluation.{Seen, numbered}
use Rattle.ped_rules.specs.ped_eval.specs.Loops.{Entered, exit_touches, exit_when_none, inner_variables, left_in_variable, undefined_all, undefined_by}
use Rattle.ped_rules.specs.ped_eval.specs.Outcomes.{setting_of}
use Rattle.ped_rules.specs.ped_eval.specs.Runs.{run}
use Rattle.ped_rules.specs.ped_eval.specs.Scopes.{Scope, cell_of, place_of}
use Rattle.ped_rules.specs.ped_eval.specs.Statements.{write_touch}
use Rattle.ped_rules.specs.ped_store.specs.Acts.{Act, Place, Touch, ended_turn, store_behind, touched, writes}
use Rattle.ped_rules.specs.ped_store.specs.Cells.{Cell, same_cell}
use Rattle.ped_rules.specs.ped_store.specs.Stores.{Store, Undefined}
use Rattle.ped_splits.proofs.SplitFacts.{IsSplit}
use Rattle.ped_splits.proofs.SplitNumbers.{split_numbers}
use Rattle.ped_splits.proofs.SplitPlaces.{end_of}
use Rattle.ped_splits.proofs.SplitRuns as runs

-- the last of some rows
last_row : {X : Type 0} (f : ℕ → List X) (a n : ℕ) → flat_map f (range_with_len a (suc n)) ≡ flat_map f (range_with_len a n) ++ f (a + n)
last_row f a zero = append-nil (f a) ∙ ap f (let e : a ≡ a + 0 = omega arith in e)
last_row f a (suc n) =
    ap (λ zs. f a ++ zs) (last_row f (a + 1) n ∙ ap (λ (m : ℕ). flat_map f (range_with_len (a + 1) n) ++ f m) (let e : a + 1 + n ≡ a + suc n = omega arith in e))
    ∙ sym (append_assoc (f a) (flat_map f (range_with_len (a + 1) n)) (f (a + suc n)))

-- the PRIVATE names become undefined
module _ (scope : Scope) (c : Cell) where
  still_undefined : (n : ℕ) (ys : List (List ℕ)) (u : Store) → u c ≡ Undefined → store_behind (undefined_by scope n ys) u c ≡ Undefined
  still_undefined n [] u h = h
  still_undefined n (y ∷ ys) u h = still_undefined (suc n) ys (touched writes (cell_of scope y) Undefined u) (by (same_cell (cell_of scope y) c))
    where
      by : (b : Bool) → (if b then Undefined else u c) ≡ Undefined
      by true = refl
      by false = h

  becomes_undefined : (n : ℕ) (ys : List (List ℕ)) (u : Store) → list_any (λ y. same_cell (cell_of scope y) c) ys ≡ true → store_behind (undefined_by scope n ys) u c ≡ Undefined
  becomes_undefined n [] u h = absurd cc
  becomes_undefined n (y ∷ ys) u h = by (becomes_undefined (suc n) ys (touched writes (cell_of scope y) Undefined u)) (same_cell (cell_of scope y) c) refl h
    where
      first : same_cell (cell_of scope y) c ≡ true → (b : Bool) → same_cell (cell_of scope y) c ≡ b → (if b then Undefined else u c) ≡ Undefined
      first e true k = refl
      first e false k = absurd (let wrong : true ≡ false = sym e ∙ k in absurd cc)

      by : (list_any (λ y. same_cell (cell_of scope y) c) ys ≡ true → store_behind (undefined_by scope (suc n) ys) (touched writes (cell_of scope y) Undefined u) c ≡ Undefined)
          → (b : Bool) → same_cell (cell_of scope y) c ≡ b → b || list_any (λ y. same_cell (cell_of scope y) c) ys ≡ true → store_behind (undefined_by scope n (y ∷ ys)) u c ≡ Undefined
      by later true e k = still_undefined (suc n) ys (touched writes (cell_of scope y) Undefined u) (first e (same_cell (cell_of scope y) c) refl)
      by later false e k = later k

  some_written : (n : ℕ) (ys : List (List ℕ)) → list_any (λ y. same_cell (cell_of scope y) c) ys ≡ true → written_by (undefined_by scope n ys) c ≡ true
  some_written n [] h = absurd cc
  some_written n (y ∷ ys) h = by (some_written (suc n) ys) (same_cell (cell_of scope y) c) h
    where
      by : (list_any (λ y. same_cell (cell_of scope y) c) ys ≡ true → written_by (undefined_by scope (suc n) ys) c ≡ true) → (b : Bool) → b || list_any (λ y. same_cell (cell_of scope y) c) ys ≡ true → b || written_by (undefined_by scope (suc n) ys) c ≡ true
      by later true k = refl
      by later false k = later k

  -- acts of which the last one writes the cell, and leaves it undefined
  pub record LeaveUndefined (acts : List Act) : Type 0 where
    pub more : List Act
    pub last : Act
    pub is : acts ≡ more ++ last ∷ []
    pub undefined : (u : Store) → store_behind last.touches u c ≡ Undefined
    pub writes : written_by last.touches c ≡ true

  pub leaves_undefined : (acts : List Act) → LeaveUndefined acts → (u : Store) → store_after acts u c ≡ Undefined
  leaves_undefined acts x u = ap (λ (zs : List Act). store_after zs u c) x.is ∙ ap (λ (w : Store). w c) (after_append x.more (x.last ∷ []) u) ∙ x.undefined (store_after x.more u)

  pub is_written : (acts : List Act) → LeaveUndefined acts → written acts c ≡ true
  is_written acts x =
      ap (λ (zs : List Act). written zs c) x.is ∙ written_append x.more (x.last ∷ []) c ∙ or_right (written x.more c) (written (x.last ∷ []) c) (ap (λ (ts : List Touch). written_by ts c) (append-nil x.last.touches) ∙ x.writes)

  module _ (e : Entered) (serial : e.head.parallel ≡ false) (inner : e.inner ≡ []) (private : list_any (λ y. same_cell (cell_of scope y) c) e.head.private ≡ true) where
    exit_is : exit_touches e scope ≡ write_touch (cell_of scope e.head.variable) (left_in_variable e) 0 ∷ undefined_by scope e.behind_bounds e.head.private
    exit_is = ap (λ (ts : List Touch). write_touch (cell_of scope e.head.variable) (left_in_variable e) 0 ∷ ts) (ap (λ (xs : List (List ℕ)). undefined_by scope e.behind_bounds e.head.private ++ undefined_all scope xs) inner ∙ append-nil (undefined_by scope e.behind_bounds e.head.private))

    exit_leaves : (u : Store) → store_behind (exit_touches e scope) u c ≡ Undefined
    exit_leaves u = ap (λ (ts : List Touch). store_behind ts u c) exit_is ∙ becomes_undefined e.behind_bounds e.head.private (touched writes (cell_of scope e.head.variable) (left_in_variable e) u) private

    exit_writes : written_by (exit_touches e scope) c ≡ true
    exit_writes = ap (λ (ts : List Touch). written_by ts c) exit_is ∙ or_right (same_cell (cell_of scope e.head.variable) c) (written_by (undefined_by scope e.behind_bounds e.head.private) c) (some_written e.behind_bounds e.head.private private)

    pub loop_leaves : (seen : List Seen) (at : Place) (trip : ℕ → List Act) → LeaveUndefined (loop_acts seen e scope at trip)
    loop_leaves seen at trip = by e.count refl
      where
        entry : Act
        entry = loop_entry seen e scope at

        no_close : (m : ℕ) → e.count ≡ m → loop_acts seen e scope at trip ≡ entry ∷ trips e scope at trip 1 m
        no_close m is = ap (λ (acts : List Act). entry ∷ acts) ((λ i. trips e scope at trip 1 (is i) ++ close_in_order e scope at serial i) ∙ append-nil (trips e scope at trip 1 m))

        by : (m : ℕ) → e.count ≡ m → LeaveUndefined (loop_acts seen e scope at trip)
        by zero none = record {
          more = [];
          last = entry;
          is = no_close 0 none;
          undefined = λ u. ap (λ (n : ℕ). store_behind (numbered 1 seen ++ exit_when_none n e scope) u c) none ∙ ap (λ (w : Store). w c) (behind_append (numbered 1 seen) (exit_touches e scope) u) ∙ exit_leaves (store_behind (numbered 1 seen) u);
          writes = ap (λ (n : ℕ). written_by (numbered 1 seen ++ exit_when_none n e scope) c) none ∙ ends_written (numbered 1 seen);
        }
          where
            ends_written : (ts : List Touch) → written_by (ts ++ exit_touches e scope) c ≡ true
            ends_written [] = exit_writes
            ends_written (t ∷ ts) = or_right _ (written_by (ts ++ exit_touches e scope) c) (ends_written ts)
        by (suc n) is =
            let end : trip_end e scope at (1 + n) ≡ act (ended_turn 0) at (exit_touches e scope) ∷ [] = end_in_order e scope at (1 + n) 0 serial (omega (arith, is)) in
            record {
              more = entry ∷ (trips e scope at trip 1 n ++ trip (1 + n));
              last = act (ended_turn 0) at (exit_touches e scope);
              is = no_close (suc n) is
                  ∙ ap (λ (acts : List Act). entry ∷ acts) (last_row (λ j. trip j ++ trip_end e scope at j) 1 n ∙ ap (λ (acts : List Act). trips e scope at trip 1 n ++ (trip (1 + n) ++ acts)) end
                  ∙ sym (append_assoc (trips e scope at trip 1 n) (trip (1 + n)) (act (ended_turn 0) at (exit_touches e scope) ∷ [])));
              undefined = exit_leaves;
              writes = exit_writes;
            }

-- so it is behind the old DO, and behind the new ones
module _ (t : ProgramTree) (s : ℕ) (l : LoopOf t s) (found : List (List ℕ)) (x : IsSplit t s l found) (scope : Scope) (v : Store) (goes : finish_of (run (setting_of t) (Do l.head l.body) s scope v).ending ≡ goes_on) (c : Cell) (private : list_any (λ y. same_cell (cell_of scope y) c) l.head.private ≡ true) where
  abbrev e : Entered
  e = runs.e t s l found x scope v goes

  no_inner : e.inner ≡ []
  no_inner = ap (λ (b : Bool). inner_variables b l.body) x.serial

  pub old_leaves : LeaveUndefined scope c (run (setting_of t) (Do l.head l.body) s scope v).acts
  old_leaves =
      subst (LeaveUndefined scope c) (sym (runs.old t s l found x scope v goes).acts)
      (loop_leaves scope c e x.serial no_inner private (bounds_seen (setting_of t) l.head scope v) (place_of (setting_of t) s scope) (runs.old t s l found x scope v goes).trip)

  abbrev first_loop : ℕ → List ℕ → List Act
  first_loop at block = loop_acts (runs.seen t s l found x scope v goes) (runs.entered_at t s l found x scope v goes at) scope (place_of (renumbered (counted_by (split_numbers t s l.body found)) (setting_of t)) at scope) (λ i. flat_map (runs.new_unit t s l found x scope v goes i) block)

  first_leaves : (at : ℕ) (block : List ℕ) → LeaveUndefined scope c (first_loop at block)
  first_leaves at block =
      loop_leaves scope c (runs.entered_at t s l found x scope v goes at) x.serial no_inner private (runs.seen t s l found x scope v goes) (place_of (renumbered (counted_by (split_numbers t s l.body found)) (setting_of t)) at scope) (λ i. flat_map (runs.new_unit t s l found x scope v goes i) block)

  new_undefined : (at : ℕ) (block : List ℕ) (bs : List (List ℕ)) (w : Store) → store_after (runs.split_acts t s l found x scope v goes at (block ∷ bs)) w c ≡ Undefined
  new_undefined at block [] w = ap (λ (acts : List Act). store_after acts w c) (append-nil (first_loop at block)) ∙ leaves_undefined scope c (first_loop at block) (first_leaves at block) w
  new_undefined at block (other ∷ rest) w =
      ap (λ (u : Store). u c) (after_append (first_loop at block) (runs.split_acts t s l found x scope v goes (end_of l.body (at + 1) block) (other ∷ rest)) w)
      ∙ new_undefined (end_of l.body (at + 1) block) other rest (store_after (first_loop at block) w)

  pub private_undefined : (w : Store) → store_after (run (setting_of t) (Do l.head l.body) s scope v).acts v c ≡ store_after (runs.split_acts t s l found x scope v goes s found) w c
  private_undefined w = leaves_undefined scope c (run (setting_of t) (Do l.head l.body) s scope v).acts old_leaves v ∙ sym (by found x.many)
    where
      by : (bs : List (List ℕ)) → 2 ≤ length bs → store_after (runs.split_acts t s l found x scope v goes s bs) w c ≡ Undefined
      by [] many = absurd (omega (arith, many))
      by (block ∷ bs) many = new_undefined s block bs w
