-- Where the accesses of the DO loops into which a DO is taken apart come from, in one execution: those of entries and ends from that entry and end of the old DO, and those of a unit from that unit, in the same iteration.
use Rattle.std.proofs.Common.{◌≡◌, ◌⊎◌, ℕ, ◌+◌, ◌<◌, ◌≤◌, ◌==◌, List, [], ◌∷◌, ◌++◌, length, Bool, true, false, ◌||◌, Option, Some, None, if◌then◌else◌, inl, inr, refl, sym, ap, subst, ◌∙◌, append-nil, append_assoc, arith}
use Rattle.std.specs.List.{flat_map}
use Rattle.std.specs.Str.Lines.{lines}
use Rattle.ped_tree.specs.Tree.{Do, ProgramTree}
use Rattle.ped_tree.specs.Numbering.{statements_count}
use Rattle.ped_rules.specs.ped_loop_runs.proofs.LoopLaws.ApartTurns.{apart_first, apart_further, apart_same, in_one_iteration, none_behind, none_within}
use Rattle.ped_rules.proofs.NestLaws.ExchangedRaces.{RaceBefore}
use Rattle.ped_rules.proofs.NestLaws.WovenAccesses.{same_turns}
use Rattle.ped_rules.specs.ped_loop_runs.proofs.LoopLaws.LoopParts.{IsControl, IsExit, act_of_loop, exit_of, trip_among}
use Rattle.ped_rules.specs.ped_loop_runs.proofs.LoopLaws.OneForOneCells.{Reached, lies}
use Rattle.ped_rules.specs.ped_loop_runs.proofs.LoopLaws.RacesByReferences.{told_is_unreferred}
use Rattle.ped_rules.specs.ped_loop_runs.proofs.PastingLaws.LeftCopies.{body_reaches}
use Rattle.ped_rules.specs.ped_loop_runs.specs.Executions.{IsExecuted}
use Rattle.ped_rules.specs.ped_loop_runs.specs.Numbers.{counted_by}
use Rattle.ped_rules.specs.ped_loop_runs.specs.TrueRejections.{IsTrueOn}
use Rattle.ped_rules.specs.ped_bodies.proofs.BodyLaws.LikewiseAccesses.{likewise_accesses}
use Rattle.ped_rules.specs.ped_bodies.proofs.BodyLaws.MovedCells.{moved_names}
use Rattle.ped_rules.specs.ped_bodies.proofs.BodyLaws.NamesApart.{behind_is, distributed_apart}
use Rattle.ped_rules.specs.ped_bodies.specs.Likewise.{IsMadeLikewise, IsOnlyTold, Meet}
use Rattle.ped_rules.specs.ped_bodies.specs.Moving.{behind_front, in_loop, moved_behind, own_number, with_rest}
use Rattle.ped_rules.specs.ped_bodies.specs.Trips.{IsMadeOfTrips, loop_acts, loop_entry}
use Rattle.ped_rules.specs.ped_steps.proofs.RunLaws.AccessTouches.{touch_of, accesses_from}
use Rattle.ped_rules.specs.ped_steps.specs.Replacing.{alone}
use Rattle.ped_rules.specs.ped_steps.specs.Runs.Renumbering.{renumbered}
use Rattle.ped_rules.specs.ped_flow.specs.Questions.{LoopOf}
use Rattle.ped_rules.specs.ped_laws.proofs.ActLaws.Conflicting.{access_by, access_in, accesses_in}
use Rattle.ped_rules.specs.ped_laws.proofs.ActLaws.Lists.{in_left, in_parts, in_right}
use Rattle.ped_rules.specs.ped_laws.proofs.ConflictLaws.CoveringRuns.{MakingLaw, SequenceLaw}
use Rattle.ped_rules.specs.ped_laws.specs.Acts.Orders.{IsIn}
use Rattle.ped_rules.specs.ped_laws.specs.Acts.Sets.{nothing}
use Rattle.ped_rules.specs.ped_laws.specs.Runs.Replaying.{finish_of, goes_on}
use Rattle.ped_rules.specs.ped_eval.specs.Evaluation.{Seen}
use Rattle.ped_rules.specs.ped_eval.specs.Loops.{Entered, frame}
use Rattle.ped_rules.specs.ped_eval.specs.Outcomes.{Ends, run_of, setting_of}
use Rattle.ped_rules.specs.ped_eval.specs.Runs.{run, run_all}
use Rattle.ped_rules.specs.ped_eval.specs.Scopes.{Scope, Setting, place_of, turns_of}
use Rattle.ped_rules.specs.ped_store.specs.Acts.{Act, Place, Touch, Turn, iterations_of}
use Rattle.ped_rules.specs.ped_store.specs.Cells.{Cell, Element, In, Iteration, Out, Private, Scalar}
use Rattle.ped_rules.specs.ped_store.specs.Races.{Access, accesses, accesses_of, are_apart, is_access}
use Rattle.ped_rules.specs.ped_store.specs.Stores.{Store, store_at_start}
use Rattle.ped_splits.proofs.PiBlockLaws.{In as InList, in_back, in_front}
use Rattle.ped_splits.proofs.Partitions.{flat}
use Rattle.ped_splits.proofs.SplitFacts.{IsSplit}
use Rattle.ped_splits.proofs.SplitNumbers.{split_numbers}
use Rattle.ped_splits.proofs.SplitPieces.{trip_unit}
use Rattle.ped_splits.proofs.SplitPlaces.{end_of, look, AllPlaced, AreFresh, ArePlaced, HaveNumbers, heads_numbered, units_placed}
use Rattle.ped_splits.proofs.SplitRaces.{AreRaceFree, ComesFrom}
use Rattle.ped_splits.proofs.SplitRuns as runs
use Rattle.ped_splits.proofs.SplitStands.{made_is}
use Rattle.ped_splits.proofs.SplitUnits.{size_of_unit}
use Rattle.ped_splits.specs.Distributing.{loops_of}
use Rattle.ped_splits.specs.Units.{units}

-- iterations round others are apart from none of them
round_first : (round extra : List Turn) → are_apart round (round ++ extra) ≡ true → ⊥
round_first round extra apart = none_within extra (sym (apart_same round [] extra) ∙ (λ i. are_apart (append-nil round i) (round ++ extra)) ∙ apart)

round_second : (round extra : List Turn) → are_apart (round ++ extra) round ≡ true → ⊥
round_second round extra apart = none_behind extra (sym (apart_same round extra []) ∙ (λ i. are_apart (round ++ extra) (append-nil round i)) ∙ apart)

heads : (a b : Turn) (us vs : List Turn) → a ∷ us ≡ b ∷ vs → a ≡ b
heads a b us vs e = cc

-- where copies move to another loop, a cell keeps its name, or is called as a copy of an iteration behind the front
abbrev IsInside : List Iteration → Cell → Type 0
IsInside front c = (x : List ℕ) × (i : Iteration) × (rest : List Iteration) × (c ≡ Private x (front ++ i ∷ rest))

module _ (front : List Iteration) (s n : ℕ) where
  abbrev moved : Cell → Cell
  moved = moved_behind front (in_loop s n)

  first_of : (i : Iteration) (more : List Iteration) → (j : Iteration) × (in_loop s n (i ∷ more) ≡ j ∷ more)
  first_of i more = by (i.statement == s)
    where
      by : (b : Bool) → (j : Iteration) × ((if b then record { statement = n; number = i.number } ∷ more else i ∷ more) ≡ j ∷ more)
      by true = (record { statement = n; number = i.number }, refl)
      by false = (i, refl)

  stays_or_inside : (c : Cell) → (c ≡ moved c) ⊎ IsInside front (moved c)
  stays_or_inside (Scalar y) = inl refl
  stays_or_inside (Element y js) = inl refl
  stays_or_inside In = inl refl
  stays_or_inside Out = inl refl
  stays_or_inside (Private y path) = go (behind_front front path) refl
    where
      renamed : (o : Option (List Iteration)) → behind_front front path ≡ o → moved (Private y path) ≡ Private y (with_rest front (in_loop s n) path o)
      renamed o e = ap (λ (r : Option (List Iteration)). Private y (with_rest front (in_loop s n) path r)) e

      go : (o : Option (List Iteration)) → behind_front front path ≡ o → (Private y path ≡ moved (Private y path)) ⊎ IsInside front (moved (Private y path))
      go None e = inl (sym (renamed None e))
      go (Some []) e = inl (sym (renamed (Some []) e ∙ ap (Private y) (sym (behind_is front path [] e))))
      go (Some (i ∷ more)) e = let j = first_of i more in inr (y, j.0, more, renamed (Some (i ∷ more)) e ∙ ap (λ (r : List Iteration). Private y (front ++ r)) j.1)

module _ (t : ProgramTree) (s : ℕ) (l : LoopOf t s) (found : List (List ℕ)) (x : IsSplit t s l found) (scope : Scope) (v : Store) (goes : finish_of (run (setting_of t) (Do l.head l.body) s scope v).ending ≡ goes_on)
    (its_acts : (run_all (renumbered (counted_by (split_numbers t s l.body found)) (setting_of t)) (loops_of found l.head l.body) s scope v).acts ≡ runs.split_acts t s l found x scope v goes s found) where
  abbrev p : Setting
  p = setting_of t

  abbrev g : ℕ → ℕ
  g = counted_by (split_numbers t s l.body found)

  abbrev q : Setting
  q = renumbered (counted_by (split_numbers t s l.body found)) (setting_of t)

  abbrev old : IsMadeOfTrips (setting_of t) l.head l.body s scope v
  old = runs.old t s l found x scope v goes

  abbrev e : Entered
  e = runs.e t s l found x scope v goes

  abbrev seen : List Seen
  seen = runs.seen t s l found x scope v goes

  abbrev entered_at : ℕ → Entered
  entered_at = runs.entered_at t s l found x scope v goes

  abbrev loop_at : ℕ → ℕ
  loop_at = runs.loop_at t s l found x scope v goes

  abbrev unit_names : ℕ → Cell → Cell
  unit_names = runs.unit_names t s l found x scope v goes

  abbrev old_unit : ℕ → ℕ → List Act
  old_unit = runs.old_unit t s l found x scope v goes

  abbrev new_unit : ℕ → ℕ → List Act
  new_unit = runs.new_unit t s l found x scope v goes

  abbrev many_units : ℕ
  many_units = length (units l.body)

  abbrev split_acts : ℕ → List (List ℕ) → List Act
  split_acts = runs.split_acts t s l found x scope v goes

  abbrev at_old : Place
  at_old = place_of (setting_of t) s scope

  abbrev at_new : ℕ → Place
  at_new n = place_of (renumbered (counted_by (split_numbers t s l.body found)) (setting_of t)) n scope

  abbrev old_acts : List Act
  old_acts = (run (setting_of t) (Do l.head l.body) s scope v).acts

  abbrev new_acts : List Act
  new_acts = (run_all (renumbered (counted_by (split_numbers t s l.body found)) (setting_of t)) (loops_of found l.head l.body) s scope v).acts

  abbrev by_trips : List Act
  by_trips = loop_acts seen e scope at_old old.trip

  in_old : (a : Act) → IsIn a by_trips → IsIn a old_acts
  in_old a i = subst (IsIn a) (sym old.acts) i

  -- what the DO of these units does
  abbrev its_trip : List ℕ → ℕ → List Act
  its_trip block = λ i. flat_map (new_unit i) block

  abbrev block_acts : ℕ → List ℕ → List Act
  block_acts at block = loop_acts seen (entered_at at) scope (at_new at) (its_trip block)

  -- a new DO counts under the number of the old one, or under one that no statement had
  abbrev IsNumbered : ℕ → Type 0
  IsNumbered at = (g at ≡ s) ⊎ (statements_count t.body < g at)

  abbrev AreNumbered : ℕ → List (List ℕ) → Type 0
  AreNumbered at [] = Unit {0}
  AreNumbered at (block ∷ bs) = IsNumbered at × AreNumbered (end_of l.body (at + 1) block) bs

  fresh_numbered : (at : ℕ) (bs : List (List ℕ)) → AreFresh s l.body g (statements_count t.body + 1) at bs → AreNumbered at bs
  fresh_numbered at [] h = tt
  fresh_numbered at (block ∷ bs) h = let low = h.0 in (inr (omega (arith, low)), fresh_numbered (end_of l.body (at + 1) block) bs h.1)

  all_numbered : (at : ℕ) (bs : List (List ℕ)) → HaveNumbers s l.body g (statements_count t.body + 1) at bs → AreNumbered at bs
  all_numbered at [] h = tt
  all_numbered at (block ∷ bs) h = (inl h.0, fresh_numbered (end_of l.body (at + 1) block) bs h.1)

  placed_at : (k at m : ℕ) (block : List ℕ) → ArePlaced l.body (look l.body s found) at m block → InList k block → loop_at k ≡ at
  placed_at k at m [] placed i = absurd i
  placed_at k at m (j ∷ block) placed (inl same) = ap (λ (n : ℕ). (look l.body s found n).0) same ∙ ap (λ (w : ℕ × ℕ). w.0) placed.0
  placed_at k at m (j ∷ block) placed (inr i) = placed_at k at (m + size_of_unit l.body j) block placed.1 i

  -- an act of one of the new DO loops
  record IsInLoop (a : Act) : Type 0 where
    at : ℕ
    block : List ℕ
    numbered : IsNumbered at
    placed : (k : ℕ) → InList k block → loop_at k ≡ at
    below : (k : ℕ) → InList k block → k < many_units
    among : IsIn a (block_acts at block)
    sub : (z : Act) → IsIn z (block_acts at block) → IsIn z (split_acts s found)

  in_loops : (at : ℕ) (bs : List (List ℕ)) → AllPlaced l.body (look l.body s found) at bs → AreNumbered at bs → ((k : ℕ) → InList k (flat bs) → k < many_units) → (a : Act) → IsIn a (split_acts at bs) → ((z : Act) → IsIn z (split_acts at bs) → IsIn z (split_acts s found)) → IsInLoop a
  in_loops at [] placed numbered below a i sub = absurd i
  in_loops at (block ∷ bs) placed numbered below a i sub = elim (in_parts a (block_acts at block) rest i) [
    | inl j ↦ record {
      at = at;
      block = block;
      numbered = numbered.0;
      placed = λ k m. placed_at k at (at + 1) block placed.0 m;
      below = λ k m. below k (in_front k block (flat bs) m);
      among = j;
      sub = λ z m. sub z (in_left z (block_acts at block) rest m);
    }
    | inr j ↦ in_loops (end_of l.body (at + 1) block) bs placed.1 numbered.1 (λ k m. below k (in_back k block (flat bs) m)) a j (λ z m. sub z (in_right z (block_acts at block) rest m))
  ]
    where
      rest : List Act
      rest = split_acts (end_of l.body (at + 1) block) bs

  in_loop_of : (a : Act) → IsIn a (split_acts s found) → IsInLoop a
  in_loop_of a i = in_loops s found (units_placed t s l.head l.body found x.are (runs.inside t s l found x scope v goes)) (all_numbered s found (heads_numbered t s l.head l.body found x.are (runs.inside t s l found x scope v goes))) (runs.units_below t s l found x scope v goes) a i (λ z m. m)

  -- an access of the entry or the end of a new DO is made by those of the old one
  record IsOfHead (b : Access) : Type 0 where
    origin : Access
    found_there : IsIn origin (accesses old_acts)
    cell : origin.cell ≡ b.cell
    writes : origin.writes ≡ b.writes
    was : origin.place.turns ≡ turns_of scope
    place : b.place.turns ≡ turns_of scope

  head_access : (by : Act) → IsIn by by_trips → by.place ≡ at_old → (a : Act) (b : Access) (u : Touch) → a.place.turns ≡ turns_of scope → IsIn u by.touches → is_access u ≡ true → b ≡ access_by a u → IsOfHead b
  head_access by i at a b u there k access is = record {
    origin = access_by by u;
    found_there = accesses_in old_acts by (access_by by u) (in_old by i) (access_in by by.touches u k access);
    cell = ap (λ (z : Access). z.cell) (sym is);
    writes = ap (λ (z : Access). z.writes) (sym is);
    was = ap (λ (z : Place). z.turns) at;
    place = ap (λ (z : Access). z.place.turns) is ∙ there;
  }

  entry_comes : (at : ℕ) (a : Act) (b : Access) → a ≡ loop_entry seen (entered_at at) scope (at_new at) → IsIn b (accesses_of a) → IsOfHead b
  entry_comes at a b same j =
      let u = touch_of a a.touches b j in
      head_access (loop_entry seen e scope at_old) (inl refl) refl a b u.0 (ap (λ (z : Act). z.place.turns) same) (subst (λ (z : Act). IsIn u.0 z.touches) same u.1) u.2 u.3

  old_exit : IsExit seen e scope at_old old.trip
  old_exit = exit_of seen e scope at_old old.trip

  end_comes : (at : ℕ) (block : List ℕ) (a : Act) (b : Access) → IsControl seen (entered_at at) scope (at_new at) (its_trip block) a → IsIn b (accesses_of a) → IsOfHead b
  end_comes at block a b control j =
      let u = touch_of a a.touches b j in
      head_access old_exit.by old_exit.found old_exit.place a b u.0 (ap (λ (z : Place). z.turns) control.place) (old_exit.has u.0 (control.touches u.0 u.1)) u.2 u.3

  -- an access of a unit is made likewise by the unit in the same iteration of the old DO
  abbrev old_turns : ℕ → List Turn
  old_turns i = turns_of (frame e i ∷ scope)

  abbrev new_turns : ℕ → ℕ → List Turn
  new_turns k i = turns_of (frame (entered_at (loop_at k)) i ∷ scope)

  record IsOfUnit (b : Access) : Type 0 where
    number : ℕ
    unit : ℕ
    from : 1 ≤ number
    to : number ≤ e.count
    inside : unit < many_units
    numbered : IsNumbered (loop_at unit)
    origin : Access
    among : IsIn origin (accesses (old_unit number unit))
    likewise : IsMadeLikewise (unit_names unit) nothing own_number (old_turns number) (new_turns unit number) origin b

  of_block : (i : ℕ) (block : List ℕ) (a : Act) → IsIn a (its_trip block i) → (k : ℕ) × InList k block × IsIn a (new_unit i k)
  of_block i [] a m = absurd m
  of_block i (k ∷ block) a m = elim (in_parts a (new_unit i k) (its_trip block i) m) [
    | inl n ↦ (k, inl refl, n)
    | inr n ↦ let r = of_block i block a n in (r.0, inr r.1, r.2)
  ]

  to_block : (i k : ℕ) (block : List ℕ) (a : Act) → InList k block → IsIn a (new_unit i k) → IsIn a (its_trip block i)
  to_block i k [] a m n = absurd m
  to_block i k (j ∷ block) a (inl same) n = in_left a (new_unit i j) (its_trip block i) (subst (λ (h : ℕ). IsIn a (new_unit i h)) same n)
  to_block i k (j ∷ block) a (inr m) n = in_right a (new_unit i j) (its_trip block i) (to_block i k block a m n)

  unit_comes : (r : (a : Act) × IsInLoop a) (i : ℕ) → 1 ≤ i → i ≤ e.count → (a : Act) (b : Access) → IsIn a (its_trip r.1.block i) → IsIn b (accesses_of a) → 0 < b.reference → IsOfUnit b
  unit_comes r i from to a b m j referred = go (likewise_accesses (unit_names k.0) nothing (moved_names (iterations_of (turns_of scope)) (in_loop s (g (loop_at k.0)))) (λ c e. absurd cc) own_number (old_turns i) (new_turns k.0 i) (old_unit i k.0) (new_unit i k.0) done.likewise b (accesses_in (new_unit i k.0) a b k.2 j))
    where
      k : (k : ℕ) × InList k r.1.block × IsIn a (new_unit i k)
      k = of_block i r.1.block a m

      inside : k.0 < many_units
      inside = r.1.below k.0 k.1

      done : runs.IsUnitDone t s l found x scope v goes i k.0 (new_unit i k.0)
      done = runs.new_units_are t s l found x scope v goes i k.0 from to inside

      in_run : (z : Act) → IsIn z (new_unit i k.0) → IsIn z new_acts
      in_run z n = subst (IsIn z) (sym its_acts) (r.1.sub z (trip_among seen (entered_at r.1.at) scope (at_new r.1.at) (its_trip r.1.block) i from to z (to_block i k.0 r.1.block z k.1 n)))

      unreferred : IsOnlyTold (new_unit i k.0) b → b.reference ≡ 0
      unreferred told = ap (λ (z : Access). z.reference) told.is ∙ told_is_unreferred q (loops_of found l.head l.body) s scope v told.by (in_run told.by told.found) told.touch told.among told.manner

      go : ((y : Access) × IsIn y (accesses (old_unit i k.0)) × IsMadeLikewise (unit_names k.0) nothing own_number (old_turns i) (new_turns k.0 i) y b) ⊎ IsOnlyTold (new_unit i k.0) b → IsOfUnit b
      go (inl y) = record { number = i; unit = k.0; from = from; to = to; inside = inside; numbered = subst IsNumbered (sym (r.1.placed k.0 k.1)) r.1.numbered; origin = y.0; among = y.1; likewise = y.2 }
      go (inr told) = let none = unreferred told in absurd (omega (arith, none, referred))

  -- each access by a reference comes so
  access_comes : (b : Access) → IsIn b (accesses new_acts) → 0 < b.reference → IsOfHead b ⊎ IsOfUnit b
  access_comes b i referred =
      let a = accesses_from new_acts b i in
      by a.0 (in_loop_of a.0 (subst (IsIn a.0) its_acts a.1)) a.2
    where
      by : (a : Act) → IsInLoop a → IsIn b (accesses_of a) → IsOfHead b ⊎ IsOfUnit b
      by a r j = elim (act_of_loop seen (entered_at r.at) scope (at_new r.at) (its_trip r.block) a r.among) [
        | inl entry ↦ inl (entry_comes r.at a b entry j)
        | inr other ↦ elim other [
          | inl trip ↦ inr (unit_comes (a, r) trip.number trip.from trip.to a b trip.there j referred)
          | inr leaving ↦ inl (end_comes r.at r.block a b leaving j)
        ]
      ]

  module _ (b : Access) (m : IsOfUnit b) where
    abbrev old_turn : Turn
    old_turn = (frame e m.number).turn

    abbrev new_turn : Turn
    new_turn = (frame (entered_at (loop_at m.unit)) m.number).turn

    place : b.place.turns ≡ turns_of scope ++ new_turn ∷ m.likewise.more
    place =
        m.likewise.new ∙ ap (λ (more : List Turn). new_turns m.unit m.number ++ more) (same_turns m.likewise.more)
        ∙ append_assoc (turns_of scope) (new_turn ∷ []) m.likewise.more

    was : m.origin.place.turns ≡ turns_of scope ++ old_turn ∷ m.likewise.more
    was = m.likewise.old ∙ append_assoc (turns_of scope) (old_turn ∷ []) m.likewise.more

    cell_named : b.cell ≡ unit_names m.unit m.origin.cell
    cell_named = by m.likewise.cell
      where
        by : Meet (unit_names m.unit) nothing m.origin.cell b.cell → b.cell ≡ unit_names m.unit m.origin.cell
        by (inl same) = same
        by (inr none) = let never = none.0 in absurd cc

    in_trip : (a : Act) → IsIn a (old_unit m.number m.unit) → IsIn a (old.trip m.number)
    in_trip a i =
        let part = trip_unit t s l found x scope v goes m.number m.unit m.from m.to m.inside in
        subst (IsIn a) (sym part.is) (in_right a part.before (old_unit m.number m.unit ++ part.behind) (in_left a (old_unit m.number m.unit) part.behind i))

    found_there : IsIn m.origin (accesses old_acts)
    found_there =
        let a = accesses_from (old_unit m.number m.unit) m.origin m.among in
        accesses_in old_acts a.0 m.origin (in_old a.0 (trip_among seen e scope at_old old.trip m.number m.from m.to a.0 (in_trip a.0 a.1))) a.2

    reached : Reached p scope s e.count m.origin.cell
    reached =
        let a = accesses_from (old_unit m.number m.unit) m.origin m.among in
        let u = touch_of a.0 a.0.touches m.origin a.2 in
        subst (Reached p scope s e.count) (ap (λ (z : Access). z.cell) (sym u.3)) (by a.0 (in_trip a.0 a.1) u.0 u.1)
      where
        by : (a : Act) → IsIn a (old.trip m.number) → (u : Touch) → IsIn u a.touches → Reached p scope s e.count u.cell
        by a i u j =
            let it = old.are m.number m.from m.to in
            elim (body_reaches p s l.head l.body seen old.bounds scope m.number (runs.store_of t s l found x scope v goes m.number) a (subst (IsIn a) it.is i) u j) [
              | inl own ↦ inl own
              | inr r ↦ inr (m.number, m.from, m.to, r.name, r.rest, r.is)
            ]

    comes_from : ComesFrom t s (statements_count (alone (Do l.head l.body))) scope old_acts b
    comes_from = record {
      origin = m.origin;
      found = found_there;
      writes = sym m.likewise.writes;
      extra = new_turn ∷ m.likewise.more;
      place = place;
      whose = λ w more k. (let turn : new_turn ≡ w = cc in subst (λ (z : Turn). (z.statement ≡ s) ⊎ (statements_count t.body < z.statement)) turn m.numbered);
      old_extra = old_turn ∷ m.likewise.more;
      was = was;
      both = λ w more k. (let there : old_turn.statement ≡ s = refl in (old_turn, m.likewise.more, refl, omega (arith, there), omega (arith, there)));
      cell = elim (stays_or_inside (iterations_of (turns_of scope)) s (g (loop_at m.unit)) m.origin.cell) [
        | inl stays ↦ inl (stays ∙ sym cell_named)
        | inr moves ↦ inr (moves.0, moves.1, moves.2, cell_named ∙ moves.3)
      ];
    }

  -- two that race come from two that race
  units_meet : (b c : Access) (m : IsOfUnit b) (n : IsOfUnit c) → b.cell ≡ c.cell → b.writes || c.writes ≡ true → are_apart b.place.turns c.place.turns ≡ true → RaceBefore old_acts b c
  units_meet b c m n cells writing apart = record {
    one = m.origin;
    other = n.origin;
    one_in = found_there b m;
    other_in = found_there c n;
    cells = distributed_apart (iterations_of (turns_of scope)) s (g (loop_at n.unit)) e.count m.origin.cell n.origin.cell (lies p scope s e.count m.origin.cell (reached b m)) (lies p scope s e.count n.origin.cell (reached c n)) named;
    writes = (λ z. sym m.likewise.writes z || sym n.likewise.writes z) ∙ writing;
    apart =
        (λ z. are_apart (was b m z) (was c n z)) ∙ apart_same (turns_of scope) (old_turn b m ∷ m.likewise.more) (old_turn c n ∷ n.likewise.more)
        ∙ apart_further (old_turn b m) (old_turn c n) m.likewise.more n.likewise.more refl one.0 one.1;
  }
    where
      within : are_apart (new_turn b m ∷ m.likewise.more) (new_turn c n ∷ n.likewise.more) ≡ true
      within = sym (apart_same (turns_of scope) (new_turn b m ∷ m.likewise.more) (new_turn c n ∷ n.likewise.more)) ∙ (λ z. are_apart (sym (place b m) z) (sym (place c n) z)) ∙ apart

      one : (m.number ≡ n.number) × (are_apart m.likewise.more n.likewise.more ≡ true)
      one = in_one_iteration (new_turn b m) (new_turn c n) m.likewise.more n.likewise.more x.serial within

      -- both stand in one new DO
      same_loop : g (loop_at m.unit) ≡ g (loop_at n.unit)
      same_loop =
          let first = apart_first (new_turn b m) m.likewise.more (new_turn c n ∷ n.likewise.more) within in
          first.3 ∙ ap (λ (z : Turn). z.statement) (sym (heads (new_turn c n) first.0 n.likewise.more first.1 first.2))

      named : moved_behind (iterations_of (turns_of scope)) (in_loop s (g (loop_at n.unit))) m.origin.cell ≡ moved_behind (iterations_of (turns_of scope)) (in_loop s (g (loop_at n.unit))) n.origin.cell
      named = ap (λ (h : ℕ). moved_behind (iterations_of (turns_of scope)) (in_loop s h) m.origin.cell) (sym same_loop) ∙ sym (cell_named b m) ∙ cells ∙ cell_named c n

  head_comes : (b : Access) → IsOfHead b → ComesFrom t s (statements_count (alone (Do l.head l.body))) scope old_acts b
  head_comes b h = record {
    origin = h.origin;
    found = h.found_there;
    writes = h.writes;
    extra = [];
    place = h.place ∙ sym (append-nil (turns_of scope));
    whose = λ w more k. absurd cc;
    old_extra = [];
    was = h.was ∙ sym (append-nil (turns_of scope));
    both = λ w more k. absurd cc;
    cell = inl h.cell;
  }

  extra_of : (c : Access) → IsOfHead c ⊎ IsOfUnit c → (extra : List Turn) × (c.place.turns ≡ turns_of scope ++ extra)
  extra_of c (inl h) = ([], h.place ∙ sym (append-nil (turns_of scope)))
  extra_of c (inr m) = (new_turn c m ∷ m.likewise.more, place c m)

  pub free_loops : AreRaceFree t s (statements_count (alone (Do l.head l.body))) scope (run (setting_of t) (Do l.head l.body) s scope v).acts (run_all (renumbered (counted_by (split_numbers t s l.body found)) (setting_of t)) (loops_of found l.head l.body) s scope v).acts
  free_loops = record {
    comes = λ b i referred. elim (access_comes b i referred) [ inl h ↦ head_comes b h | inr m ↦ comes_from b m ];
    meets = λ b c i j one two cells writing apart. by b c cells writing apart (access_comes b i one) (access_comes c j two);
  }
    where
      by : (b c : Access) → b.cell ≡ c.cell → b.writes || c.writes ≡ true → are_apart b.place.turns c.place.turns ≡ true → IsOfHead b ⊎ IsOfUnit b → IsOfHead c ⊎ IsOfUnit c → RaceBefore old_acts b c
      by b c cells writing apart (inl h) k = let r = extra_of c k in absurd (round_first (turns_of scope) r.0 ((λ i. are_apart (sym h.place i) (sym r.1 i)) ∙ apart))
      by b c cells writing apart (inr m) (inl h) = absurd (round_second (turns_of scope) (new_turn b m ∷ m.likewise.more) ((λ i. are_apart (sym (place b m) i) (sym h.place i)) ∙ apart))
      by b c cells writing apart (inr m) (inr n) = units_meet b c m n cells writing apart

module _ (making : MakingLaw) (sequence : SequenceLaw) (t : ProgramTree) (s : ℕ) (l : LoopOf t s) (found : List (List ℕ)) (x : IsSplit t s l found) (data_bytes : List ℕ) (holds : IsTrueOn t data_bytes) (ends : Ends (run_of t data_bytes).ending)
    (scope : Scope) (front behind : List Act) (v : Store) (executed : IsExecuted (setting_of t) t (store_at_start (lines data_bytes)) s (statements_count (alone (Do l.head l.body))) scope front (run (setting_of t) (Do l.head l.body) s scope v).acts behind v)
    (goes : finish_of (run (setting_of t) (Do l.head l.body) s scope v).ending ≡ goes_on) where
  pub free_split : AreRaceFree t s (statements_count (alone (Do l.head l.body))) scope (run (setting_of t) (Do l.head l.body) s scope v).acts (run_all (renumbered (counted_by (split_numbers t s l.body found)) (setting_of t)) (loops_of found l.head l.body) s scope v).acts
  free_split = free_loops t s l found x scope v goes (made_is making sequence t s l found x data_bytes holds ends scope front behind v executed goes)
