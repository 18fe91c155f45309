-- What two units do, in one iteration or in two, doesn't conflict where the unit that comes later stands in an earlier block, on data on which no rejected dependence occurs: another one would lead back.
use Rattle.std.proofs.Common.{◌≡◌, ◌⊎◌, ℕ, zero, suc, ◌+◌, ◌<◌, ◌≤◌, ◌==◌, List, [], ◌∷◌, ◌++◌, length, Bool, true, false, ◌&&◌, Option, Some, None, inl, inr, refl, sym, ap, subst, ◌∙◌, append_assoc, eqb-true, arith}
use Rattle.std.specs.List.{range_with_len}
use Rattle.std.specs.Prelude.{slice_index_or}
use Rattle.std.specs.Str.Lines.{lines}
use Rattle.std.proofs.lemmas.Bool.{and_parts}
use Rattle.std.proofs.lemmas.Bool.Decides.{nat_tests}
use Rattle.std.proofs.lemmas.Grind.{flat_map-append}
use Rattle.std.proofs.lemmas.List.{length-append}
use Rattle.ped_tree.specs.Tree.{StmtTrees, no_stmts, ProgramTree}
use Rattle.ped_tree.specs.Numbering.{statements_count}
use Rattle.ped_rules.specs.Carried.{level_at}
use Rattle.ped_rules.specs.ped_loop_runs.proofs.LoopLaws.Carrying.{independent_inside, share_trips}
use Rattle.ped_rules.specs.ped_loop_runs.proofs.LoopLaws.Trips.{come_in_run, trips_carried}
use Rattle.ped_rules.specs.ped_loop_runs.specs.Carried.{MakeConflict, IsCoveredAt, is_level, AreInTrips, IsCarriedByLoop, AllStoreWithin}
use Rattle.ped_rules.specs.ped_loop_runs.specs.TrueRejections.{IsTrueOn}
use Rattle.ped_rules.specs.ped_flow.specs.PlainBounds.{nest_round}
use Rattle.ped_rules.specs.ped_flow.specs.Questions.{LoopOf}
use Rattle.ped_rules.specs.ped_laws.proofs.ActLaws.Conflicting.{acts_of_blocks}
use Rattle.ped_rules.specs.ped_laws.proofs.ActLaws.Lists.{in_left, in_right, split_at}
use Rattle.ped_rules.specs.ped_laws.proofs.ConflictLaws.CoveringConflicts.{pair_listed}
use Rattle.ped_rules.specs.ped_laws.proofs.ConflictLaws.CoveringRuns.{MakingLaw, SequenceLaw, makers}
use Rattle.ped_rules.specs.ped_laws.proofs.ConflictLaws.Scoping.{touch_of_access}
use Rattle.ped_rules.specs.ped_laws.proofs.RunLaws.Meetings.{outside_of_run}
use Rattle.ped_rules.specs.ped_laws.specs.Acts.Conflicts.{blocks_conflict_outside}
use Rattle.ped_rules.specs.ped_laws.specs.Acts.Orders.{IsIn}
use Rattle.ped_rules.specs.ped_laws.specs.Conflicts.Covered.{ComeInRun}
use Rattle.ped_rules.specs.ped_laws.specs.Conflicts.Directions.{share_a_loop}
use Rattle.ped_edges.specs.Edges.{Mark, proven, pending, rejected, is_rejected}
use Rattle.ped_refs.specs.References.{references, pairs}
use Rattle.ped_rules.specs.ped_eval.specs.Outcomes.{run_of, setting_of}
use Rattle.ped_rules.specs.ped_store.specs.Acts.{Act, Turn}
use Rattle.ped_rules.specs.ped_store.specs.Cells.{Cell}
use Rattle.ped_rules.specs.ped_store.specs.Races.{Access, accesses, accesses_of, conflict}
use Rattle.ped_rules.specs.ped_store.specs.Stores.{store_at_start}
use Rattle.ped_splits.proofs.PiBlockLaws.{In, from_filter}
use Rattle.ped_splits.proofs.KeptArrows.{kept_forward}
use Rattle.ped_splits.proofs.SplitFacts.{IsSplit}
use Rattle.ped_splits.proofs.SplitUnits.{offset, size_of_unit, numbers_are}
use Rattle.ped_splits.specs.Units.{units, is_within, stands_in}

of_act : (x : Access) (a : Act) (acts : List Act) → IsIn a acts → IsIn x (accesses_of a) → IsIn x (accesses acts)
of_act x a [] i j = absurd i
of_act x a (b ∷ acts) (inl e) j = in_left x (accesses_of b) (accesses acts) (subst (λ (z : Act). IsIn x (accesses_of z)) e j)
of_act x a (b ∷ acts) (inr i) j = in_right x (accesses_of b) (accesses acts) (of_act x a acts i j)

not_rejected : (m : Mark) → (m ≡ rejected → ⊥) → is_rejected m ≡ false
not_rejected proven h = refl
not_rejected pending h = refl
not_rejected rejected h = absurd (h refl)

in_numbers : (a n m : ℕ) → m < n → In (a + m) (range_with_len a n)
in_numbers a zero m h = absurd (omega (arith, h))
in_numbers a (suc n) zero h = inl (omega arith)
in_numbers a (suc n) (suc m) h = inr (subst (λ (k : ℕ). In k (range_with_len (a + 1) n)) (let e : a + 1 + m ≡ a + suc m = omega arith in e) (in_numbers (a + 1) n m (omega (arith, h))))

-- the first of two units stands before the second
offset_rises : (us : List StmtTrees) (i j : ℕ) → i < j → offset us i + statements_count (slice_index_or us i no_stmts) ≤ offset us j ⊎ (length us ≤ i)
offset_rises [] i j h = inr (omega arith)
offset_rises (u ∷ us) zero zero h = absurd (omega (arith, h))
offset_rises (u ∷ us) zero (suc j) h = inl (omega arith)
offset_rises (u ∷ us) (suc i) zero h = absurd (omega (arith, h))
offset_rises (u ∷ us) (suc i) (suc j) h = elim (offset_rises us i j (omega (arith, h))) [ inl le ↦ inl (omega (arith, le)) | inr le ↦ inr (omega (arith, le)) ]

module _ (s : ℕ) (body : StmtTrees) where
  -- this is the number of a statement of the unit
  pub record IsOfUnit (k n : ℕ) : Type 0 where
    pub place : ℕ
    pub less : place < size_of_unit body k
    pub is : n ≡ s + 1 + offset (units body) k + place

  pub stands_there : (k n : ℕ) → k < length (units body) → IsOfUnit k n → stands_in s body k n ≡ true
  stands_there k n inside of =
      (from_filter (stands_in s body k) n (range_with_len (s + 1) (statements_count body))
      (subst (In n) (sym (numbers_are s body k inside)) (subst (λ (m : ℕ). In m (range_with_len (s + 1 + offset (units body) k) (size_of_unit body k))) (sym of.is) (in_numbers (s + 1 + offset (units body) k) (size_of_unit body k) of.place of.less)))).1

  units_apart : (k j m n : ℕ) → k < j → k < length (units body) → IsOfUnit k m → IsOfUnit j n → m < n
  units_apart k j m n less inside a b = elim (offset_rises (units body) k j less) [
    | inl le ↦ (let a_is = a.is in let b_is = b.is in let a_less = a.less in omega (arith, le, a_is, b_is, a_less))
    | inr past ↦ absurd (omega (arith, past, inside))
  ]

  -- acts of the unit in this iteration: they and what stands inside it are its statements
  pub record AreOfUnit (outer : List Turn) (i : Turn) (k : ℕ) (acts : List Act) : Type 0 where
    pub stand : (a : Act) → IsIn a acts → IsOfUnit k a.place.statement
    pub inside : (a : Act) → IsIn a acts → (inner : List Turn) × (a.place.turns ≡ outer ++ i ∷ inner) × ((v : Turn) (more : List Turn) → inner ≡ v ∷ more → IsOfUnit k v.statement)

module _ (making : MakingLaw) (sequence : SequenceLaw) (t : ProgramTree) (s : ℕ) (l : LoopOf t s) (found : List (List ℕ)) (x : IsSplit t s l found) (data_bytes : List ℕ) (holds : IsTrueOn t data_bytes) where
  abbrev OfUnit : ℕ → ℕ → Type 0
  OfUnit = IsOfUnit s l.body

  -- two pieces of the run: what a unit did in one iteration, and behind it what a unit did in that one or a later one
  pub record AreTwoPieces (k j : ℕ) (earlier later : List Act) : Type 0 where
    pub front : List Act
    pub between : List Act
    pub behind : List Act
    pub is : (run_of t data_bytes).acts ≡ front ++ (earlier ++ (between ++ (later ++ behind)))
    pub outer : List Turn
    pub first : Turn
    pub second : Turn
    pub first_unit : AreOfUnit s l.body outer first k earlier
    pub second_unit : AreOfUnit s l.body outer second j later
    pub first_is : first.statement ≡ s
    pub second_is : second.statement ≡ s
    pub order : (first.number < second.number) ⊎ ((first ≡ second) × (k < j))

  forward : (a b : Access) (level : Option ℕ) (k j y z : ℕ) → k < length (units l.body) → j < length (units l.body) → ComeInRun t data_bytes a b → conflict a b ≡ true → IsCoveredAt t x.are.edges level a b → is_within (level_at t s) level ≡ true → OfUnit k a.place.statement → OfUnit j b.place.statement
      → In k (slice_index_or found y []) → In j (slice_index_or found z []) → y ≤ z
  forward a b level k j y z inside within come meets c deep of to here there =
      kept_forward t s l.head l.body found x.are c.0.edge c.0.listed (ap (is_within (level_at t s)) c.1 ∙ deep) (not_rejected c.0.edge.mark (holds x.are.edges x.are.are a b come meets c.0)) k j y z inside within
      (ap (λ (p : ℕ × ℕ). stands_in s l.body k p.0) c.0.source ∙ stands_there s l.body k a.place.statement inside of) (ap (λ (p : ℕ × ℕ). stands_in s l.body j p.0) c.0.sink ∙ stands_there s l.body j b.place.statement within to) here there

  itself_within : (n : ℕ) → is_within n (Some n) ≡ true
  itself_within n = grind (arith, nat_tests)

  -- in two iterations
  in_two : (a b : Access) (k j y z : ℕ) → k < length (units l.body) → j < length (units l.body) → ComeInRun t data_bytes a b → conflict a b ≡ true → 0 < a.reference → 0 < b.reference → (outer : List Turn) (i w : Turn) (is js : List Turn) → AreInTrips s outer i w is js a b
      → OfUnit k a.place.statement → OfUnit j b.place.statement → In k (slice_index_or found y []) → In j (slice_index_or found z []) → y ≤ z
  in_two a b k j y z inside within come meets one other outer i w is js trips of to here there =
      let c : IsCarriedByLoop t x.are.edges s l.body outer is js a b = trips_carried making sequence t data_bytes x.valid x.are.edges x.are.are s l a b outer i w is js come meets one other trips in
      let level : length outer + 1 ≡ length (nest_round t s) + 1 = same_level (length outer + 1) (length (nest_round t s) + 1) (ap (is_level (length (nest_round t s) + 1)) (sym c.0.level) ∙ level_of (is_level (length (nest_round t s) + 1) c.0.covered.edge.level) _ c.1) in
      forward a b (Some (length outer + 1)) k j y z inside within come meets (c.0.covered, c.0.level) (ap (λ (n : ℕ). is_within (level_at t s) (Some n)) level ∙ itself_within (level_at t s)) of to here there
    where
      same_level : (m n : ℕ) → is_level n (Some m) ≡ true → m ≡ n
      same_level m n h = eqb-true m n h

      level_of : (p q : Bool) → p && q ≡ true → p ≡ true
      level_of p q h = (and_parts p q h).0

  -- in one iteration
  other_loops : (k j : ℕ) → k < j → k < length (units l.body) → (is js : List Turn) → ((v : Turn) (more : List Turn) → is ≡ v ∷ more → OfUnit k v.statement) → ((v : Turn) (more : List Turn) → js ≡ v ∷ more → OfUnit j v.statement) → share_a_loop is js ≡ false
  other_loops k j less inside [] js of to = refl
  other_loops k j less inside (v ∷ is) [] of to = refl
  other_loops k j less inside (v ∷ is) (w ∷ js) of to = by (v.statement == w.statement) refl
    where
      by : (b : Bool) → (v.statement == w.statement) ≡ b → (v.statement == w.statement) ≡ false
      by false e = e
      by true e =
          let same = eqb-true v.statement w.statement e in
          let apart = units_apart s l.body k j v.statement w.statement less inside (of v is refl) (to w js refl) in
          absurd (omega (arith, same, apart))

  in_one : (a b : Access) (k j y z : ℕ) → k < j → k < length (units l.body) → j < length (units l.body) → ComeInRun t data_bytes a b → conflict a b ≡ true → 0 < a.reference → 0 < b.reference → (outer : List Turn) (i : Turn) (is js : List Turn) → a.place.turns ≡ outer ++ i ∷ is → b.place.turns ≡ outer ++ i ∷ js
      → ((v : Turn) (more : List Turn) → is ≡ v ∷ more → OfUnit k v.statement) → ((v : Turn) (more : List Turn) → js ≡ v ∷ more → OfUnit j v.statement) → OfUnit k a.place.statement → OfUnit j b.place.statement → In k (slice_index_or found y []) → In j (slice_index_or found z []) → y ≤ z
  in_one a b k j y z less inside within come meets one other outer i is js at_first at_second inner_first inner_second of to here there =
      let share : share_a_loop a.place.turns b.place.turns ≡ true = (λ r. share_a_loop (at_first r) (at_second r)) ∙ share_trips outer i i is js refl in
      let by = makers making sequence t data_bytes a b x.valid come meets one other share in
      let m = by.met in
      let c : MakeConflict t by.first a b by.source by.sink = record { at_source = m.at_source; at_sink = m.at_sink; before = m.before; behind = m.behind; made = m.made; makes = m.makes; conflicts = meets } in
      let some : 0 < length (outer ++ i ∷ []) = (let long = length-append outer (i ∷ []) in omega (arith, long)) in
      forward a b None k j y z inside within come meets
      (independent_inside t by.first a b by.source by.sink c (pairs (references t)) x.are.edges (pair_listed t by.first a b by.source by.sink m) x.are.are (outer ++ i ∷ []) is js some
      (at_first ∙ sym (append_assoc outer (i ∷ []) is)) (at_second ∙ sym (append_assoc outer (i ∷ []) js)) (other_loops k j less inside is js inner_first inner_second) (inl (units_apart s l.body k j a.place.statement b.place.statement less inside of to))) refl of to here there

  -- so two such pieces don't conflict
  pub pieces_apart : (idle : Cell → Bool) (k j y z : ℕ) (earlier later : List Act) → k < length (units l.body) → j < length (units l.body) → AreTwoPieces k j earlier later → AllStoreWithin idle earlier → AllStoreWithin idle later
      → In k (slice_index_or found y []) → In j (slice_index_or found z []) → z < y → blocks_conflict_outside idle earlier later ≡ false
  pieces_apart idle k j y z earlier later inside within two first second here there back = go (blocks_conflict_outside idle earlier later) refl
    where
      in_run : (a : Act) → IsIn a (two.front ++ (earlier ++ (two.between ++ (later ++ two.behind)))) → IsIn a (run_of t data_bytes).acts
      in_run a i = subst (λ (acts : List Act). IsIn a acts) (sym two.is) i

      go : (b : Bool) → blocks_conflict_outside idle earlier later ≡ b → blocks_conflict_outside idle earlier later ≡ false
      go false e = e
      go true e =
          let p = acts_of_blocks idle earlier later e in
          let f : IsIn p.0 (run_of t data_bytes).acts = in_run p.0 (in_right p.0 two.front (earlier ++ (two.between ++ (later ++ two.behind))) (in_left p.0 earlier (two.between ++ (later ++ two.behind)) p.2)) in
          let g : IsIn p.1 (run_of t data_bytes).acts = in_run p.1 (in_right p.1 two.front (earlier ++ (two.between ++ (later ++ two.behind))) (in_right p.1 earlier (two.between ++ (later ++ two.behind)) (in_right p.1 two.between (later ++ two.behind) (in_left p.1 later two.behind p.3)))) in
          let m = (outside_of_run (setting_of t) t.body 1 [] (store_at_start (lines data_bytes)) idle p.0 p.1 f g (first p.0 p.2) (second p.1 p.3) p.4).0 in
          let come = come_in_run t data_bytes two.front earlier two.between later two.behind m.first m.second two.is (of_act m.first p.0 earlier p.2 m.of_first) (of_act m.second p.1 later p.3 m.of_second) in
          let one = two.first_unit.inside p.0 p.2 in
          let other = two.second_unit.inside p.1 p.3 in
          let at_first = (touch_of_access m.first p.0 m.of_first).2 in
          let at_second = (touch_of_access m.second p.1 m.of_second).2 in
          let first_turns : m.first.place.turns ≡ two.outer ++ two.first ∷ one.0 = ap (λ (r : Access). r.place.turns) at_first ∙ one.1 in
          let second_turns : m.second.place.turns ≡ two.outer ++ two.second ∷ other.0 = ap (λ (r : Access). r.place.turns) at_second ∙ other.1 in
          let of = subst (OfUnit k) (ap (λ (r : Access). r.place.statement) (sym at_first)) (two.first_unit.stand p.0 p.2) in
          let to = subst (OfUnit j) (ap (λ (r : Access). r.place.statement) (sym at_second)) (two.second_unit.stand p.1 p.3) in
          let on : y ≤ z = elim two.order [
            | inl less ↦ in_two m.first m.second k j y z inside within come m.conflicts m.first_reference m.second_reference two.outer two.first two.second one.0 other.0
                (record { at_first = first_turns; at_second = second_turns; of_first = two.first_is; of_second = two.second_is; earlier = less }) of to here there
            | inr same ↦ in_one m.first m.second k j y z same.1 inside within come m.conflicts m.first_reference m.second_reference two.outer two.first one.0 other.0 first_turns
                (second_turns ∙ ap (λ (r : Turn). two.outer ++ r ∷ other.0) (sym same.0)) one.2 other.2 of to here there
          ] in
          absurd (omega (arith, on, back))
