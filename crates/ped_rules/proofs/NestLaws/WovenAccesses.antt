-- Where the accesses of two loops in each other's place come from, in one execution.
use Rattle.std.proofs.Common.{Bool, List, Some, [], ap, append-nil, append_assoc, arith, false, inl, inr, map, refl, subst, sym, true, ℕ, ◌++◌, ◌+◌, ◌-◌, ◌<◌, ◌||◌, ◌∙◌, ◌∷◌, ◌≡◌, ◌≤◌, ◌⊎◌}
use Rattle.std.specs.Str.Lines.{lines}
use Rattle.ped_rules.proofs.NestLaws.WovenStands as stands
use Rattle.ped_loop_runs.specs.ped_graph.specs.Dependences.{AreEdges}
use Rattle.ped_edges.specs.Edges.{Edge}
use Rattle.ped_rules.proofs.NestLaws.WovenConflicts.{NoneCrossesOn}
use Rattle.ped_loop_runs.proofs.LoopLaws.ApartTurns.{apart_further, apart_same, in_one_iteration, or_turned}
use Rattle.ped_rules.proofs.NestLaws.ExchangedRaces.{AreRaceFree, ComesInside, RaceBefore, ReadsFixed, inside_leaves, only_second}
use Rattle.ped_rules.proofs.NestLaws.LoopPairs.{Row}
use Rattle.ped_rules.proofs.NestLaws.NestKnots.{IsControlOf, IsPair, control_of, inner_end, inner_entry, outer_end, outer_entry, pair_of}
use Rattle.ped_rules.proofs.NestLaws.OnlyBodies.{never, pair}
use Rattle.ped_rules.proofs.NestLaws.WovenCells.{PairReached, swapped_apart, swapped_inside, swapped_or_stays}
use Rattle.ped_rules.proofs.NestLaws.WovenLoops.{AreSwapped, HasSwappedTrips, back_pair, its_names, new_likewise}
use Rattle.ped_rules.proofs.NestLaws.WovenStands.{new_run_is, pair_part, reached_trip, steady_read}
use Rattle.ped_rules.proofs.NestLaws.WovenLists.{IsPart, end_unreferred, entry_referred}
use Rattle.ped_rules.specs.OnlyLoops.{change_only, only_loop}
use Rattle.ped_loop_runs.proofs.LoopLaws.OneForOneCells.{IsOfLoop}
use Rattle.ped_loop_runs.proofs.LoopLaws.OneForOneStands.{run_alone}
use Rattle.ped_loop_runs.proofs.LoopLaws.RacesByReferences.{told_is_unreferred}
use Rattle.ped_loop_runs.specs.Bounds.{IsOfFixed}
use Rattle.ped_loop_runs.specs.Executions.{IsExecuted}
use Rattle.ped_loop_runs.specs.ped_bodies.proofs.BodyLaws.LikewiseAccesses.{likewise_accesses}
use Rattle.ped_loop_runs.specs.ped_bodies.specs.Likewise.{IsMadeLikewise, IsOnlyTold, NamesScalars}
use Rattle.ped_loop_runs.specs.ped_bodies.specs.Moving.{own_number}
use Rattle.ped_loop_runs.specs.ped_bodies.specs.Trips.{bounds_seen, loop_entry, trip_end}
use Rattle.ped_loop_runs.specs.ped_steps.proofs.RunLaws.AccessTouches.{touch_of, accesses_from}
use Rattle.ped_loop_runs.specs.ped_steps.specs.Replacing.{alone}
use Rattle.ped_loop_runs.specs.ped_steps.specs.Runs.Renumbering.{renumbered_turn}
use Rattle.ped_loop_runs.specs.ped_flow.specs.Questions.{LoopOf}
use Rattle.ped_loop_runs.specs.ped_laws.proofs.ActLaws.Conflicting.{access_by, access_place, accesses_in}
use Rattle.ped_loop_runs.specs.ped_laws.proofs.ActLaws.Lists.{in_left, in_parts, in_right}
use Rattle.ped_loop_runs.specs.ped_laws.proofs.ConflictLaws.CoveringRuns.{MakingLaw, SequenceLaw}
use Rattle.ped_loop_runs.specs.ped_laws.specs.Acts.Fitting.{touches_of}
use Rattle.ped_loop_runs.specs.ped_laws.specs.Acts.Orders.{IsIn}
use Rattle.ped_loop_runs.specs.ped_laws.specs.Acts.Sets.{nothing, written}
use Rattle.ped_loop_runs.specs.ped_laws.specs.Runs.Replaying.{finish_of, goes_on}
use Rattle.ped_loop_runs.specs.ped_eval.specs.Evaluation.{Seen}
use Rattle.ped_loop_runs.specs.ped_eval.specs.Loops.{inner_variables, Entered, frame}
use Rattle.ped_loop_runs.specs.ped_eval.specs.Outcomes.{Ends, run_of, setting_of}
use Rattle.ped_loop_runs.specs.ped_eval.specs.Runs.{Run, run}
use Rattle.ped_loop_runs.specs.ped_eval.specs.Scopes.{Scope, Setting, place_of, turns_of}
use Rattle.ped_loop_runs.specs.ped_store.specs.Acts.{Act, Place, Touch, Turn, reads}
use Rattle.ped_loop_runs.specs.ped_store.specs.Cells.{Cell}
use Rattle.ped_loop_runs.specs.ped_store.specs.Races.{Access, accesses, accesses_of, are_apart, is_access, is_write}
use Rattle.ped_loop_runs.specs.ped_store.specs.Stores.{Store, store_at_start}
use Rattle.ped_loop_runs.specs.ped_weaves.specs.Weaves.{Knot, Weave, block, control, knotted, new_list}
use Rattle.ped_tree.specs.NamesIn.{loop_variables}
use Rattle.ped_tree.specs.Numbering.{statements_count}
use Rattle.ped_tree.specs.Tree.{Do, Head, ProgramTree, StmtTrees}

in_single : (a b : Act) → IsIn a (b ∷ []) → a ≡ b
in_single a b (inl e) = e
in_single a b (inr i) = absurd i

pub touch_in : (acts : List Act) (a : Act) (v : Touch) → IsIn a acts → IsIn v a.touches → IsIn v (touches_of acts)
touch_in [] a v i j = absurd i
touch_in (b ∷ acts) a v (inl e) j = in_left v b.touches (touches_of acts) (subst (λ (z : Act). IsIn v z.touches) e j)
touch_in (b ∷ acts) a v (inr i) j = in_right v b.touches (touches_of acts) (touch_in acts a v i j)

-- an act of a woven list is one of a control or of a block
pub record IsOfControl (ks : List Knot) (a : Act) : Type 0 where
  pub acts : List Act
  pub stands : IsIn (control acts) ks
  pub among : IsIn a acts

pub record IsOfBlock (acts : ℕ → ℕ → List Act) (ks : List Knot) (a : Act) : Type 0 where
  pub one : ℕ
  pub other : ℕ
  pub stands : IsIn (block one other) ks
  pub among : IsIn a (acts one other)

pub of_knots : (acts : ℕ → ℕ → List Act) (ks : List Knot) (a : Act) → IsIn a (knotted acts ks) → IsOfControl ks a ⊎ IsOfBlock acts ks a
of_knots acts [] a i = absurd i
of_knots acts (block m n ∷ ks) a i = elim (in_parts a (acts m n) (knotted acts ks) i) [
  | inl k ↦ inr (record { one = m; other = n; stands = inl refl; among = k })
  | inr k ↦ elim (of_knots acts ks a k) [
    | inl r ↦ inl (record { acts = r.acts; stands = inr r.stands; among = r.among })
    | inr r ↦ inr (record { one = r.one; other = r.other; stands = inr r.stands; among = r.among })
  ]
]
of_knots acts (control c ∷ ks) a i = elim (in_parts a c (knotted acts ks) i) [
  | inl k ↦ inl (record { acts = c; stands = inl refl; among = k })
  | inr k ↦ elim (of_knots acts ks a k) [
    | inl r ↦ inl (record { acts = r.acts; stands = inr r.stands; among = r.among })
    | inr r ↦ inr (record { one = r.one; other = r.other; stands = inr r.stands; among = r.among })
  ]
]

pub in_knots : (acts : ℕ → ℕ → List Act) (ks : List Knot) (m n : ℕ) (a : Act) → IsIn (block m n) ks → IsIn a (acts m n) → IsIn a (knotted acts ks)
in_knots acts [] m n a i j = absurd i
in_knots acts (block k l ∷ ks) m n a (inl e) j = in_left a (acts k l) (knotted acts ks) (let one : m ≡ k = cc in let two : n ≡ l = cc in subst (λ (z : ℕ). IsIn a (acts z l)) one (subst (λ (z : ℕ). IsIn a (acts m z)) two j))
in_knots acts (block k l ∷ ks) m n a (inr i) j = in_right a (acts k l) (knotted acts ks) (in_knots acts ks m n a i j)
in_knots acts (control c ∷ ks) m n a (inl e) j = absurd cc
in_knots acts (control c ∷ ks) m n a (inr i) j = in_right a c (knotted acts ks) (in_knots acts ks m n a i j)

in_part : (whole part : List Act) → IsPart whole part → (a : Act) → IsIn a part → IsIn a whole
in_part whole part is a i = subst (IsIn a) (sym is.is) (in_right a is.before (part ++ is.behind) (in_left a part is.behind i))

pub same_turns : (more : List Turn) → map (renumbered_turn own_number) more ≡ more
same_turns [] = refl
same_turns (t ∷ more) = ap (λ (rest : List Turn). t ∷ rest) (same_turns more)

module _ (making : MakingLaw) (sequence : SequenceLaw) (t u : ProgramTree) (l : ℕ) (loop : LoopOf t l) (g h k : Head) (inside : StmtTrees) (only : only_loop loop.body ≡ Some (pair g inside)) (x : AreSwapped t u l loop g h k inside only) (data_bytes : List ℕ)
    (uncrossed : (edges : List Edge) → AreEdges t edges → NoneCrossesOn t edges data_bytes l loop.body) (ends : Ends (run_of t data_bytes).ending)
    (scope : Scope) (front behind : List Act) (s : Store) (executed : IsExecuted (setting_of t) t (store_at_start (lines data_bytes)) l (statements_count (alone (Do loop.head loop.body))) scope front (run (setting_of t) (Do loop.head loop.body) l scope s).acts behind s)
    (goes : finish_of (run (setting_of t) (Do loop.head loop.body) l scope s).ending ≡ goes_on) where
  abbrev p : Setting
  p = setting_of t

  abbrev old_acts : List Act
  old_acts = (run (setting_of t) (Do loop.head loop.body) l scope s).acts

  abbrev new_acts : List Act
  new_acts = (run (setting_of t) (Do h (change_only (λ f z. Do k z) loop.body)) l scope s).acts

  abbrev variables : List (List ℕ)
  variables = loop_variables (Do loop.head loop.body)

  abbrev e0 : Entered
  e0 = stands.e0 making sequence t u l loop g h k inside only x data_bytes uncrossed ends scope front behind s executed goes

  abbrev z0 : Entered
  z0 = stands.z0 making sequence t u l loop g h k inside only x data_bytes uncrossed ends scope front behind s executed goes

  abbrev in_old : ℕ → Entered
  in_old i = stands.in_old making sequence t u l loop g h k inside only x data_bytes uncrossed ends scope front behind s executed goes i

  abbrev in_new : ℕ → Entered
  in_new a = stands.in_new making sequence t u l loop g h k inside only x data_bytes uncrossed ends scope front behind s executed goes a

  abbrev scope_old : ℕ → Scope
  scope_old i = stands.scope_old making sequence t u l loop g h k inside only x data_bytes uncrossed ends scope front behind s executed goes i

  abbrev scope_new : ℕ → Scope
  scope_new a = stands.scope_new making sequence t u l loop g h k inside only x data_bytes uncrossed ends scope front behind s executed goes a

  abbrev row_old : ℕ → Row
  row_old i = stands.row_old making sequence t u l loop g h k inside only x data_bytes uncrossed ends scope front behind s executed goes i

  abbrev same : HasSwappedTrips t l loop.head g h k loop.body inside only scope s goes
  same = x.trips data_bytes scope front behind s executed goes

  abbrev later : ℕ → ℕ
  later = same.later

  abbrev below : ℕ → ℕ
  below = same.below

  abbrev names : Cell → Cell
  names = its_names t l loop.head g h k loop.body inside only scope s goes same

  abbrev fresh_trip : ℕ → ℕ → List Act
  fresh_trip = stands.fresh_trip making sequence t u l loop g h k inside only x data_bytes uncrossed ends scope front behind s executed goes

  abbrev w : Weave
  w = stands.w making sequence t u l loop g h k inside only x data_bytes uncrossed ends scope front behind s executed goes

  abbrev seen_new : ℕ → List Seen
  seen_new a = stands.seen_new making sequence t u l loop g h k inside only x data_bytes uncrossed ends scope front behind s executed goes a

  abbrev place_new : ℕ → Place
  place_new a = stands.place_new making sequence t u l loop g h k inside only x data_bytes uncrossed ends scope front behind s executed goes a

  abbrev at : Place
  at = place_of p l scope

  abbrev new_first : ℕ → ℕ → ℕ
  new_first a b = below a + b

  abbrev new_second : ℕ → ℕ → ℕ
  new_second a b = a

  no_inner : (f : Head) (ts : StmtTrees) → f.parallel ≡ false → inner_variables f.parallel ts ≡ []
  no_inner f ts q = ap (λ (b : Bool). inner_variables b ts) q

  is_new : new_acts ≡ new_list w
  is_new = new_run_is making sequence t u l loop g h k inside only x data_bytes uncrossed ends scope front behind s executed goes

  unwritten : (c : Cell) → IsOfFixed p.constants t l c → written old_acts c ≡ false
  unwritten c fixed = stands.fixed_unwritten making sequence t u l loop g h k inside only x data_bytes uncrossed ends scope front behind s executed goes c fixed

  -- an access of a control reads a scalar that keeps its value
  control_reads : (c : List Act) (a : Act) (b : Access) → IsIn (control c) w.new → IsIn a c → IsIn b (accesses_of a) → 0 < b.reference → ReadsFixed t l scope b
  control_reads c a b i j n referred = by (control_of (bounds_seen p h scope s) z0 scope at seen_new in_new scope_new place_new new_first new_second c i)
    where
      v : (v : Touch) × IsIn v a.touches × (is_access v ≡ true) × (b ≡ access_by a v)
      v = touch_of a a.touches b n

      some : 0 < v.0.reference
      some = subst (λ (m : ℕ). 0 < m) (ap (λ (z : Access). z.reference) v.3) referred

      read : v.0.manner ≡ reads → (extra : List Turn) → a.place.turns ≡ turns_of scope ++ extra → ((r : Turn) (more : List Turn) → extra ≡ r ∷ more → r.statement ≡ l) → ReadsFixed t l scope b
      read manner extra place whose =
          let r = steady_read making sequence t u l loop g h k inside only x data_bytes uncrossed ends scope front behind s executed goes c v.0 i (touch_in c a v.0 j v.1) manner in
          record {
            fixed = subst (IsOfFixed p.constants t l) (ap (λ (z : Access). z.cell) (sym v.3)) r.fixed;
            reading = ap (λ (z : Access). z.writes) v.3 ∙ ap is_write manner;
            extra = extra;
            place = ap (λ (q : Place). q.turns) (access_place a b n) ∙ place;
            whose = whose;
          }

      of_entry : (entry : Act) → c ≡ entry ∷ [] → a ≡ entry
      of_entry entry q = in_single a entry (subst (λ (acts : List Act). IsIn a acts) q j)

      touched : (entry : Act) → c ≡ entry ∷ [] → IsIn v.0 entry.touches
      touched entry q = subst (λ (z : Act). IsIn v.0 z.touches) (of_entry entry q) v.1

      of_end : (acts : List Act) → c ≡ acts → (IsIn v.0 (touches_of acts) → v.0.reference ≡ 0) → ⊥
      of_end acts q none = let zero_is = none (touch_in acts a v.0 (subst (λ (zs : List Act). IsIn a zs) q j) v.1) in omega (arith, some, zero_is)

      by : IsControlOf (bounds_seen p h scope s) z0 scope at seen_new in_new scope_new place_new new_first new_second c → ReadsFixed t l scope b
      by (outer_entry q) =
          read (entry_referred variables z0 scope x.new_serial x.new_private (no_inner h (change_only (λ f z. Do k z) loop.body) x.new_serial) (stands.outer_new_named making sequence t u l loop g h k inside only x data_bytes uncrossed ends) (bounds_seen p h scope s) at v.0 (touched (loop_entry (bounds_seen p h scope s) z0 scope at) q) some)
          [] (ap (λ (z : Act). z.place.turns) (of_entry (loop_entry (bounds_seen p h scope s) z0 scope at) q) ∙ sym (append-nil (turns_of scope))) (λ r more e. absurd cc)
      by (inner_entry m from to q) =
          read (entry_referred variables (in_new m) (scope_new m) x.new_inner_serial x.new_inner_private (no_inner k inside x.new_inner_serial) (stands.inner_new_named making sequence t u l loop g h k inside only x data_bytes uncrossed ends) (seen_new m) (place_new m) v.0 (touched (loop_entry (seen_new m) (in_new m) (scope_new m) (place_new m)) q) some)
          ((frame z0 m).turn ∷ []) (ap (λ (z : Act). z.place.turns) (of_entry (loop_entry (seen_new m) (in_new m) (scope_new m) (place_new m)) q)) (λ r more e. (let turn : (frame z0 m).turn ≡ r = cc in ap (λ (z : Turn). z.statement) (sym turn)))
      by (inner_end m n from to q) = absurd (of_end (trip_end (in_new m) (scope_new m) (place_new m) n) q (end_unreferred variables (in_new m) (scope_new m) x.new_inner_serial x.new_inner_private (no_inner k inside x.new_inner_serial) (stands.inner_new_named making sequence t u l loop g h k inside only x data_bytes uncrossed ends) (place_new m) n v.0))
      by (outer_end m from to q) = absurd (of_end (trip_end z0 scope at m) q (end_unreferred variables z0 scope x.new_serial x.new_private (no_inner h (change_only (λ f z. Do k z) loop.body) x.new_serial) (stands.outer_new_named making sequence t u l loop g h k inside only x data_bytes uncrossed ends) at m v.0))

  -- an access of a new pair of iterations is made likewise in the old one
  record IsOfPair (b : Access) : Type 0 where
    outer : ℕ
    inner : ℕ
    from : 1 ≤ outer
    to : outer ≤ z0.count
    inner_from : 1 ≤ inner
    inner_to : inner ≤ (in_new outer).count
    origin : Access
    in_trip : IsIn origin (accesses ((row_old (below outer + inner)).trip (outer - later (below outer + inner))))
    likewise : IsMadeLikewise names nothing own_number (turns_of (frame (in_old (below outer + inner)) (outer - later (below outer + inner)) ∷ scope_old (below outer + inner))) (turns_of (frame (in_new outer) inner ∷ scope_new outer)) origin b

  named : NamesScalars names
  named = record { element = λ y js. refl; input = refl; output = refl }

  block_comes : (m n : ℕ) (a : Act) (b : Access) → IsIn (block m n) w.new → IsIn a (w.others m n) → IsIn b (accesses_of a) → 0 < b.reference → IsOfPair b
  block_comes m n a b i j q referred = by (pair_of (bounds_seen p h scope s) z0 scope at seen_new in_new scope_new place_new new_first new_second m n i)
    where
      Pair : Type 0
      Pair = IsPair (bounds_seen p h scope s) z0 scope at seen_new in_new scope_new place_new new_first new_second m n

      by : Pair → IsOfPair b
      by r = go (likewise_accesses names nothing named (λ c e. absurd cc) own_number (turns_of (frame (in_old (below r.outer + r.inner_number)) (r.outer - later (below r.outer + r.inner_number)) ∷ scope_old (below r.outer + r.inner_number))) (turns_of (frame (in_new r.outer) r.inner_number ∷ scope_new r.outer))
          ((row_old (below r.outer + r.inner_number)).trip (r.outer - later (below r.outer + r.inner_number))) (fresh_trip r.outer r.inner_number)
          (new_likewise t l loop.head g h k loop.body inside only scope s goes same x.variable x.inner_variable x.differ x.serial x.inner_serial x.new_serial x.new_inner_serial x.private x.inner_private x.new_private x.new_inner_private r.outer r.inner_number r.from r.to r.inner_from r.inner_to)
          b (accesses_in (fresh_trip r.outer r.inner_number) a b (subst (λ (acts : List Act). IsIn a acts) others_are j) q))
        where
          others_are : w.others m n ≡ fresh_trip r.outer r.inner_number
          others_are = (λ z. fresh_trip (r.two z) (r.one z - below (r.two z))) ∙ ap (fresh_trip r.outer) (let back : below r.outer + r.inner_number - below r.outer ≡ r.inner_number = omega arith in back)

          unreferred : (told : IsOnlyTold (fresh_trip r.outer r.inner_number) b) → b.reference ≡ 0
          unreferred told =
              ap (λ (z : Access). z.reference) told.is
              ∙ told_is_unreferred p (alone (Do h (change_only (λ f z. Do k z) loop.body))) l scope s told.by
              (subst (λ (acts : List Act). IsIn told.by acts) (sym (ap (λ (y : Run). y.acts) (run_alone p (Do h (change_only (λ f z. Do k z) loop.body)) l scope s) ∙ is_new)) (in_knots w.others w.new m n told.by i (subst (λ (acts : List Act). IsIn told.by acts) (sym others_are) told.found)))
              told.touch told.among told.manner

          go : ((y : Access) × IsIn y (accesses ((row_old (below r.outer + r.inner_number)).trip (r.outer - later (below r.outer + r.inner_number))))
              × IsMadeLikewise names nothing own_number (turns_of (frame (in_old (below r.outer + r.inner_number)) (r.outer - later (below r.outer + r.inner_number)) ∷ scope_old (below r.outer + r.inner_number))) (turns_of (frame (in_new r.outer) r.inner_number ∷ scope_new r.outer)) y b)
              ⊎ IsOnlyTold (fresh_trip r.outer r.inner_number) b → IsOfPair b
          go (inl y) = record { outer = r.outer; inner = r.inner_number; from = r.from; to = r.to; inner_from = r.inner_from; inner_to = r.inner_to; origin = y.0; in_trip = y.1; likewise = y.2 }
          go (inr told) = let none = unreferred told in absurd (omega (arith, none, referred))

  access_comes : (b : Access) → IsIn b (accesses new_acts) → 0 < b.reference → ReadsFixed t l scope b ⊎ IsOfPair b
  access_comes b i referred =
      let a = accesses_from new_acts b i in
      elim (of_knots w.others w.new a.0 (subst (λ (acts : List Act). IsIn a.0 acts) is_new a.1)) [
        | inl r ↦ inl (control_reads r.acts a.0 b r.stands r.among a.2 referred)
        | inr r ↦ inr (block_comes r.one r.other a.0 b r.stands r.among a.2 referred)
      ]

  module _ (b : Access) (m : IsOfPair b) where
    abbrev i : ℕ
    i = below m.outer + m.inner

    abbrev j : ℕ
    j = m.outer - later (below m.outer + m.inner)

    old_pair : (1 ≤ i) × (i ≤ e0.count) × (1 ≤ j) × (j ≤ (in_old i).count)
    old_pair = let r = back_pair t l loop.head g h k loop.body inside only scope s goes same m.outer m.inner m.from m.to m.inner_from m.inner_to in (r.0, r.1, r.2, r.3)

    place : b.place.turns ≡ turns_of scope ++ (frame z0 m.outer).turn ∷ ((frame (in_new m.outer) m.inner).turn ∷ m.likewise.more)
    place =
        m.likewise.new ∙ ap (λ (more : List Turn). turns_of (frame (in_new m.outer) m.inner ∷ scope_new m.outer) ++ more) (same_turns m.likewise.more)
        ∙ append_assoc (turns_of scope ++ (frame z0 m.outer).turn ∷ []) ((frame (in_new m.outer) m.inner).turn ∷ []) m.likewise.more ∙ append_assoc (turns_of scope) ((frame z0 m.outer).turn ∷ []) ((frame (in_new m.outer) m.inner).turn ∷ m.likewise.more)

    was : m.origin.place.turns ≡ turns_of scope ++ (frame e0 i).turn ∷ ((frame (in_old i) j).turn ∷ m.likewise.more)
    was = m.likewise.old ∙ append_assoc (turns_of scope ++ (frame e0 i).turn ∷ []) ((frame (in_old i) j).turn ∷ []) m.likewise.more ∙ append_assoc (turns_of scope) ((frame e0 i).turn ∷ []) ((frame (in_old i) j).turn ∷ m.likewise.more)

    cell_named : b.cell ≡ names m.origin.cell
    cell_named = elim m.likewise.cell [ inl q ↦ q | inr q ↦ absurd (let none : false ≡ true = q.0 in cc) ]

    found : IsIn m.origin (accesses old_acts)
    found =
        let a = accesses_from ((row_old i).trip j) m.origin m.in_trip in
        accesses_in old_acts a.0 m.origin
        (in_part old_acts ((row_old i).trip j) (pair_part making sequence t u l loop g h k inside only x data_bytes uncrossed ends scope front behind s executed goes i j old_pair.0 old_pair.1 old_pair.2 old_pair.3) a.0 a.1) a.2

    reached : PairReached p scope l e0.count z0.count (λ n. (in_old n).count) (λ n. (in_new n).count) later below same.grouped m.origin.cell
    reached =
        let a = accesses_from ((row_old i).trip j) m.origin m.in_trip in
        let v = touch_of a.0 a.0.touches m.origin a.2 in
        subst (PairReached p scope l e0.count z0.count (λ n. (in_old n).count) (λ n. (in_new n).count) later below same.grouped) (ap (λ (z : Access). z.cell) (sym v.3))
        (reached_trip making sequence t u l loop g h k inside only x data_bytes uncrossed ends scope front behind s executed goes i j old_pair.0 old_pair.1 old_pair.2 old_pair.3 a.0 a.1 v.0 v.1)

    comes_inside : ComesInside t l scope old_acts b
    comes_inside = record {
      origin = m.origin;
      found = found;
      writes = sym m.likewise.writes;
      turn = (frame z0 m.outer).turn;
      more = (frame (in_new m.outer) m.inner).turn ∷ m.likewise.more;
      place = place;
      statement = refl;
      old_turn = (frame e0 i).turn;
      old_more = (frame (in_old i) j).turn ∷ m.likewise.more;
      was = was;
      old_statement = refl;
      cell = elim (swapped_or_stays p scope l e0.count z0.count (λ n. (in_old n).count) (λ n. (in_new n).count) later below same.grouped m.origin.cell) [
        | inl stays ↦ inl (sym (cell_named ∙ stays))
        | inr moved ↦ inr (subst (IsOfLoop p scope l) (sym cell_named) (swapped_inside p scope l e0.count z0.count (λ n. (in_old n).count) (λ n. (in_new n).count) later below same.grouped m.origin.cell moved))
      ];
    }

  -- two that race come from two that race
  pairs_meet : (b c : Access) (m : IsOfPair b) (n : IsOfPair c) → b.cell ≡ c.cell → b.writes || c.writes ≡ true → are_apart b.place.turns c.place.turns ≡ true → RaceBefore old_acts b c
  pairs_meet b c m n cells writing apart = record {
    one = m.origin;
    other = n.origin;
    one_in = found b m;
    other_in = found c n;
    cells = swapped_apart p scope l e0.count z0.count (λ q. (in_old q).count) (λ q. (in_new q).count) later below same.grouped m.origin.cell n.origin.cell (reached b m) (reached c n) (sym (cell_named b m) ∙ cells ∙ cell_named c n);
    writes = (λ z. sym m.likewise.writes z || sym n.likewise.writes z) ∙ writing;
    apart = (λ z. are_apart (was b m z) (was c n z)) ∙ apart_same (turns_of scope) ((frame e0 (i b m)).turn ∷ ((frame (in_old (i b m)) (j b m)).turn ∷ m.likewise.more)) ((frame e0 (i c n)).turn ∷ ((frame (in_old (i c n)) (j c n)).turn ∷ n.likewise.more))
        ∙ apart_further (frame e0 (i b m)).turn (frame e0 (i c n)).turn ((frame (in_old (i b m)) (j b m)).turn ∷ m.likewise.more) ((frame (in_old (i c n)) (j c n)).turn ∷ n.likewise.more) refl same_outer
        (apart_further (frame (in_old (i b m)) (j b m)).turn (frame (in_old (i c n)) (j c n)).turn m.likewise.more n.likewise.more refl (λ z. first.0 z - later (same_outer z)) second.1);
  }
    where
      within : are_apart ((frame z0 m.outer).turn ∷ ((frame (in_new m.outer) m.inner).turn ∷ m.likewise.more)) ((frame z0 n.outer).turn ∷ ((frame (in_new n.outer) n.inner).turn ∷ n.likewise.more)) ≡ true
      within =
          sym (apart_same (turns_of scope) ((frame z0 m.outer).turn ∷ ((frame (in_new m.outer) m.inner).turn ∷ m.likewise.more)) ((frame z0 n.outer).turn ∷ ((frame (in_new n.outer) n.inner).turn ∷ n.likewise.more)))
          ∙ (λ z. are_apart (sym (place b m) z) (sym (place c n) z)) ∙ apart

      first : (m.outer ≡ n.outer) × (are_apart ((frame (in_new m.outer) m.inner).turn ∷ m.likewise.more) ((frame (in_new n.outer) n.inner).turn ∷ n.likewise.more) ≡ true)
      first = in_one_iteration (frame z0 m.outer).turn (frame z0 n.outer).turn ((frame (in_new m.outer) m.inner).turn ∷ m.likewise.more) ((frame (in_new n.outer) n.inner).turn ∷ n.likewise.more) x.new_serial within

      second : (m.inner ≡ n.inner) × (are_apart m.likewise.more n.likewise.more ≡ true)
      second = in_one_iteration (frame (in_new m.outer) m.inner).turn (frame (in_new n.outer) n.inner).turn m.likewise.more n.likewise.more x.new_inner_serial first.1

      same_outer : i b m ≡ i c n
      same_outer = λ z. below (first.0 z) + second.0 z

  pub free_swapped : AreRaceFree t l scope old_acts new_acts
  free_swapped = record {
    comes = λ b q referred. elim (access_comes b q referred) [ inl r ↦ inl r | inr m ↦ inr (comes_inside b m) ];
    meets = λ b c q r one other cells writing apart. by b c cells writing apart (access_comes b q one) (access_comes c r other);
    unwritten = unwritten;
  }
    where
      by : (b c : Access) → b.cell ≡ c.cell → b.writes || c.writes ≡ true → are_apart b.place.turns c.place.turns ≡ true → ReadsFixed t l scope b ⊎ IsOfPair b → ReadsFixed t l scope c ⊎ IsOfPair c → RaceBefore old_acts b c
      by b c cells writing apart (inl f) (inl r) = absurd (never c.writes (only_second b.writes c.writes writing f.reading) r.reading)
      by b c cells writing apart (inl f) (inr n) = absurd (inside_leaves t l scope old_acts c (comes_inside c n) unwritten (subst (IsOfFixed p.constants t l) cells f.fixed) (only_second b.writes c.writes writing f.reading))
      by b c cells writing apart (inr m) (inl r) = absurd (inside_leaves t l scope old_acts b (comes_inside b m) unwritten (subst (IsOfFixed p.constants t l) (sym cells) r.fixed) (only_second c.writes b.writes (or_turned b.writes c.writes writing) r.reading))
      by b c cells writing apart (inr m) (inr n) = pairs_meet b c m n cells writing apart
