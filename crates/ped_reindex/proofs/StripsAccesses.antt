-- Where the accesses of loops that do iterations in strips come from, in one execution.
use Rattle.std.proofs.Common.{Bool, List, [], ap, append-nil, append_assoc, arith, false, inl, inr, pos, refl, subst, sym, true, ℕ, ◌%◌, ◌*◌, ◌++◌, ◌+◌, ◌-◌, ◌/◌, ◌<◌, ◌||◌, ◌∙◌, ◌∷◌, ◌≡◌, ◌≤◌, ◌⊎◌}
use Rattle.std.proofs.lemmas.Bool.{both_ways}
use Rattle.std.specs.Str.Lines.{lines}
use Rattle.ped_base.specs.Lists.{is_among}
use Rattle.ped_rules.specs.ped_loop_runs.proofs.LoopLaws.ApartTurns.{apart_further, apart_same, in_one_iteration, none_behind, none_within}
use Rattle.ped_rules.proofs.NestLaws.ExchangedRaces.{RaceBefore, ReadsFixed, only_second}
use Rattle.ped_rules.proofs.NestLaws.WovenAccesses.{in_knots, of_knots, same_turns, touch_in}
use Rattle.ped_rules.proofs.NestLaws.WovenLists.{end_unreferred, entry_referred}
use Rattle.ped_rules.specs.ped_loop_runs.proofs.LoopLaws.OneForOneCells.{IsOfLoop}
use Rattle.ped_rules.specs.ped_loop_runs.proofs.LoopLaws.OneForOneStands.{run_alone}
use Rattle.ped_rules.specs.ped_loop_runs.proofs.LoopLaws.RacesByReferences.{told_is_unreferred}
use Rattle.ped_rules.specs.ped_loop_runs.specs.Bounds.{IsOfFixed}
use Rattle.ped_rules.specs.ped_loop_runs.specs.Executions.{IsExecuted}
use Rattle.ped_rules.specs.ped_bodies.proofs.BodyLaws.LikewiseAccesses.{likewise_accesses}
use Rattle.ped_rules.specs.ped_bodies.specs.Likewise.{IsMadeLikewise, IsOnlyTold, NamesScalars}
use Rattle.ped_rules.specs.ped_bodies.specs.Moving.{own_number}
use Rattle.ped_rules.specs.ped_bodies.specs.Trips.{bounds_seen, loop_entry, trip_end}
use Rattle.ped_rules.specs.ped_steps.proofs.RunLaws.AccessTouches.{touch_of, accesses_from}
use Rattle.ped_rules.specs.ped_steps.specs.Replacing.{alone}
use Rattle.ped_rules.specs.ped_flow.specs.Questions.{LoopOf}
use Rattle.ped_rules.specs.ped_laws.proofs.ActLaws.Conflicting.{access_by, access_in, access_place, accesses_in}
use Rattle.ped_rules.specs.ped_laws.proofs.ActLaws.Lists.{in_left}
use Rattle.ped_rules.specs.ped_laws.specs.Acts.Fitting.{touches_of}
use Rattle.ped_rules.specs.ped_laws.specs.Acts.Orders.{IsIn}
use Rattle.ped_rules.specs.ped_laws.specs.Acts.Sets.{nothing, written}
use Rattle.ped_rules.specs.ped_laws.specs.Runs.Replaying.{finish_of, goes_on}
use Rattle.ped_rules.specs.ped_eval.specs.Evaluation.{Evaluated, Seen, numbered}
use Rattle.ped_rules.specs.ped_eval.specs.Loops.{Entered, Limits, exit_when_none, frame, inner_variables}
use Rattle.ped_rules.specs.ped_eval.specs.Outcomes.{Ends, run_of, setting_of}
use Rattle.ped_rules.specs.ped_eval.specs.Runs.{Run, run}
use Rattle.ped_rules.specs.ped_eval.specs.Scopes.{Scope, Setting, place_of, turns_of}
use Rattle.ped_rules.specs.ped_store.specs.Acts.{Act, Place, Touch, Turn}
use Rattle.ped_rules.specs.ped_store.specs.Cells.{Cell}
use Rattle.ped_rules.specs.ped_store.specs.Races.{Access, accesses, accesses_of, are_apart, is_access, is_write}
use Rattle.ped_rules.specs.ped_store.specs.Stores.{Store, store_at_start}
use Rattle.ped_rules.specs.ped_weaves.specs.Weaves.{Weave, block, control, new_list, old_list}
use Rattle.ped_rules.proofs.NameLaws.ValuesBut.{AreBeside}
use Rattle.ped_reindex.proofs.StripsBounds.{IsStripped}
use Rattle.ped_reindex.proofs.StripsCells.{StripReached, strip_names, strips_apart, strips_inside, strips_or_stays}
use Rattle.ped_reindex.proofs.StripsControls.{IsInnerControl, entry_seen, inner_end, inner_entry, outer_end}
use Rattle.ped_reindex.proofs.StripsNumbers.{is_in_strip}
use Rattle.ped_reindex.proofs.StripsRaces.{AreRaceFree, ComesFrom, origin_leaves}
use Rattle.ped_reindex.specs.Stripping.{strip_head, strips_head}
use Rattle.ped_tree.specs.Numbering.{statements_count}
use Rattle.ped_tree.specs.Tree.{Do, ProgramTree, StmtTree}
use Rattle.ped_reindex.proofs.StripsStand as stand

-- iterations round others are apart from none of them
round_first : (round extra : List Turn) → are_apart round (round ++ extra) ≡ true → ⊥
round_first round extra apart = none_within extra (sym (apart_same round [] extra) ∙ (λ i. are_apart (append-nil round i) (round ++ extra)) ∙ apart)

round_second : (round extra : List Turn) → are_apart (round ++ extra) round ≡ true → ⊥
round_second round extra apart = none_behind extra (sym (apart_same round extra []) ∙ (λ i. are_apart (round ++ extra) (append-nil round i)) ∙ apart)

in_single : (a b : Act) → IsIn a (b ∷ []) → a ≡ b
in_single a b (inl e) = e
in_single a b (inr i) = absurd i

module _ (t : ProgramTree) (l : ℕ) (loop : LoopOf t l) (K : ℕ) (w : List ℕ) (q : Setting) (x : IsStripped t l loop K w q) (data_bytes : List ℕ) (ends : Ends (run_of t data_bytes).ending) (scope other : Scope) (beside : AreBeside w scope other) (front behind : List Act) (s : Store)
    (executed : IsExecuted (setting_of t) t (store_at_start (lines data_bytes)) l (statements_count (alone (Do loop.head loop.body))) scope front (run (setting_of t) (Do loop.head loop.body) l scope s).acts behind s) (goes : finish_of (run (setting_of t) (Do loop.head loop.body) l scope s).ending ≡ goes_on) where
  abbrev p : Setting
  p = setting_of t

  abbrev new_loop : StmtTree
  new_loop = Do (strips_head (pos K) w loop.head) (alone (Do (strip_head (pos K) w loop.head) loop.body))

  abbrev old_acts : List Act
  old_acts = (run (setting_of t) (Do loop.head loop.body) l scope s).acts

  abbrev new_acts : List Act
  new_acts = (run q (Do (strips_head (pos K) w loop.head) (alone (Do (strip_head (pos K) w loop.head) loop.body))) l other s).acts

  abbrev variables : List (List ℕ)
  variables = stand.strip_variables t l loop K w q x data_bytes ends

  abbrev e0 : Entered
  e0 = stand.e0 t l loop K w q x data_bytes ends scope other beside front behind s executed goes

  abbrev z0 : Entered
  z0 = stand.z0 t l loop K w q x data_bytes ends scope other beside front behind s executed goes

  abbrev in_new : ℕ → Entered
  in_new = stand.in_new t l loop K w q x data_bytes ends scope other beside front behind s executed goes

  abbrev scope_new : ℕ → Scope
  scope_new = stand.scope_new t l loop K w q x data_bytes ends scope other beside front behind s executed goes

  abbrev seen_new : ℕ → List Seen
  seen_new = stand.seen_new t l loop K w q x data_bytes ends scope other beside front behind s executed goes

  abbrev place_new : ℕ → Place
  place_new = stand.place_new t l loop K w q x data_bytes ends scope other beside front behind s executed goes

  abbrev names : Cell → Cell
  names = strip_names p scope l (q.number (l + 1)) K

  abbrev old_trip : ℕ → List Act
  old_trip = stand.old_trip t l loop K w q x data_bytes ends scope other beside front behind s executed goes

  abbrev new_trip : ℕ → List Act
  new_trip = stand.new_trip t l loop K w q x data_bytes ends scope other beside front behind s executed goes

  abbrev its_weave : Weave
  its_weave = stand.its_weave t l loop K w q x data_bytes ends scope other beside front behind s executed goes

  abbrev new_at : Place
  new_at = place_of q l other

  abbrev old_seen : List Seen
  old_seen = bounds_seen p loop.head scope s

  abbrev outer_seen : List Seen
  outer_seen = bounds_seen q (strips_head (pos K) w loop.head) other s

  abbrev old_entry : Act
  old_entry = loop_entry old_seen e0 scope (place_of p l scope)

  abbrev new_entry : Act
  new_entry = loop_entry outer_seen z0 other new_at

  no_inner : inner_variables loop.head.parallel loop.body ≡ []
  no_inner = stand.no_inner t l loop K w q x data_bytes ends

  own_named : is_among loop.head.variable variables ≡ true
  own_named = stand.own_named t l loop K w q x data_bytes ends

  new_named : is_among w variables ≡ true
  new_named = stand.new_named t l loop K w q x data_bytes ends

  is_new : new_acts ≡ new_entry ∷ new_list its_weave
  is_new = stand.new_run_is t l loop K w q x data_bytes ends scope other beside front behind s executed goes

  whole_old : old_acts ≡ old_entry ∷ old_list its_weave
  whole_old = stand.whole_old t l loop K w q x data_bytes ends scope other beside front behind s executed goes

  unwritten : (c : Cell) → IsOfFixed p.constants t l c → written old_acts c ≡ false
  unwritten = stand.fixed_unwritten t l loop K w q x data_bytes ends scope other beside front behind s executed goes

  -- an access of the outer entry is made by the old entry
  record IsOfEntry (b : Access) : Type 0 where
    place : b.place.turns ≡ turns_of scope
    comes : ComesFrom t l scope old_acts b

  entry_comes : (a : Act) (b : Access) → a ≡ new_entry → IsIn b (accesses_of a) → 0 < b.reference → IsOfEntry b
  entry_comes a b e i referred = record {
    place = at_place;
    comes = record {
      origin = access_by old_entry v.0;
      found = accesses_in old_acts old_entry (access_by old_entry v.0) (subst (IsIn old_entry) (sym whole_old) (inl refl)) (access_in old_entry old_entry.touches v.0 (in_left v.0 (numbered 1 old_seen) (exit_when_none e0.count e0 scope) seen) v.2);
      writes = ap (λ (z : Access). z.writes) (sym v.3);
      extra = [];
      place = at_place ∙ sym (append-nil (turns_of scope));
      whose = λ u more k. absurd cc;
      old_extra = [];
      was = sym (append-nil (turns_of scope));
      both = λ u more k. absurd cc;
      cell = inl (ap (λ (z : Access). z.cell) (sym v.3));
    };
  }
    where
      v : (u : Touch) × IsIn u a.touches × (is_access u ≡ true) × (b ≡ access_by a u)
      v = touch_of a a.touches b i

      some : 0 < v.0.reference
      some = subst (λ (m : ℕ). 0 < m) (ap (λ (z : Access). z.reference) v.3) referred

      seen : IsIn v.0 (numbered 1 old_seen)
      seen =
          subst (λ (xs : List Seen). IsIn v.0 (numbered 1 xs)) (ap (λ (r : Evaluated Limits). r.seen) (stand.outer_come t l loop K w q x data_bytes ends scope other beside front behind s executed goes))
          (entry_seen z0 other refl refl refl outer_seen new_at v.0 (subst (λ (z : Act). IsIn v.0 z.touches) e v.1) some)

      at_place : b.place.turns ≡ turns_of scope
      at_place = ap (λ (z : Place). z.turns) (access_place a b i) ∙ ap (λ (z : Act). z.place.turns) e ∙ beside.turns

  -- an access of another control reads a scalar that keeps its value
  control_reads : (c : List Act) (a : Act) (b : Access) → IsIn (control c) its_weave.new → IsIn a c → IsIn b (accesses_of a) → 0 < b.reference → ReadsFixed t l scope b
  control_reads c a b i j n referred = by (stand.inner_of t l loop K w q x data_bytes ends scope other beside front behind s executed goes c i)
    where
      v : (v : Touch) × IsIn v a.touches × (is_access v ≡ true) × (b ≡ access_by a v)
      v = touch_of a a.touches b n

      some : 0 < v.0.reference
      some = subst (λ (m : ℕ). 0 < m) (ap (λ (z : Access). z.reference) v.3) referred

      of_end : (acts : List Act) → c ≡ acts → (IsIn v.0 (touches_of acts) → v.0.reference ≡ 0) → ⊥
      of_end acts e none = let zero_is = none (touch_in acts a v.0 (subst (λ (zs : List Act). IsIn a zs) e j) v.1) in omega (arith, some, zero_is)

      by : IsInnerControl z0 other new_at seen_new in_new scope_new place_new c → ReadsFixed t l scope b
      by (inner_entry m from to e) =
          let entry : Act = loop_entry (seen_new m) (in_new m) (scope_new m) (place_new m) in
          let is : a ≡ loop_entry (seen_new m) (in_new m) (scope_new m) (place_new m) = in_single a (loop_entry (seen_new m) (in_new m) (scope_new m) (place_new m)) (subst (λ (acts : List Act). IsIn a acts) e j) in
          let manner = entry_referred variables (in_new m) (scope_new m) x.can.serial x.can.private no_inner own_named (seen_new m) (place_new m) v.0 (subst (λ (z : Act). IsIn v.0 z.touches) is v.1) some in
          let r = stand.steady_read t l loop K w q x data_bytes ends scope other beside front behind s executed goes c v.0 i (touch_in c a v.0 j v.1) manner in
          record {
            fixed = subst (IsOfFixed p.constants t l) (ap (λ (z : Access). z.cell) (sym v.3)) r.fixed;
            reading = ap (λ (z : Access). z.writes) v.3 ∙ ap is_write manner;
            extra = (frame z0 m).turn ∷ [];
            place = ap (λ (z : Place). z.turns) (access_place a b n) ∙ ap (λ (z : Act). z.place.turns) is ∙ ap (λ (ts : List Turn). ts ++ (frame z0 m).turn ∷ []) beside.turns;
            whose = λ u more k. (let turn : (frame z0 m).turn ≡ u = cc in ap (λ (z : Turn). z.statement) (sym turn)) ∙ x.counts.outer;
          }
      by (inner_end m k from to e) = absurd (of_end (trip_end (in_new m) (scope_new m) (place_new m) k) e (end_unreferred variables (in_new m) (scope_new m) x.can.serial x.can.private no_inner own_named (place_new m) k v.0))
      by (outer_end m from to e) = absurd (of_end (trip_end z0 other new_at m) e (end_unreferred variables z0 other refl refl refl new_named new_at m v.0))

  -- an access of an iteration is made likewise in the old one
  abbrev old_turns : ℕ → List Turn
  old_turns i = turns_of (frame e0 i ∷ scope)

  abbrev new_turns : ℕ → List Turn
  new_turns i = turns_of (frame (in_new ((i - 1) / K + 1)) ((i - 1) % K + 1) ∷ scope_new ((i - 1) / K + 1))

  record IsOfTrip (b : Access) : Type 0 where
    number : ℕ
    from : 1 ≤ number
    to : number ≤ e0.count
    origin : Access
    in_trip : IsIn origin (accesses (old_trip number))
    likewise : IsMadeLikewise names nothing own_number (old_turns number) (new_turns number) origin b

  named : NamesScalars names
  named = record { element = λ y js. refl; input = refl; output = refl }

  block_comes : (m n : ℕ) (a : Act) (b : Access) → IsIn (block m n) its_weave.new → IsIn a (new_trip m) → IsIn b (accesses_of a) → 0 < b.reference → IsOfTrip b
  block_comes m n a b i j k referred =
      let within = stand.new_known t l loop K w q x data_bytes ends scope other beside front behind s executed goes m n i in
      go within.0 within.1
      (likewise_accesses names nothing named (λ c e. absurd cc) own_number (old_turns m) (new_turns m) (old_trip m) (new_trip m)
      (stand.done t l loop K w q x data_bytes ends scope other beside front behind s executed goes m within.0 within.1).likewise b (accesses_in (new_trip m) a b j k))
    where
      unreferred : (told : IsOnlyTold (new_trip m) b) → b.reference ≡ 0
      unreferred told =
          ap (λ (z : Access). z.reference) told.is
          ∙ told_is_unreferred q (alone new_loop) l other s told.by
          (subst (λ (acts : List Act). IsIn told.by acts) (sym (ap (λ (y : Run). y.acts) (run_alone q new_loop l other s) ∙ is_new)) (inr (in_knots its_weave.others its_weave.new m n told.by i told.found)))
          told.touch told.among told.manner

      go : 1 ≤ m → m ≤ e0.count → ((y : Access) × IsIn y (accesses (old_trip m)) × IsMadeLikewise names nothing own_number (old_turns m) (new_turns m) y b) ⊎ IsOnlyTold (new_trip m) b → IsOfTrip b
      go from to (inl y) = record { number = m; from = from; to = to; origin = y.0; in_trip = y.1; likewise = y.2 }
      go from to (inr told) = let none = unreferred told in absurd (omega (arith, none, referred))

  -- where an access comes from
  data Comes (b : Access) : Type 0 where
    of_entry : IsOfEntry b → Comes b
    of_fixed : ReadsFixed t l scope b → Comes b
    of_trip : IsOfTrip b → Comes b

  access_comes : (b : Access) → IsIn b (accesses new_acts) → 0 < b.reference → Comes b
  access_comes b i referred = let a = accesses_from new_acts b i in by a.0 (subst (λ (acts : List Act). IsIn a.0 acts) is_new a.1) a.2
    where
      by : (a : Act) → IsIn a (new_entry ∷ new_list its_weave) → IsIn b (accesses_of a) → Comes b
      by a (inl e) j = of_entry (entry_comes a b e j referred)
      by a (inr k) j = elim (of_knots its_weave.others its_weave.new a k) [
        | inl r ↦ of_fixed (control_reads r.acts a b r.stands r.among j referred)
        | inr r ↦ of_trip (block_comes r.one r.other a b r.stands r.among j referred)
      ]

  module _ (b : Access) (m : IsOfTrip b) where
    abbrev i : ℕ
    i = m.number

    abbrev strip_turn : Turn
    strip_turn = (frame z0 ((m.number - 1) / K + 1)).turn

    abbrev inner_turn : Turn
    inner_turn = (frame (in_new ((m.number - 1) / K + 1)) ((m.number - 1) % K + 1)).turn

    place : b.place.turns ≡ turns_of scope ++ strip_turn ∷ (inner_turn ∷ m.likewise.more)
    place =
        m.likewise.new ∙ ap (λ (more : List Turn). new_turns m.number ++ more) (same_turns m.likewise.more)
        ∙ ap (λ (ts : List Turn). ((ts ++ strip_turn ∷ []) ++ inner_turn ∷ []) ++ m.likewise.more) beside.turns
        ∙ append_assoc (turns_of scope ++ strip_turn ∷ []) (inner_turn ∷ []) m.likewise.more ∙ append_assoc (turns_of scope) (strip_turn ∷ []) (inner_turn ∷ m.likewise.more)

    was : m.origin.place.turns ≡ turns_of scope ++ (frame e0 m.number).turn ∷ m.likewise.more
    was = m.likewise.old ∙ append_assoc (turns_of scope) ((frame e0 m.number).turn ∷ []) m.likewise.more

    cell_named : b.cell ≡ names m.origin.cell
    cell_named = elim m.likewise.cell [ inl e ↦ e | inr e ↦ absurd (let none : false ≡ true = e.0 in cc) ]

    found : IsIn m.origin (accesses old_acts)
    found =
        let a = accesses_from (old_trip m.number) m.origin m.in_trip in
        accesses_in old_acts a.0 m.origin (stand.trip_in_run t l loop K w q x data_bytes ends scope other beside front behind s executed goes m.number m.from m.to a.0 a.1) a.2

    reached : StripReached p scope l (q.number (l + 1)) K e0.count m.origin.cell
    reached =
        let a = accesses_from (old_trip m.number) m.origin m.in_trip in
        let v = touch_of a.0 a.0.touches m.origin a.2 in
        subst (StripReached p scope l (q.number (l + 1)) K e0.count) (ap (λ (z : Access). z.cell) (sym v.3))
        (stand.reached_trip t l loop K w q x data_bytes ends scope other beside front behind s executed goes m.number m.from m.to a.0 a.1 v.0 v.1)

    comes_from : ComesFrom t l scope old_acts b
    comes_from = record {
      origin = m.origin;
      found = found;
      writes = sym m.likewise.writes;
      extra = strip_turn ∷ (inner_turn ∷ m.likewise.more);
      place = place;
      whose = λ u more k. (let turn : strip_turn ≡ u = cc in ap (λ (z : Turn). z.statement) (sym turn)) ∙ x.counts.outer;
      old_extra = (frame e0 m.number).turn ∷ m.likewise.more;
      was = was;
      both = λ u more k. ((frame e0 m.number).turn, m.likewise.more, refl, refl);
      cell = elim (strips_or_stays p scope l (q.number (l + 1)) K m.origin.cell) [
        | inl stays ↦ inl (sym (cell_named ∙ stays))
        | inr moved ↦ inr (subst (IsOfLoop p scope l) (sym cell_named) (strips_inside p scope l (q.number (l + 1)) K m.origin.cell moved))
      ];
    }

    in_place : ((m.number - 1) / K + 1 - 1) * K + ((m.number - 1) % K + 1) ≡ m.number
    in_place =
        let bounds = (stand.old t l loop K w q x data_bytes ends scope other beside front behind s executed goes).bounds in
        let many = stand.count_is t l loop K w q x data_bytes ends scope other beside front behind s executed goes in
        let high = m.to in
        (is_in_strip K x.some bounds.first bounds.last m.number m.from (omega (arith, high, many))).is

  -- two that race come from two that race
  trips_meet : (b c : Access) (m : IsOfTrip b) (n : IsOfTrip c) → b.cell ≡ c.cell → b.writes || c.writes ≡ true → are_apart b.place.turns c.place.turns ≡ true → RaceBefore old_acts b c
  trips_meet b c m n cells writing apart = record {
    one = m.origin;
    other = n.origin;
    one_in = found b m;
    other_in = found c n;
    cells = strips_apart p scope l (q.number (l + 1)) K e0.count m.origin.cell n.origin.cell (reached b m) (reached c n) (sym (cell_named b m) ∙ cells ∙ cell_named c n);
    writes = (λ z. sym m.likewise.writes z || sym n.likewise.writes z) ∙ writing;
    apart =
        (λ z. are_apart (was b m z) (was c n z)) ∙ apart_same (turns_of scope) ((frame e0 m.number).turn ∷ m.likewise.more) ((frame e0 n.number).turn ∷ n.likewise.more)
        ∙ apart_further (frame e0 m.number).turn (frame e0 n.number).turn m.likewise.more n.likewise.more refl same_number second.1;
  }
    where
      within : are_apart (strip_turn b m ∷ (inner_turn b m ∷ m.likewise.more)) (strip_turn c n ∷ (inner_turn c n ∷ n.likewise.more)) ≡ true
      within =
          sym (apart_same (turns_of scope) (strip_turn b m ∷ (inner_turn b m ∷ m.likewise.more)) (strip_turn c n ∷ (inner_turn c n ∷ n.likewise.more)))
          ∙ (λ z. are_apart (sym (place b m) z) (sym (place c n) z)) ∙ apart

      first : ((m.number - 1) / K + 1 ≡ (n.number - 1) / K + 1) × (are_apart (inner_turn b m ∷ m.likewise.more) (inner_turn c n ∷ n.likewise.more) ≡ true)
      first = in_one_iteration (strip_turn b m) (strip_turn c n) (inner_turn b m ∷ m.likewise.more) (inner_turn c n ∷ n.likewise.more) refl within

      second : ((m.number - 1) % K + 1 ≡ (n.number - 1) % K + 1) × (are_apart m.likewise.more n.likewise.more ≡ true)
      second = in_one_iteration (inner_turn b m) (inner_turn c n) m.likewise.more n.likewise.more x.can.serial first.1

      same_number : m.number ≡ n.number
      same_number = sym (in_place b m) ∙ (λ z. (first.0 z - 1) * K + second.0 z) ∙ in_place c n

  pub free_strips : AreRaceFree t l scope old_acts new_acts
  free_strips = record {
    comes = λ b i referred. by_source b (access_comes b i referred);
    meets = λ b c i j one two cells writing apart. by b c cells writing apart (access_comes b i one) (access_comes c j two);
    unwritten = unwritten;
  }
    where
      by_source : (b : Access) → Comes b → ReadsFixed t l scope b ⊎ ComesFrom t l scope old_acts b
      by_source b (of_entry e) = inr e.comes
      by_source b (of_fixed f) = inl f
      by_source b (of_trip m) = inr (comes_from b m)

      swap_or : (a b : Bool) → a || b ≡ true → b || a ≡ true
      swap_or true true e = refl
      swap_or true false e = refl
      swap_or false true e = refl
      swap_or false false e = e

      extra_of : (c : Access) → Comes c → (extra : List Turn) × (c.place.turns ≡ turns_of scope ++ extra)
      extra_of c (of_entry e) = ([], e.place ∙ sym (append-nil (turns_of scope)))
      extra_of c (of_fixed f) = (f.extra, f.place)
      extra_of c (of_trip m) = (strip_turn c m ∷ (inner_turn c m ∷ m.likewise.more), place c m)

      first_entry : (b c : Access) → IsOfEntry b → Comes c → are_apart b.place.turns c.place.turns ≡ true → ⊥
      first_entry b c e k apart = let r = extra_of c k in round_first (turns_of scope) r.0 ((λ i. are_apart (sym e.place i) (sym r.1 i)) ∙ apart)

      second_entry : (b c : Access) → Comes b → IsOfEntry c → are_apart b.place.turns c.place.turns ≡ true → ⊥
      second_entry b c k e apart = let r = extra_of b k in round_second (turns_of scope) r.0 ((λ i. are_apart (sym r.1 i) (sym e.place i)) ∙ apart)

      by : (b c : Access) → b.cell ≡ c.cell → b.writes || c.writes ≡ true → are_apart b.place.turns c.place.turns ≡ true → Comes b → Comes c → RaceBefore old_acts b c
      by b c cells writing apart (of_entry e) k = absurd (first_entry b c e k apart)
      by b c cells writing apart (of_fixed f) (of_entry e) = absurd (second_entry b c (of_fixed f) e apart)
      by b c cells writing apart (of_trip m) (of_entry e) = absurd (second_entry b c (of_trip m) e apart)
      by b c cells writing apart (of_fixed f) (of_fixed r) = absurd (both_ways c.writes r.reading (only_second b.writes c.writes writing f.reading))
      by b c cells writing apart (of_fixed f) (of_trip n) = absurd (origin_leaves t l scope old_acts c (comes_from c n) unwritten (subst (IsOfFixed p.constants t l) cells f.fixed) (only_second b.writes c.writes writing f.reading))
      by b c cells writing apart (of_trip m) (of_fixed r) = absurd (origin_leaves t l scope old_acts b (comes_from b m) unwritten (subst (IsOfFixed p.constants t l) (sym cells) r.fixed) (only_second c.writes b.writes (swap_or b.writes c.writes writing) r.reading))
      by b c cells writing apart (of_trip m) (of_trip n) = trips_meet b c m n cells writing apart
