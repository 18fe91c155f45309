-- Where the accesses of the one DO come from, in one execution of the two: those of its entry and its end from those of the first one, and those of a body from that body, in the same iteration.
use Rattle.std.proofs.Common.{List, [], ap, append-nil, append_assoc, arith, inl, inr, refl, subst, sym, true, ℕ, ◌++◌, ◌+◌, ◌<◌, ◌||◌, ◌∙◌, ◌∷◌, ◌≡◌, ◌≤◌, ◌⊎◌}
use Rattle.std.proofs.lemmas.Bool.{cases_lt}
use Rattle.std.specs.Str.Lines.{lines}
use Rattle.ped_tree.specs.Numbering.{statements_count}
use Rattle.ped_tree.specs.Tree.{Do, ProgramTree, StmtTrees}
use Rattle.ped_rules.specs.ped_loop_runs.proofs.LoopLaws.ApartTurns.{apart_first, apart_further, apart_same, in_one_iteration, iterations_append, none_behind, none_within}
use Rattle.ped_rules.proofs.NestLaws.ExchangedRaces.{RaceBefore}
use Rattle.ped_rules.proofs.NestLaws.WovenAccesses.{same_turns}
use Rattle.ped_rules.specs.ped_loop_runs.proofs.LoopLaws.LoopParts.{IsControl, IsExit, act_of_loop, exit_of, trip_among}
use Rattle.ped_rules.specs.ped_loop_runs.proofs.LoopLaws.RacesByReferences.{told_is_unreferred}
use Rattle.ped_rules.specs.ped_loop_runs.proofs.PastingLaws.LeftCopies.{all_leave}
use Rattle.ped_rules.specs.ped_loop_runs.specs.Executions.{IsExecuted}
use Rattle.ped_rules.specs.ped_bodies.proofs.BodyLaws.LikewiseAccesses.{likewise_accesses}
use Rattle.ped_rules.specs.ped_bodies.proofs.BodyLaws.MovedCells.{moved_names}
use Rattle.ped_rules.specs.ped_bodies.specs.Likewise.{IsMadeLikewise, IsOnlyTold, Meet}
use Rattle.ped_rules.specs.ped_bodies.specs.Moving.{in_loop, own_number}
use Rattle.ped_rules.specs.ped_bodies.specs.Trips.{IsMadeOfTrips, bounds_seen, loop_acts, loop_entry}
use Rattle.ped_rules.specs.ped_steps.proofs.RunLaws.AccessTouches.{touch_of, accesses_from}
use Rattle.ped_rules.specs.ped_steps.specs.Runs.Renumbering.{renumbered}
use Rattle.ped_rules.specs.ped_laws.proofs.ActLaws.Conflicting.{access_by, access_in, accesses_in}
use Rattle.ped_rules.specs.ped_laws.proofs.ActLaws.Lists.{in_left, in_parts, in_right}
use Rattle.ped_rules.specs.ped_laws.specs.Acts.Fitting.{store_after}
use Rattle.ped_rules.specs.ped_laws.specs.Acts.Orders.{IsIn}
use Rattle.ped_rules.specs.ped_laws.specs.Acts.Sets.{nothing}
use Rattle.ped_rules.specs.ped_laws.specs.Runs.Replaying.{finish_of, goes_on}
use Rattle.ped_rules.specs.ped_eval.specs.Evaluation.{Seen}
use Rattle.ped_rules.specs.ped_eval.specs.Loops.{Entered, frame}
use Rattle.ped_rules.specs.ped_eval.specs.Outcomes.{setting_of}
use Rattle.ped_rules.specs.ped_eval.specs.Runs.{run, run_all}
use Rattle.ped_rules.specs.ped_eval.specs.Scopes.{Scope, Setting, place_of, turns_of}
use Rattle.ped_rules.specs.ped_store.specs.Acts.{Act, Place, Touch, Turn, iterations_of}
use Rattle.ped_rules.specs.ped_store.specs.Cells.{Cell}
use Rattle.ped_rules.specs.ped_store.specs.Races.{Access, accesses, accesses_of, are_apart, is_access}
use Rattle.ped_rules.specs.ped_store.specs.Stores.{Store, store_at_start}
use Rattle.ped_splits.proofs.JoinFacts.{AreJoined, both_loops, one_loop}
use Rattle.ped_splits.proofs.JoinNames.{IsReached, moved_or_not, names_apart, same_loop}
use Rattle.ped_splits.proofs.JoinNumbers.{pair_count}
use Rattle.ped_splits.proofs.JoinParts.{pair_acts}
use Rattle.ped_splits.proofs.JoinTouches.{first_cells, first_stay, numbers_rise, second_cells}
use Rattle.ped_splits.proofs.SplitRaces.{AreRaceFree, ComesFrom}
use Rattle.ped_rules.specs.KeepMaps.{opened_at}
use Rattle.ped_splits.proofs.JoinRuns as runs

-- iterations round others are apart from none of them
round_first : (round extra : List Turn) → are_apart round (round ++ extra) ≡ true → ⊥
round_first round extra apart = none_within extra (sym (apart_same round [] extra) ∙ (λ i. are_apart (append-nil round i) (round ++ extra)) ∙ apart)

round_second : (round extra : List Turn) → are_apart (round ++ extra) round ≡ true → ⊥
round_second round extra apart = none_behind extra (sym (apart_same round extra []) ∙ (λ i. are_apart (round ++ extra) (append-nil round i)) ∙ apart)

heads : (a b : Turn) (us vs : List Turn) → a ∷ us ≡ b ∷ vs → a ≡ b
heads a b us vs e = cc

-- further inside an iteration an act of statements stands in an iteration of one of them
inner_within : (p : Setting) → ((k : ℕ) → p.number k ≡ k) → (ts : StmtTrees) (n : ℕ) (S : Scope) (v : Store) (a : Act) → IsIn a (run_all p ts n S v).acts → (w : Turn) (more : List Turn) → a.place.turns ≡ turns_of S ++ w ∷ more → (n ≤ w.statement) × (w.statement < n + statements_count ts)
inner_within p own ts n S v a i w more turns = elim (cases_lt w.statement n) [
  | inl below ↦ absurd (outside (inr (omega (arith, below))))
  | inr low ↦ elim (cases_lt w.statement (n + statements_count ts)) [
    | inl high ↦ (low, high)
    | inr above ↦ absurd (outside (inl above))
  ]
]
  where
    outside : (n + statements_count ts ≤ w.statement) ⊎ (w.statement + 1 ≤ n) → ⊥
    outside apart =
        (all_leave p (λ b c same. sym (own b) ∙ same ∙ own c) ts n S v w.statement 1 apart a i).1
        (record {
          statement = w.statement;
          from = omega arith;
          to = omega arith;
          number = w.number;
          rest = iterations_of more;
          is = ap iterations_of turns ∙ iterations_append (turns_of S) (w ∷ more) ∙ (λ r. iterations_of (turns_of S) ++ record { statement = sym (own w.statement) r; number = w.number } ∷ iterations_of more);
        })

module _ (t u : ProgramTree) (s : ℕ) (x : AreJoined t u s) (data_bytes : List ℕ) (scope : Scope) (front behind : List Act) (v : Store)
    (executed : IsExecuted (setting_of t) t (store_at_start (lines data_bytes)) s (statements_count (both_loops x)) scope front (run_all (setting_of t) (both_loops x) s scope v).acts behind v)
    (goes : finish_of (run_all (setting_of t) (both_loops x) s scope v).ending ≡ goes_on)
    (its_acts : (run_all (renumbered (opened_at (s + 1 + statements_count x.own_body)) (setting_of t)) (one_loop x) s scope v).acts ≡ runs.new_acts t u s x data_bytes scope front behind v executed goes) where
  abbrev p : Setting
  p = setting_of t

  abbrev q : Setting
  q = renumbered (opened_at (s + 1 + statements_count x.own_body)) (setting_of t)

  abbrev m : ℕ
  m = s + 1 + statements_count x.own_body

  abbrev size : ℕ
  size = statements_count (both_loops x)

  abbrev e : Entered
  e = runs.e t u s x data_bytes scope front behind v executed goes

  abbrev e2 : Entered
  e2 = runs.e2 t u s x data_bytes scope front behind v executed goes

  abbrev z : Entered
  z = runs.z t u s x data_bytes scope front behind v executed goes

  abbrev seen : List Seen
  seen = runs.seen t u s x data_bytes scope front behind v executed goes

  abbrev old : IsMadeOfTrips (setting_of t) x.own x.own_body s scope v
  old = runs.old t u s x data_bytes scope front behind v executed goes

  abbrev other : IsMadeOfTrips (setting_of t) x.next x.next_body (s + 1 + statements_count x.own_body) scope (store_after (run (setting_of t) (Do x.own x.own_body) s scope v).acts v)
  other = runs.other t u s x data_bytes scope front behind v executed goes

  abbrev names : Cell → Cell
  names = runs.second_names t u s x data_bytes scope front behind v executed goes

  abbrev new_part : ℕ → ℕ → List Act
  new_part = runs.new_part t u s x data_bytes scope front behind v executed goes

  abbrev new_trip : ℕ → List Act
  new_trip = runs.new_trip t u s x data_bytes scope front behind v executed goes

  abbrev at_old : Place
  at_old = place_of (setting_of t) s scope

  abbrev at_new : Place
  at_new = place_of (renumbered (opened_at (s + 1 + statements_count x.own_body)) (setting_of t)) s scope

  abbrev pair : List Act
  pair = (run_all (setting_of t) (both_loops x) s scope v).acts

  abbrev new_acts : List Act
  new_acts = (run_all (renumbered (opened_at (s + 1 + statements_count x.own_body)) (setting_of t)) (one_loop x) s scope v).acts

  abbrev by_trips : List Act
  by_trips = loop_acts seen e scope at_old old.trip

  abbrev second_seen : List Seen
  second_seen = bounds_seen (setting_of t) x.next scope (store_after (run (setting_of t) (Do x.own x.own_body) s scope v).acts v)

  abbrev by_second : List Act
  by_second = loop_acts second_seen e2 scope (place_of (setting_of t) (s + 1 + statements_count x.own_body) scope) other.trip

  in_first : (a : Act) → IsIn a by_trips → IsIn a pair
  in_first a i = subst (IsIn a) (sym (pair_acts t u s x scope v goes)) (in_left a (run p (Do x.own x.own_body) s scope v).acts _ (subst (IsIn a) (sym old.acts) i))

  in_second : (a : Act) → IsIn a by_second → IsIn a pair
  in_second a i = subst (IsIn a) (sym (pair_acts t u s x scope v goes)) (in_right a (run p (Do x.own x.own_body) s scope v).acts _ (subst (IsIn a) (sym other.acts) i))

  -- an access of the entry or the end of the one DO is made by those of the first one
  record IsOfHead (b : Access) : Type 0 where
    origin : Access
    found_there : IsIn origin (accesses pair)
    cell : origin.cell ≡ b.cell
    writes : origin.writes ≡ b.writes
    was : origin.place.turns ≡ turns_of scope
    place : b.place.turns ≡ turns_of scope

  head_access : (by : Act) → IsIn by by_trips → by.place ≡ at_old → (a : Act) (b : Access) (y : Touch) → a.place.turns ≡ turns_of scope → IsIn y by.touches → is_access y ≡ true → b ≡ access_by a y → IsOfHead b
  head_access by i at a b y there k access is = record {
    origin = access_by by y;
    found_there = accesses_in pair by (access_by by y) (in_first by i) (access_in by by.touches y k access);
    cell = ap (λ (r : Access). r.cell) (sym is);
    writes = ap (λ (r : Access). r.writes) (sym is);
    was = ap (λ (r : Place). r.turns) at;
    place = ap (λ (r : Access). r.place.turns) is ∙ there;
  }

  entry_comes : (a : Act) (b : Access) → a ≡ loop_entry seen z scope at_new → IsIn b (accesses_of a) → IsOfHead b
  entry_comes a b same j =
      let y = touch_of a a.touches b j in
      head_access (loop_entry seen e scope at_old) (inl refl) refl a b y.0 (ap (λ (r : Act). r.place.turns) same) (subst (λ (r : Act). IsIn y.0 r.touches) same y.1) y.2 y.3

  old_exit : IsExit seen e scope at_old old.trip
  old_exit = exit_of seen e scope at_old old.trip

  end_comes : (a : Act) (b : Access) → IsControl seen z scope at_new new_trip a → IsIn b (accesses_of a) → IsOfHead b
  end_comes a b control j =
      let y = touch_of a a.touches b j in
      head_access old_exit.by old_exit.found old_exit.place a b y.0 (ap (λ (r : Place). r.turns) control.place) (old_exit.has y.0 (control.touches y.0 y.1)) y.2 y.3

  -- an access of a body is made likewise by that body in the same iteration of its DO
  record IsOfPart (b : Access) : Type 0 where
    number : ℕ
    origin : Access
    found_there : IsIn origin (accesses pair)
    writes : origin.writes ≡ b.writes
    turn : Turn
    more : List Turn
    which : (turn ≡ (frame e number).turn) ⊎ (turn ≡ (frame e2 number).turn)
    was : origin.place.turns ≡ turns_of scope ++ turn ∷ more
    place : b.place.turns ≡ turns_of scope ++ (frame z number).turn ∷ more
    low : s ≤ turn.statement
    high : turn.statement < s + size
    cell : b.cell ≡ names origin.cell
    reached : IsReached p scope s m (numbers_rise t u s x data_bytes scope front behind v executed goes) origin.cell
    inner : (w : Turn) (rest : List Turn) → more ≡ w ∷ rest → ((turn ≡ (frame e number).turn) × (w.statement < m)) ⊎ ((turn ≡ (frame e2 number).turn) × (m < w.statement))

  in_new : (i : ℕ) → 1 ≤ i → i ≤ e.count → (a : Act) → IsIn a (new_trip i) → IsIn a new_acts
  in_new i from to a j = subst (IsIn a) (sym its_acts) (trip_among seen z scope at_new new_trip i from to a j)

  unreferred : (acts : List Act) → ((a : Act) → IsIn a acts → IsIn a new_acts) → (b : Access) → IsOnlyTold acts b → b.reference ≡ 0
  unreferred acts among b told = ap (λ (r : Access). r.reference) told.is ∙ told_is_unreferred q (one_loop x) s scope v told.by (among told.by told.found) told.touch told.among told.manner

  named : (name : Cell → Cell) (c d : Cell) → Meet name nothing c d → d ≡ name c
  named name c d (inl same) = same
  named name c d (inr none) = let never = none.0 in absurd cc

  size_is : size ≡ statements_count x.own_body + statements_count x.next_body + 2
  size_is = pair_count t u s x

  first_comes : (i : ℕ) → 1 ≤ i → i ≤ e.count → (b : Access) → IsIn b (accesses (new_part i 0)) → 0 < b.reference → IsOfPart b
  first_comes i from to b j referred = go (likewise_accesses firsts nothing (moved_names (iterations_of (turns_of scope)) (in_loop s s)) (λ c none. absurd cc) own_number turns others (old.trip i) (new_part i 0) done.likewise b j)
    where
      firsts : Cell → Cell
      firsts = runs.first_names t u s x data_bytes scope front behind v executed goes

      turns : List Turn
      turns = turns_of (frame e i ∷ scope)

      others : List Turn
      others = turns_of (frame z i ∷ scope)

      done : runs.IsFirstDone t u s x data_bytes scope front behind v executed goes i (new_part i 0)
      done = runs.first_done t u s x data_bytes scope front behind v executed goes i from to

      go : ((y : Access) × IsIn y (accesses (old.trip i)) × IsMadeLikewise firsts nothing own_number turns others y b) ⊎ IsOnlyTold (new_part i 0) b → IsOfPart b
      go (inr told) = let none = unreferred (new_part i 0) (λ a k. in_new i from to a (in_left a (new_part i 0) (new_part i 1) k)) b told in absurd (omega (arith, none, referred))
      go (inl r) =
          let a = accesses_from (old.trip i) r.0 r.1 in
          let y = touch_of a.0 a.0.touches r.0 a.2 in
          let like = r.2 in
          let was_there : r.0.place.turns ≡ turns_of scope ++ (frame e i).turn ∷ like.more = like.old ∙ append_assoc (turns_of scope) ((frame e i).turn ∷ []) like.more in
          let many = size_is in
          let stays : names r.0.cell ≡ r.0.cell = ap names (ap (λ (w : Access). w.cell) y.3) ∙ first_stay t u s x data_bytes scope front behind v executed goes i from to a.0 a.1 y.0 y.1 ∙ ap (λ (w : Access). w.cell) (sym y.3) in
          let itself_at : (frame e i).turn.statement ≡ s = refl in
          record {
            number = i;
            origin = r.0;
            found_there = accesses_in pair a.0 r.0 (in_first a.0 (trip_among seen e scope at_old old.trip i from to a.0 a.1)) a.2;
            writes = sym like.writes;
            turn = (frame e i).turn;
            more = like.more;
            which = inl refl;
            was = was_there;
            place = like.new ∙ ap (λ (rest : List Turn). others ++ rest) (same_turns like.more) ∙ append_assoc (turns_of scope) ((frame z i).turn ∷ []) like.more;
            low = omega (arith, itself_at);
            high = omega (arith, itself_at, many);
            cell = named firsts r.0.cell b.cell like.cell ∙ same_loop p scope s r.0.cell ∙ sym stays;
            reached = subst (IsReached p scope s m (numbers_rise t u s x data_bytes scope front behind v executed goes)) (ap (λ (w : Access). w.cell) (sym y.3)) (first_cells t u s x data_bytes scope front behind v executed goes i from to a.0 a.1 y.0 y.1);
            inner = λ w rest is. (
                let it = old.are i from to in
                let place_is : a.0.place.turns ≡ r.0.place.turns = ap (λ (o : Access). o.place.turns) (sym y.3) in
                let k = inner_within p (λ n. refl) x.own_body (s + 1) (frame e i ∷ scope) _ a.0 (subst (IsIn a.0) it.is a.1) w rest (place_is ∙ like.old ∙ ap (λ (ts : List Turn). turns ++ ts) is) in
                let below = k.1 in
                inl (refl, omega (arith, below))
                );
          }

  second_comes : (i : ℕ) → 1 ≤ i → i ≤ e.count → (b : Access) → IsIn b (accesses (new_part i 1)) → 0 < b.reference → IsOfPart b
  second_comes i from to b j referred = go (likewise_accesses names nothing (moved_names (iterations_of (turns_of scope)) (in_loop m s)) (λ c none. absurd cc) own_number turns others (other.trip i) (new_part i 1) done.likewise b j)
    where
      turns : List Turn
      turns = turns_of (frame e2 i ∷ scope)

      others : List Turn
      others = turns_of (frame z i ∷ scope)

      within : i ≤ e2.count
      within = let many = runs.counts t u s x data_bytes scope front behind v executed goes in omega (arith, to, many)

      done : runs.IsSecondDone t u s x data_bytes scope front behind v executed goes i (new_part i 1)
      done = runs.second_done t u s x data_bytes scope front behind v executed goes i from to

      go : ((y : Access) × IsIn y (accesses (other.trip i)) × IsMadeLikewise names nothing own_number turns others y b) ⊎ IsOnlyTold (new_part i 1) b → IsOfPart b
      go (inr told) = let none = unreferred (new_part i 1) (λ a k. in_new i from to a (in_right a (new_part i 0) (new_part i 1) k)) b told in absurd (omega (arith, none, referred))
      go (inl r) =
          let a = accesses_from (other.trip i) r.0 r.1 in
          let y = touch_of a.0 a.0.touches r.0 a.2 in
          let like = r.2 in
          let many = size_is in
          let at_next : (frame e2 i).turn.statement ≡ m = refl in
          record {
            number = i;
            origin = r.0;
            found_there = accesses_in pair a.0 r.0 (in_second a.0 (trip_among second_seen e2 scope (place_of p m scope) other.trip i from within a.0 a.1)) a.2;
            writes = sym like.writes;
            turn = (frame e2 i).turn;
            more = like.more;
            which = inr refl;
            was = like.old ∙ append_assoc (turns_of scope) ((frame e2 i).turn ∷ []) like.more;
            place = like.new ∙ ap (λ (rest : List Turn). others ++ rest) (same_turns like.more) ∙ append_assoc (turns_of scope) ((frame z i).turn ∷ []) like.more;
            low = omega (arith, at_next);
            high = omega (arith, at_next, many);
            cell = named names r.0.cell b.cell like.cell;
            reached = subst (IsReached p scope s m (numbers_rise t u s x data_bytes scope front behind v executed goes)) (ap (λ (w : Access). w.cell) (sym y.3)) (second_cells t u s x data_bytes scope front behind v executed goes i from to a.0 a.1 y.0 y.1);
            inner = λ w rest is. (
                let it = other.are i from within in
                let place_is : a.0.place.turns ≡ r.0.place.turns = ap (λ (o : Access). o.place.turns) (sym y.3) in
                let k = inner_within p (λ n. refl) x.next_body (m + 1) (frame e2 i ∷ scope) _ a.0 (subst (IsIn a.0) it.is a.1) w rest (place_is ∙ like.old ∙ ap (λ (ts : List Turn). turns ++ ts) is) in
                let above = k.0 in
                inr (refl, omega (arith, above))
                );
          }

  -- each access by a reference comes so
  access_comes : (b : Access) → IsIn b (accesses new_acts) → 0 < b.reference → IsOfHead b ⊎ IsOfPart b
  access_comes b i referred =
      let a = accesses_from new_acts b i in
      elim (act_of_loop seen z scope at_new new_trip a.0 (subst (IsIn a.0) its_acts a.1)) [
        | inl entry ↦ inl (entry_comes a.0 b entry a.2)
        | inr rest ↦ elim rest [
          | inl trip ↦ elim (in_parts a.0 (new_part trip.number 0) (new_part trip.number 1) trip.there) [
            | inl one ↦ inr (first_comes trip.number trip.from trip.to b (accesses_in (new_part trip.number 0) a.0 b one a.2) referred)
            | inr two ↦ inr (second_comes trip.number trip.from trip.to b (accesses_in (new_part trip.number 1) a.0 b two a.2) referred)
          ]
          | inr leaving ↦ inl (end_comes a.0 b leaving a.2)
        ]
      ]

  part_comes : (b : Access) → IsOfPart b → ComesFrom t s size scope pair b
  part_comes b r = record {
    origin = r.origin;
    found = r.found_there;
    writes = r.writes;
    extra = (frame z r.number).turn ∷ r.more;
    place = r.place;
    whose = λ w more k. inl (ap (λ (i : Turn). i.statement) (sym (heads (frame z r.number).turn w r.more more k)));
    old_extra = r.turn ∷ r.more;
    was = r.was;
    both = λ w more k. (r.turn, r.more, refl, r.low, r.high);
    cell = elim (moved_or_not p scope m s r.origin.cell) [
      | inl stays ↦ inl (sym stays ∙ sym r.cell)
      | inr moves ↦ inr (moves.name, record { statement = s; number = moves.number }, moves.rest, r.cell ∙ moves.is)
    ];
  }

  head_comes : (b : Access) → IsOfHead b → ComesFrom t s size scope pair b
  head_comes b h = record {
    origin = h.origin;
    found = h.found_there;
    writes = h.writes;
    extra = [];
    place = h.place ∙ sym (append-nil (turns_of scope));
    whose = λ w more k. absurd cc;
    old_extra = [];
    was = h.was ∙ sym (append-nil (turns_of scope));
    both = λ w more k. absurd cc;
    cell = inl h.cell;
  }

  -- two that race come from two that race
  parts_meet : (b c : Access) (k : IsOfPart b) (r : IsOfPart c) → b.cell ≡ c.cell → b.writes || c.writes ≡ true → are_apart b.place.turns c.place.turns ≡ true → RaceBefore pair b c
  parts_meet b c k r cells writing apart = record {
    one = k.origin;
    other = r.origin;
    one_in = k.found_there;
    other_in = r.found_there;
    cells = names_apart p scope s m (numbers_rise t u s x data_bytes scope front behind v executed goes) k.origin.cell r.origin.cell k.reached r.reached (sym k.cell ∙ cells ∙ r.cell);
    writes = (λ i. k.writes i || r.writes i) ∙ writing;
    apart =
        (λ i. are_apart (k.was i) (r.was i)) ∙ apart_same (turns_of scope) (k.turn ∷ k.more) (r.turn ∷ r.more)
        ∙ apart_further k.turn r.turn k.more r.more (ap (λ (i : Turn). i.statement) same_turn) (ap (λ (i : Turn). i.number) same_turn) one.1;
  }
    where
      within : are_apart ((frame z k.number).turn ∷ k.more) ((frame z r.number).turn ∷ r.more) ≡ true
      within = sym (apart_same (turns_of scope) ((frame z k.number).turn ∷ k.more) ((frame z r.number).turn ∷ r.more)) ∙ (λ i. are_apart (sym k.place i) (sym r.place i)) ∙ apart

      one : (k.number ≡ r.number) × (are_apart k.more r.more ≡ true)
      one = in_one_iteration (frame z k.number).turn (frame z r.number).turn k.more r.more x.serial within

      -- they stand in iterations of one DO further inside, so both in one of the two
      from_inner : (more others : List Turn) → k.more ≡ more → r.more ≡ others → are_apart more others ≡ true → k.turn ≡ r.turn
      from_inner [] others a b h = absurd cc
      from_inner (w ∷ more) [] a b h = absurd cc
      from_inner (w ∷ more) (y ∷ others) a b h =
          let first = apart_first w more (y ∷ others) h in
          let same : w.statement ≡ y.statement = first.3 ∙ ap (λ (i : Turn). i.statement) (sym (heads y first.0 others first.1 first.2)) in
          by (k.inner w more a) (r.inner y others b) same
        where
          by : ((k.turn ≡ (frame e k.number).turn) × (w.statement < m)) ⊎ ((k.turn ≡ (frame e2 k.number).turn) × (m < w.statement)) → ((r.turn ≡ (frame e r.number).turn) × (y.statement < m)) ⊎ ((r.turn ≡ (frame e2 r.number).turn) × (m < y.statement)) → w.statement ≡ y.statement → k.turn ≡ r.turn
          by (inl f) (inl g) same = f.0 ∙ ap (λ (n : ℕ). (frame e n).turn) one.0 ∙ sym g.0
          by (inr f) (inr g) same = f.0 ∙ ap (λ (n : ℕ). (frame e2 n).turn) one.0 ∙ sym g.0
          by (inl f) (inr g) same = let low = f.1 in let high = g.1 in absurd (omega (arith, low, high, same))
          by (inr f) (inl g) same = let high = f.1 in let low = g.1 in absurd (omega (arith, low, high, same))

      same_turn : k.turn ≡ r.turn
      same_turn = from_inner k.more r.more refl refl one.1

  extra_of : (c : Access) → IsOfHead c ⊎ IsOfPart c → (extra : List Turn) × (c.place.turns ≡ turns_of scope ++ extra)
  extra_of c (inl h) = ([], h.place ∙ sym (append-nil (turns_of scope)))
  extra_of c (inr r) = ((frame z r.number).turn ∷ r.more, r.place)

  pub free_joined : AreRaceFree t s (statements_count (both_loops x)) scope (run_all (setting_of t) (both_loops x) s scope v).acts (run_all (renumbered (opened_at (s + 1 + statements_count x.own_body)) (setting_of t)) (one_loop x) s scope v).acts
  free_joined = record {
    comes = λ b i referred. elim (access_comes b i referred) [ inl h ↦ head_comes b h | inr r ↦ part_comes b r ];
    meets = λ b c i j one two cells writing apart. by b c cells writing apart (access_comes b i one) (access_comes c j two);
  }
    where
      by : (b c : Access) → b.cell ≡ c.cell → b.writes || c.writes ≡ true → are_apart b.place.turns c.place.turns ≡ true → IsOfHead b ⊎ IsOfPart b → IsOfHead c ⊎ IsOfPart c → RaceBefore pair b c
      by b c cells writing apart (inl h) k = let r = extra_of c k in absurd (round_first (turns_of scope) r.0 ((λ i. are_apart (sym h.place i) (sym r.1 i)) ∙ apart))
      by b c cells writing apart (inr r) (inl h) = absurd (round_second (turns_of scope) ((frame z r.number).turn ∷ r.more) ((λ i. are_apart (sym r.place i) (sym h.place i)) ∙ apart))
      by b c cells writing apart (inr k) (inr r) = parts_meet b c k r cells writing apart
