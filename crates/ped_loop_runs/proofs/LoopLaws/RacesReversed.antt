-- A DO whose iterations are done from the last to the first makes no race: accesses that race in the new run come from accesses that race in the old one.
use Rattle.std.proofs.Common.{◌≡◌, ◌⊎◌, ℕ, ◌≤◌, ◌<◌, List, [], ◌∷◌, ◌++◌, map, length, Bool, true, false, ◌&&◌, ◌||◌, eqb, eqb-true, if◌then◌else◌, refl, sym, ap, ◌∙◌, subst, inl, inr, arith, append_assoc, append-nil}
use Rattle.std.specs.Str.Lines.{lines}
use Rattle.std.proofs.lemmas.Bool.{and_parts, both_ways}
use Rattle.ped_bodies.specs.ped_flow.specs.ped_tree.specs.Tree.{Head, StmtTrees, Do, ProgramTree}
use Rattle.ped_bodies.specs.ped_flow.specs.ped_tree.specs.Numbering.{statements_count}
use Rattle.ped_bodies.specs.ped_flow.specs.PlainBounds.{nest_round}
use Rattle.ped_bodies.specs.ped_flow.specs.Questions.{LoopOf}
use Rattle.ped_bodies.specs.ped_store.specs.Cells.{Cell, Iteration, same_cell}
use Rattle.ped_bodies.specs.ped_store.specs.Stores.{Store, store_at_start}
use Rattle.ped_bodies.specs.ped_store.specs.Acts.{Turn, Act, iterations_of}
use Rattle.ped_bodies.specs.ped_store.specs.Races.{Access, accesses, are_apart, race, HasNoRace}
use Rattle.ped_bodies.specs.ped_eval.specs.Loops.{Entered, frame}
use Rattle.ped_bodies.specs.ped_eval.specs.Scopes.{Setting, Scope, turns_of}
use Rattle.ped_bodies.specs.ped_eval.specs.Outcomes.{setting_of, run_of}
use Rattle.ped_bodies.specs.ped_eval.specs.Runs.{Run, run_all}
use Rattle.ped_bodies.specs.ped_laws.specs.Acts.Orders.{IsIn, StandsBefore}
use Rattle.ped_bodies.specs.ped_laws.specs.Acts.Pieces.{Part, old_parts, new_parts}
use Rattle.ped_bodies.specs.ped_laws.specs.Runs.Replaying.{goes_on, finish_of}
use Rattle.ped_bodies.specs.ped_laws.proofs.ActLaws.Lists.{first_in, second_in}
use Rattle.ped_bodies.specs.ped_laws.proofs.ActLaws.SameCells.{cell_is, is_cell}
use Rattle.ped_bodies.specs.ped_laws.proofs.ActLaws.Conflicting.{accesses_in}
use Rattle.ped_bodies.specs.ped_laws.proofs.RunLaws.Turning.{At}
use Rattle.ped_bodies.specs.ped_steps.specs.Replacing.{alone}
use Rattle.ped_bodies.specs.ped_steps.specs.Runs.Renumbering.{renumbered_turn}
use Rattle.ped_bodies.specs.ped_steps.proofs.RunLaws.AccessTouches.{accesses_from, touch_of}
use Rattle.ped_bodies.specs.ped_weaves.specs.Sources.{RaceSomewhere}
use Rattle.ped_bodies.specs.ped_weaves.proofs.WeaveLaws.RaceSources.{pairs_free}
use Rattle.ped_loop_runs.specs.Executions.{StandsInside, LeaveCopies, IsExecuted}
use Rattle.ped_loop_runs.specs.Pasting.{IsExchanged, AreExchanged}
use Rattle.ped_loop_runs.proofs.PastingLaws.LeftCopies.{body_reaches}
use Rattle.ped_bodies.specs.Moving.{own_number}
use Rattle.ped_bodies.specs.Trips.{bounds_seen, entered_from}
use Rattle.ped_loop_runs.specs.OneForOne.{trip_of, trip_names, IsOneForOne, IsMadeInstead}
use Rattle.ped_loop_runs.proofs.LoopLaws.ApartTurns.{number_itself, apart_inside, apart_within, apart_same, none_behind, front_apart, iterations_append, turns_long, same_fronts}
use Rattle.ped_loop_runs.proofs.LoopLaws.ChangedPairs.{Change, Give, in_acts, pairs_give}
use Rattle.ped_loop_runs.proofs.LoopLaws.RacesByReferences.{told_is_unreferred, by_references}
use Rattle.ped_loop_runs.proofs.LoopLaws.OneForOneRaces.{IsKept, IsMadeInTrip, execution_made}
use Rattle.ped_loop_runs.proofs.LoopLaws.OneForOneCells.{IsOfLoop, stays_or_moves, moves_inside, Reached, names_apart}
use Rattle.ped_loop_runs.proofs.LoopLaws.OldRaces.{acts_outside, round_apart}
use Rattle.ped_loop_runs.proofs.LoopLaws.OldRaces as origins

-- turns under their own numbers are the same
same_turns : (more : List Turn) → map (renumbered_turn own_number) more ≡ more
same_turns [] = refl
same_turns (t ∷ more) = ap (λ (rest : List Turn). t ∷ rest) (same_turns more)

module _ (t u : ProgramTree) (l : ℕ) (loop : LoopOf t l) (h : Head) (x : IsOneForOne t u l loop h true) (data_bytes : List ℕ) where
  abbrev p : Setting
  p = setting_of t

  abbrev d : Head
  d = loop.head

  abbrev body : StmtTrees
  body = loop.body

  abbrev start : Store
  start = store_at_start (lines data_bytes)

  abbrev olds : List Act
  olds = (run_of t data_bytes).acts

  abbrev news : List Act
  news = (run_of u data_bytes).acts

  abbrev piece : Scope → Store → Run
  piece = run_all p (alone (Do d body)) l

  abbrev fresh : Scope → Store → List Act
  fresh scope s = (run_all p (alone (Do h body)) l scope s).acts

  abbrev count : ℕ
  count = statements_count (alone (Do d body))

  -- two new accesses that race
  abbrev Race : Access → Access → Type 0
  Race = origins.Race t (setting_of u) u.body data_bytes

  abbrev flipped : (b c : Access) → origins.Race t (setting_of u) u.body data_bytes b c → origins.Race t (setting_of u) u.body data_bytes c b
  flipped = origins.flipped t (setting_of u) u.body data_bytes

  -- two old ones that they come from race
  somewhere : (b c y z : Access) → Race b c → IsIn y (accesses olds) → IsIn z (accesses olds) → y.cell ≡ b.cell → z.cell ≡ c.cell → y.writes ≡ b.writes → z.writes ≡ c.writes → are_apart y.place.turns z.place.turns ≡ true → RaceSomewhere olds
  somewhere b c y z r i j cell other w v apart = origins.somewhere t (setting_of u) u.body data_bytes y z i j (cell ∙ r.cells ∙ sym other) ((λ k. w k || v k) ∙ r.writing) apart

  both_kept : (b c : Access) → Race b c → IsKept olds b → IsKept olds c → RaceSomewhere olds
  both_kept b c r f g = somewhere b c f.origin g.origin r f.found g.found f.cell g.cell f.writes g.writes ((λ k. are_apart (f.turns k) (g.turns k)) ∙ r.apart)

  kept_there : (acts : List Act) (b : Access) → ((a : Act) → IsIn a acts → IsIn a olds) → IsKept acts b → IsKept olds b
  kept_there acts b sub k =
      let a = accesses_from acts k.origin k.found in
      record { origin = k.origin; found = accesses_in olds a.0 k.origin (sub a.0 a.1) a.2; cell = k.cell; writes = k.writes; turns = k.turns; referred = k.referred }

  module _ (instead : (scope : Scope) (front behind : List Act) (s : Store) → IsExecuted p t start l count scope front (piece scope s).acts behind s → finish_of (piece scope s).ending ≡ goes_on → IsMadeInstead p d h body l true scope s) where
    -- an execution, among the acts of the run
    record Execution : Type 0 where
      scope : Scope
      store : Store
      front : List Act
      behind : List Act
      executed : IsExecuted p t start l count scope front (piece scope store).acts behind store
      goes : finish_of (piece scope store).ending ≡ goes_on
      sub : (a : Act) → IsIn a (piece scope store).acts → IsIn a olds
      within : (a : Act) → IsIn a (fresh scope store) → IsIn a news

    module _ (y : Execution) where
      abbrev made : IsMadeInstead p d h body l true y.scope y.store
      made = instead y.scope y.front y.behind y.store y.executed y.goes

      abbrev e : Entered
      e = entered_from p d body l y.scope y.store made.old.bounds

      abbrev z : Entered
      z = entered_from p h body l y.scope y.store made.trips.bounds

      abbrev round : List Turn
      round = turns_of y.scope

      -- the access is of the entry or of what leaves the DO, or of a trip
      abbrev AtLoop : Access → Type 0
      AtLoop b = IsKept (piece y.scope y.store).acts b × (b.place.turns ≡ round)

      abbrev InTrip : Access → Type 0
      InTrip b = IsMadeInTrip t start (piece y.scope y.store).acts l loop h true y.scope y.store made b

      comes : (b : Access) → IsIn b (accesses (fresh y.scope y.store)) → 0 < b.reference → AtLoop b ⊎ InTrip b
      comes b i some =
          let a = accesses_from (fresh y.scope y.store) b i in
          execution_made t start (piece y.scope y.store).acts l loop h true x.private y.scope y.store y.front y.behind y.executed y.goes made (λ c k. k) news y.within (λ c k v j q. told_is_unreferred (setting_of u) u.body 1 [] start c k v j q) a.0 b a.1 a.2 some

      abbrev Outside : List Turn → Type 0
      Outside ts = StandsInside p y.scope l count ts → ⊥

      -- what is done before or behind it stands outside
      apart_acts : (acts : List Act) → LeaveCopies p y.scope l count acts → (c : Access) → IsIn c (accesses acts) → Outside c.place.turns
      apart_acts = acts_outside p y.scope l count

      kept_outside : (acts : List Act) → LeaveCopies p y.scope l count acts → (c : Access) → IsKept acts c → Outside c.place.turns
      kept_outside acts leave c k = subst Outside k.turns (apart_acts acts leave k.origin k.found)

      -- the iteration of the DO that an access of a trip stands in, and what it was
      module _ (b : Access) (k : InTrip b) where
        abbrev old_turn : Turn
        old_turn = (frame e (trip_of true e.count k.number)).turn

        abbrev new_turn : Turn
        new_turn = (frame z k.number).turn

        there : b.place.turns ≡ round ++ new_turn ∷ k.likewise.more
        there = k.likewise.new ∙ ap (λ (more : List Turn). turns_of (frame z k.number ∷ y.scope) ++ more) (same_turns k.likewise.more) ∙ append_assoc round (new_turn ∷ []) k.likewise.more

        were : k.origin.place.turns ≡ round ++ old_turn ∷ k.likewise.more
        were = k.likewise.old ∙ append_assoc round (old_turn ∷ []) k.likewise.more

        named : b.cell ≡ trip_names true (iterations_of round) l e.count k.origin.cell
        named = elim k.likewise.cell [ inl q ↦ q | inr q ↦ absurd (let none : false ≡ true = q.0 in cc) ]

        found : IsIn k.origin (accesses olds)
        found = let a = accesses_from (piece y.scope y.store).acts k.origin k.found in accesses_in olds a.0 k.origin (y.sub a.0 a.1) a.2

        -- an access that stands outside is apart from the iterations round the DO, and the cell has its name
        side : (c : Access) → Race b c → Outside c.place.turns → (are_apart round c.place.turns ≡ true) × (k.origin.cell ≡ b.cell)
        side c r outside = (apart, cell (stays_or_moves p y.scope l e.count true k.origin.cell))
          where
            some : 0 < count
            some = omega arith

            apart : are_apart round c.place.turns ≡ true
            apart = round_apart t y.scope l count some b c r.apart outside (new_turn ∷ k.likewise.more) there (λ v more e. inl (let same : new_turn ≡ v = cc in ap (λ (z : Turn). z.statement) (sym same)))

            reached : (w : Cell) → c.cell ≡ w → IsOfLoop p y.scope l w → ⊥
            reached w q moved = front_apart round c.place.turns _ (subst (λ (v : Cell). At c.place.turns v) (q ∙ moved.is) (origins.reaches t (setting_of u) u.body data_bytes c r.other)) apart

            cell : (trip_names true (iterations_of round) l e.count k.origin.cell ≡ k.origin.cell) ⊎ IsOfLoop p y.scope l k.origin.cell → k.origin.cell ≡ b.cell
            cell (inl stays) = sym (named ∙ stays)
            cell (inr moved) = absurd (reached (trip_names true (iterations_of round) l e.count k.origin.cell) (sym r.cells ∙ named) (moves_inside p y.scope l e.count true k.origin.cell moved))

        -- one of a trip, and one that stays as it was
        trip_kept : (c : Access) → Race b c → IsKept olds c → Outside c.place.turns → RaceSomewhere olds
        trip_kept c r g outside =
            let s = side c r outside in
            somewhere b c k.origin g.origin r found g.found s.1 g.cell (sym k.likewise.writes) g.writes
            ((λ i. are_apart (were i) (g.turns i)) ∙ ap (are_apart (round ++ old_turn ∷ k.likewise.more)) (sym (append-nil c.place.turns)) ∙ apart_inside round c.place.turns (old_turn ∷ k.likewise.more) [] s.0)

        -- what it touched before is reached from its trip
        was_reached : Reached p y.scope l e.count k.origin.cell
        was_reached =
            let n = trip_of true e.count k.number in
            let from = k.from in
            let to = k.to in
            let same_count = made.trips.count in
            let low : 1 ≤ n = omega (arith, to, same_count) in
            let high : n ≤ e.count = omega (arith, from) in
            let it = made.old.are n low high in
            let a = accesses_from (made.old.trip n) k.origin k.in_trip in
            let v = touch_of a.0 a.0.touches k.origin a.2 in
            subst (Reached p y.scope l e.count) (ap (λ (w : Access). w.cell) (sym v.3))
            (elim (body_reaches p l d body (bounds_seen p d y.scope y.store) made.old.bounds y.scope n _ a.0 (subst (λ (acts : List Act). IsIn a.0 acts) it.is a.1) v.0 v.1) [
              | inl own ↦ inl own
              | inr r ↦ inr (n, low, high, r.name, r.rest, r.is)
            ])

        -- two of trips of one execution
        trip_trip : (c : Access) (m : InTrip c) → c.place.turns ≡ round ++ (frame z m.number).turn ∷ m.likewise.more → m.origin.place.turns ≡ round ++ (frame e (trip_of true e.count m.number)).turn ∷ m.likewise.more
            → c.cell ≡ trip_names true (iterations_of round) l e.count m.origin.cell → IsIn m.origin (accesses olds) → Reached p y.scope l e.count m.origin.cell → Race b c → RaceSomewhere olds
        trip_trip c m its was cell found_there its_reached r = record {
          one = k.origin;
          other = m.origin;
          one_in = found;
          other_in = found_there;
          apart = (apart, origins.turned_apart t (setting_of u) u.body data_bytes k.origin m.origin found found_there apart);
          conflicting = let alike = is_cell k.origin.cell m.origin.cell origin_cells in let some : k.origin.writes || m.origin.writes ≡ true = (λ i. sym k.likewise.writes i || sym m.likewise.writes i) ∙ r.writing in λ i. alike i && some i;
        }
          where
            origin_cells : k.origin.cell ≡ m.origin.cell
            origin_cells = names_apart p y.scope l e.count true k.origin.cell m.origin.cell was_reached its_reached (sym named ∙ r.cells ∙ cell)

            inner : are_apart (new_turn ∷ k.likewise.more) ((frame z m.number).turn ∷ m.likewise.more) ≡ true
            inner = sym (apart_same round (new_turn ∷ k.likewise.more) ((frame z m.number).turn ∷ m.likewise.more)) ∙ (λ i. are_apart (sym there i) (sym its i)) ∙ r.apart

            by : (b' : Bool) → eqb k.number m.number ≡ b' → (if b' then are_apart k.likewise.more m.likewise.more else h.parallel) ≡ true → are_apart (old_turn ∷ k.likewise.more) ((frame e (trip_of true e.count m.number)).turn ∷ m.likewise.more) ≡ true
            by true q more =
                let number : k.number ≡ m.number = eqb-true k.number m.number q in
                let alike : eqb (trip_of true e.count k.number) (trip_of true e.count m.number) ≡ true = ap (λ (j : ℕ). eqb (trip_of true e.count k.number) (trip_of true e.count j)) (sym number) ∙ number_itself (trip_of true e.count k.number) in
                λ i. number_itself l i && (if alike i then more i else d.parallel)
            by false q more = absurd (both_ways h.parallel (x.in_turn refl).1 more)

            apart : are_apart k.origin.place.turns m.origin.place.turns ≡ true
            apart =
                (λ i. are_apart (were i) (was i)) ∙ apart_same round (old_turn ∷ k.likewise.more) ((frame e (trip_of true e.count m.number)).turn ∷ m.likewise.more)
                ∙ by (eqb k.number m.number) refl (and_parts (eqb l l) (if eqb k.number m.number then are_apart k.likewise.more m.likewise.more else h.parallel) inner).1

      -- two accesses of one execution
      one_execution : (b c : Access) → Race b c → AtLoop b ⊎ InTrip b → AtLoop c ⊎ InTrip c → RaceSomewhere olds
      one_execution b c r (inl f) (inl g) = both_kept b c r (kept_there (piece y.scope y.store).acts b y.sub f.0) (kept_there (piece y.scope y.store).acts c y.sub g.0)
      one_execution b c r (inl f) (inr m) =
          absurd (none_behind ((frame z m.number).turn ∷ m.likewise.more)
          (sym (apart_same round ((frame z m.number).turn ∷ m.likewise.more) []) ∙ (λ i. are_apart (sym (there c m) i) (append-nil round i)) ∙ (λ i. are_apart c.place.turns (sym f.1 i)) ∙ r.back))
      one_execution b c r (inr k) (inl g) =
          absurd (none_behind ((frame z k.number).turn ∷ k.likewise.more)
          (sym (apart_same round ((frame z k.number).turn ∷ k.likewise.more) []) ∙ (λ i. are_apart (sym (there b k) i) (append-nil round i)) ∙ (λ i. are_apart b.place.turns (sym g.1 i)) ∙ r.apart))
      one_execution b c r (inr k) (inr m) = trip_trip b k c m (there c m) (were c m) (named c m) (found c m) (was_reached c m) r

    -- one of a trip stands outside another execution, if what it comes from does
    trip_outside : (y w : Execution) (c : Access) (m : InTrip w c) → Outside y m.origin.place.turns → Outside y c.place.turns
    trip_outside y w c m outside k =
        outside (record {
          statement = l;
          from = omega arith;
          to = omega arith;
          number = (old_turn w c m).number;
          rest = iterations_of m.likewise.more;
          is = ap iterations_of (were w c m) ∙ iterations_append (round w) (old_turn w c m ∷ m.likewise.more) ∙ ap (λ (is : List Iteration). is ++ iterations_of (old_turn w c m ∷ m.likewise.more)) same_round;
        })
      where
        long : length (round w) ≡ length (round y)
        long = turns_long p.number (nest_round t l) (round w) w.executed.place.turns ∙ sym (turns_long p.number (nest_round t l) (round y) y.executed.place.turns)

        same_round : iterations_of (round w) ≡ iterations_of (round y)
        same_round =
            (same_fronts (λ (v : Turn). record { statement = v.statement; number = v.number }) (round w) (round y) (iterations_of (new_turn w c m ∷ m.likewise.more)) (record { statement = p.number k.statement; number = k.number } ∷ k.rest) long
            (sym (iterations_append (round w) (new_turn w c m ∷ m.likewise.more)) ∙ ap iterations_of (sym (there w c m)) ∙ k.is)).0

    -- two executions, the first one before the second
    record AreSuccessive (y w : Execution) : Type 0 where
      before : (a : Act) → IsIn a (piece y.scope y.store).acts → IsIn a w.front
      after : (a : Act) → IsIn a (piece w.scope w.store).acts → IsIn a y.behind

    kept_more : (acts others : List Act) (c : Access) → ((a : Act) → IsIn a acts → IsIn a others) → IsKept acts c → IsKept others c
    kept_more acts others c sub k = record { origin = k.origin; found = in_acts acts others k.origin sub k.found; cell = k.cell; writes = k.writes; turns = k.turns; referred = k.referred }

    two_executions : (y w : Execution) → AreSuccessive y w → (b c : Access) → Race b c → AtLoop y b ⊎ InTrip y b → AtLoop w c ⊎ InTrip w c → RaceSomewhere olds
    two_executions y w s b c r (inl f) (inl g) = both_kept b c r (kept_there (piece y.scope y.store).acts b y.sub f.0) (kept_there (piece w.scope w.store).acts c w.sub g.0)
    two_executions y w s b c r (inl f) (inr m) =
        trip_kept w c m b (flipped b c r) (kept_there (piece y.scope y.store).acts b y.sub f.0) (kept_outside w w.front w.executed.unused_before b (kept_more (piece y.scope y.store).acts w.front b s.before f.0))
    two_executions y w s b c r (inr k) (inl g) =
        trip_kept y b k c r (kept_there (piece w.scope w.store).acts c w.sub g.0) (kept_outside y y.behind y.executed.unused_behind c (kept_more (piece w.scope w.store).acts y.behind c s.after g.0))
    two_executions y w s b c r (inr k) (inr m) =
        let of_c = side y b k c r (trip_outside y w c m (apart_acts y y.behind y.executed.unused_behind m.origin (in_acts (piece w.scope w.store).acts y.behind m.origin s.after m.found))) in
        let of_b = side w c m b (flipped b c r) (trip_outside w y b k (apart_acts w w.front w.executed.unused_before k.origin (in_acts (piece y.scope y.store).acts w.front k.origin s.before k.found))) in
        let long : length (round y) ≡ length (round w) = turns_long p.number (nest_round t l) (round y) y.executed.place.turns ∙ sym (turns_long p.number (nest_round t l) (round w) w.executed.place.turns) in
        let rounds : are_apart (round y) (round w) ≡ true = apart_within (round y) (round w) (new_turn w c m ∷ m.likewise.more) long ((λ i. are_apart (round y) (sym (there w c m) i)) ∙ of_c.0) in
        somewhere b c k.origin m.origin r (found y b k) (found w c m) of_c.1 of_b.1 (sym k.likewise.writes) (sym m.likewise.writes)
        ((λ i. are_apart (were y b k i) (were w c m i)) ∙ apart_inside (round y) (round w) (old_turn y b k ∷ k.likewise.more) (old_turn w c m ∷ m.likewise.more) rounds)

    referred_kept : (acts : List Act) (c : Access) → IsIn c (accesses acts) → 0 < c.reference → IsKept acts c
    referred_kept acts c i some = record { origin = c; found = i; cell = refl; writes = refl; turns = refl; referred = some }

    -- two new accesses by references that race
    abbrev Meet : Access → Access → Type 0
    Meet b c = Race b c × (0 < b.reference) × (0 < c.reference)

    abbrev By : List Act → List Act → Store → List Act → List Act → Type 0
    By = IsExchanged p t start l count piece fresh

    abbrev execution_of : Change By olds news → Execution
    execution_of y = record {
      scope = y.by.scope;
      store = y.store;
      front = y.front;
      behind = y.behind;
      executed = y.by.executed;
      goes = y.by.goes;
      sub = λ a i. y.sub a (subst (λ (acts : List Act). IsIn a acts) (sym y.by.old_is) i);
      within = λ a i. y.within a (subst (λ (acts : List Act). IsIn a acts) (sym y.by.new_is) i);
    }

    comes_of : (y : Change By olds news) (b : Access) → IsIn b (accesses y.new) → 0 < b.reference → AtLoop (execution_of y) b ⊎ InTrip (execution_of y) b
    comes_of y b i some = comes (execution_of y) b (subst (λ (acts : List Act). IsIn b (accesses acts)) y.by.new_is i) some

    stays_before : (y : Change By olds news) (b c : Access) → Meet b c → IsIn b (accesses y.front) → IsIn b (accesses olds) → AtLoop (execution_of y) c ⊎ InTrip (execution_of y) c → RaceSomewhere olds
    stays_before y b c m i j (inl g) = both_kept b c m.0 (referred_kept olds b j m.1) (kept_there (piece y.by.scope y.store).acts c (execution_of y).sub g.0)
    stays_before y b c m i j (inr k) =
        trip_kept (execution_of y) c k b (flipped b c m.0) (referred_kept olds b j m.1) (kept_outside (execution_of y) y.front y.by.executed.unused_before b (referred_kept y.front b i m.1))

    stays_behind : (y : Change By olds news) (b c : Access) → Meet b c → AtLoop (execution_of y) b ⊎ InTrip (execution_of y) b → IsIn c (accesses y.behind) → IsIn c (accesses olds) → RaceSomewhere olds
    stays_behind y b c m (inl f) i j = both_kept b c m.0 (kept_there (piece y.by.scope y.store).acts b (execution_of y).sub f.0) (referred_kept olds c j m.2)
    stays_behind y b c m (inr k) i j =
        trip_kept (execution_of y) b k c m.0 (referred_kept olds c j m.2) (kept_outside (execution_of y) y.behind y.by.executed.unused_behind c (referred_kept y.behind c i m.2))

    -- two new accesses that race come from two old ones that do
    give : Give By olds news Meet (RaceSomewhere olds)
    give = record {
      kept = λ b c m i j. both_kept b c m.0 (referred_kept olds b i m.1) (referred_kept olds c j m.2);
      before = λ y b c m i j k. stays_before y b c m i j (comes_of y c k m.2);
      behind = λ y b c m k i j. stays_behind y b c m (comes_of y b k m.1) i j;
      inside = λ y b c m i j. one_execution (execution_of y) b c m.0 (comes_of y b i m.1) (comes_of y c j m.2);
      between = λ y w s b c m i j. two_executions (execution_of y) (execution_of w)
          (record {
            before = λ a k. s.before a (subst (λ (acts : List Act). IsIn a acts) (sym y.by.old_is) k);
            after = λ a k. s.after a (subst (λ (acts : List Act). IsIn a acts) (sym w.by.old_is) k);
          }) b c m.0 (comes_of y b i m.1) (comes_of w c j m.2);
    }

    pub races_reversed : (parts : List Part) → old_parts parts ≡ olds → AreExchanged p t start l count piece fresh [] parts [] start → new_parts parts ≡ news → HasNoRace (accesses (old_parts parts)) → HasNoRace (accesses (new_parts parts))
    races_reversed parts olds_are exchanged news_are free =
        subst (λ (acts : List Act). HasNoRace (accesses acts)) (sym news_are)
        (pairs_free olds news race_before (subst (λ (acts : List Act). HasNoRace (accesses acts)) olds_are free))
      where
        race_before : (b c : Access) → StandsBefore b c (accesses news) → race b c ≡ true → RaceSomewhere olds
        race_before b c before races =
            let i = first_in b c (accesses news) before in
            let j = second_in b c (accesses news) before in
            let r = by_references u x.new_valid data_bytes b c i j races in
            let parts_of = and_parts (same_cell b.cell c.cell) (b.writes || c.writes) r.4 in
            pairs_give By olds news Meet (RaceSomewhere olds) give [] parts [] start exchanged (λ a k. subst (λ (acts : List Act). IsIn a acts) olds_are k) (λ a k. subst (λ (acts : List Act). IsIn a acts) news_are k) b c
            (subst (λ (acts : List Act). StandsBefore b c (accesses acts)) (sym news_are) before)
            (record { one = i; other = j; apart = r.2; back = r.3; cells = cell_is b.cell c.cell parts_of.0; writing = parts_of.1 }, r.0, r.1)
