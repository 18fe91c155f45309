-- In each execution the accesses of the statements that take the place of a DO of which an iteration is peeled off come from those of the DO, and make no new race.
use Rattle.ped_rules.specs.ped_loop_runs.proofs.LoopLaws.ApartTurns.{apart_first, apart_further, apart_same, in_one_iteration}
use Rattle.ped_rules.proofs.NestLaws.ExchangedRaces.{RaceBefore}
use Rattle.ped_rules.specs.ped_loop_runs.proofs.LoopLaws.LoopParts.{IsOfTrip, act_of_loop, trip_among}
use Rattle.ped_rules.specs.ped_loop_runs.proofs.LoopLaws.RacesByReferences.{told_is_unreferred}
use Rattle.ped_rules.specs.ped_loop_runs.proofs.PastingLaws.LeftCopies.{own_apart}
use Rattle.ped_rules.specs.ped_loop_runs.specs.Executions.{IsExecuted}
use Rattle.ped_rules.specs.ped_bodies.proofs.BodyLaws.LikewiseAccesses.{likewise_accesses}
use Rattle.ped_rules.specs.ped_bodies.proofs.BodyLaws.MovedCells.{moved_names}
use Rattle.ped_rules.specs.ped_bodies.specs.Likewise.{IsOnlyTold, Meet, NamesScalars}
use Rattle.ped_rules.specs.ped_bodies.specs.Moving.{own_number, peeled}
use Rattle.ped_rules.specs.ped_bodies.specs.Trips.{bounds_seen, entered_from, loop_acts}
use Rattle.ped_rules.specs.ped_steps.proofs.RunLaws.AccessTouches.{touch_of, accesses_from}
use Rattle.ped_rules.specs.ped_steps.specs.Replacing.{alone}
use Rattle.ped_rules.specs.ped_steps.specs.Runs.Renumbering.{IsToldBack, renumbered, renumbered_turn}
use Rattle.ped_rules.specs.ped_flow.specs.Questions.{IsContained, LoopOf}
use Rattle.ped_rules.specs.ped_laws.proofs.ActLaws.Conflicting.{accesses_in}
use Rattle.ped_rules.specs.ped_laws.proofs.ActLaws.Lists.{in_left, in_right}
use Rattle.ped_rules.specs.ped_laws.specs.Acts.Orders.{IsIn}
use Rattle.ped_rules.specs.ped_laws.specs.Acts.Sets.{nothing}
use Rattle.ped_rules.specs.ped_laws.specs.Runs.Replaying.{finish_of, goes_on}
use Rattle.ped_rules.specs.ped_eval.specs.Loops.{Entered, frame}
use Rattle.ped_rules.specs.ped_eval.specs.Outcomes.{Ends, run_of, setting_of}
use Rattle.ped_rules.specs.ped_eval.specs.Runs.{run, run_all}
use Rattle.ped_rules.specs.ped_eval.specs.Scopes.{Scope, Setting, place_of, turns_of}
use Rattle.ped_rules.specs.ped_store.specs.Acts.{Act, Place, Touch, Turn, iterations_of}
use Rattle.ped_rules.specs.ped_store.specs.Cells.{Cell, Iteration, Private}
use Rattle.ped_rules.specs.ped_store.specs.Races.{Access, accesses, accesses_of, are_apart, is_lines}
use Rattle.ped_rules.specs.ped_store.specs.Stores.{Store, store_at_start}
use Rattle.ped_rules.specs.ped_symbols.specs.NameRefusals.{IsValid}
use Rattle.ped_reindex.proofs.PeelCells.{IsOfIt, IsReached, deep_names, names_differ, of_it_inside, own_numbers, stays_or_moves}
use Rattle.ped_reindex.proofs.PeelNumbers.{copied, copy_at, loop_at}
use Rattle.ped_reindex.proofs.PeelQuiet.{put_together}
use Rattle.ped_reindex.proofs.PeelRaces.{AreRaceFree, ComesInside}
use Rattle.ped_reindex.proofs.PeelRuns.{IsPeeledRun, old_trip, peel_names, which, which_within}
use Rattle.ped_reindex.proofs.PeelStands.{in_together, new_entry_quiet, new_exit_quiet, new_whole, peeled_acts, trip_reached}
use Rattle.ped_reindex.proofs.PeelTrusted.{left_head, left_parallel}
use Rattle.ped_rules.proofs.NameLaws.RenumberedRaces.{apart_alike}
use Rattle.ped_reindex.specs.Peeling.{Peeled, with_peeled}
use Rattle.ped_tree.specs.Numbering.{statements_count}
use Rattle.ped_tree.specs.Tree.{Do, Head, ProgramTree, StmtTree, StmtTrees}
use Rattle.std.proofs.Common.{Bool, List, [], ap, append_assoc, arith, false, inl, inr, map, refl, subst, sym, true, ℕ, ◌++◌, ◌+◌, ◌-◌, ◌<◌, ◌||◌, ◌∙◌, ◌∷◌, ◌≡◌, ◌≤◌, ◌⊎◌}
use Rattle.std.specs.Str.Lines.{lines}

-- copies count by numbers that tell the old ones
copied_back : (all : ℕ) → IsToldBack (copied all) (λ n. n - (all + 1))
copied_back all = record { back = λ n. omega arith }

no_idle_lines : (c : Cell) → nothing c ≡ true → is_lines c ≡ false
no_idle_lines c e = absurd cc

own_turns : (ts : List Turn) → map (renumbered_turn own_number) ts ≡ ts
own_turns [] = refl
own_turns (v ∷ ts) = ap (λ (us : List Turn). v ∷ us) (own_turns ts)

heads : (a b : Turn) (us vs : List Turn) → a ∷ us ≡ b ∷ vs → a ≡ b
heads a b us vs e = cc

-- iterations that count by new numbers are apart from no other DO
clash : (all s : ℕ) (more us : List Turn) (v : Turn) → v.statement ≡ s → s ≤ all → are_apart (map (renumbered_turn (copied all)) more) (v ∷ us) ≡ true → ⊥
clash all s [] us v is room h = absurd cc
clash all s (x ∷ more) us v is room h =
    let one = apart_first (renumbered_turn (copied all) x) (map (renumbered_turn (copied all)) more) (v ∷ us) h in
    let same : one.0 ≡ v = (let first : v ≡ one.0 = heads v one.0 us one.1 one.2 in sym first) in
    let statement : x.statement + (all + 1) ≡ s = one.3 ∙ ap (λ (y : Turn). y.statement) same ∙ is in
    omega (arith, statement, room)

clash_back : (all s : ℕ) (more us : List Turn) (v : Turn) → v.statement ≡ s → s ≤ all → are_apart (v ∷ us) (map (renumbered_turn (copied all)) more) ≡ true → ⊥
clash_back all s [] us v is room h = absurd cc
clash_back all s (x ∷ more) us v is room h =
    let one = apart_first v us (map (renumbered_turn (copied all)) (x ∷ more)) h in
    let same : renumbered_turn (copied all) x ≡ one.0 = heads (renumbered_turn (copied all) x) one.0 (map (renumbered_turn (copied all)) more) one.1 one.2 in
    let statement : s ≡ x.statement + (all + 1) = sym is ∙ one.3 ∙ ap (λ (y : Turn). y.statement) (sym same) in
    omega (arith, statement, room)

module _ (t : ProgramTree) (valid : IsValid t) (g : ℕ → ℕ) (last : Bool) (p : Peeled) (s : ℕ) (loop : LoopOf t s) (contained : IsContained t s) (serial : loop.head.parallel ≡ false) (private : loop.head.private ≡ [])
    (new_numbers : (x : ℕ) → s ≤ x → x < s + (statements_count loop.body + 1 + statements_count loop.body) → ((s ≤ g x) × (g x < s + (statements_count loop.body + 1))) ⊎ (statements_count t.body < g x))
    (room : s ≤ statements_count t.body) (data_bytes : List ℕ) (ends : Ends (run_of t data_bytes).ending) (own_place : g (loop_at last s (statements_count loop.body)) ≡ s) where
  abbrev o : Setting
  o = setting_of t

  abbrev q : Setting
  q = renumbered g (setting_of t)

  abbrev d : Head
  d = loop.head

  abbrev body : StmtTrees
  body = loop.body

  abbrev h : Head
  h = left_head last p.bound loop.head

  abbrev m : ℕ
  m = loop_at last s (statements_count loop.body)

  abbrev all : ℕ
  all = statements_count t.body

  abbrev old_loop : StmtTree
  old_loop = Do loop.head loop.body

  abbrev new : StmtTrees
  new = with_peeled last p loop.head loop.body

  abbrev start : Store
  start = store_at_start (lines data_bytes)

  abbrev size : ℕ
  size = statements_count (alone (Do loop.head loop.body))

  new_serial : h.parallel ≡ false
  new_serial = left_parallel last p.bound d ∙ serial

  module _ (scope : Scope) (front behind : List Act) (st : Store) (executed : IsExecuted o t start s size scope front (run o old_loop s scope st).acts behind st) (goes : finish_of (run o old_loop s scope st).ending ≡ goes_on)
      (r : IsPeeledRun t g last p loop.head loop.body s (loop_at last s (statements_count loop.body)) (copy_at last s (statements_count loop.body)) (statements_count t.body) scope st) where
    abbrev e : Entered
    e = entered_from o d body s scope st r.old.bounds

    abbrev z : Entered
    z = entered_from q h body m scope st r.bounds

    abbrev n : ℕ
    n = e.count

    abbrev k0 : ℕ
    k0 = which last e.count

    abbrev at : Place
    at = place_of o s scope

    abbrev new_at : Place
    new_at = place_of q m scope

    abbrev names : Cell → Cell
    names = peel_names scope s k0 all

    abbrev Reached : Cell → Type 0
    Reached c = IsReached o (own_numbers t) scope s n k0 all size room c

    abbrev new_loop : List Act
    new_loop = loop_acts (bounds_seen q h scope st) z scope new_at r.rest.fresh

    -- an access in an iteration of the old DO, and where the new one is made
    pub record IsMade (b : Access) : Type 0 where
      pub origin : Access
      pub trip : ℕ
      pub from : 1 ≤ trip
      pub to : trip ≤ n
      pub there : IsIn origin (accesses (r.old.trip trip))
      pub cell : b.cell ≡ names origin.cell
      pub writes : b.writes ≡ origin.writes
      pub more : List Turn
      pub was : origin.place.turns ≡ turns_of scope ++ (frame e trip).turn ∷ more
      pub is : ((trip ≡ k0) × (b.place.turns ≡ turns_of scope ++ map (renumbered_turn (copied all)) more)) ⊎ ((j : ℕ) × (trip ≡ old_trip last j) × (b.place.turns ≡ turns_of scope ++ (frame z j).turn ∷ more))

    name_laws : NamesScalars names
    name_laws = moved_names (iterations_of (turns_of scope)) (peeled s k0 (copied all))

    only_named : (x y : Cell) → Meet names nothing x y → y ≡ names x
    only_named x y (inl same) = same
    only_named x y (inr none) = let never = none.0 in absurd cc

    unreferred : (acts : List Act) → ((a : Act) → IsIn a acts → IsIn a (run_all q new s scope st).acts) → (b : Access) → IsOnlyTold acts b → b.reference ≡ 0
    unreferred acts sub b k = ap (λ (y : Access). y.reference) k.is ∙ told_is_unreferred q new s scope st k.by (sub k.by k.found) k.touch k.among k.manner

    k0_within : (1 ≤ k0) × (k0 ≤ n)
    k0_within = which_within last e.count r.others r.count

    trip_within : (j : ℕ) → 1 ≤ j → j ≤ z.count → (1 ≤ old_trip last j) × (old_trip last j ≤ n)
    trip_within j low high = go last
      where
        go : (b : Bool) → (1 ≤ old_trip b j) × (old_trip b j ≤ n)
        go false = let count = r.count in let many = r.new_count in (omega arith, omega (arith, high, count, many))
        go true = let count = r.count in let many = r.new_count in (low, omega (arith, high, count, many))

    no_reference : (b : Access) → 0 < b.reference → b.reference ≡ 0 → IsMade b
    no_reference b some none = absurd (omega (arith, some, none))

    of_taken : ((a : Act) → IsIn a r.taken.fresh → IsIn a (run_all q new s scope st).acts) → (b : Access) → IsIn b (accesses r.taken.fresh) → 0 < b.reference → IsMade b
    of_taken sub b i some = elim (likewise_accesses names nothing name_laws no_idle_lines (copied all) (turns_of (frame e k0 ∷ scope)) (turns_of scope) (r.old.trip k0) r.taken.fresh r.taken.likewise b i) [
      | inl made ↦ record {
        origin = made.0;
        trip = k0;
        from = k0_within.0;
        to = k0_within.1;
        there = made.1;
        cell = only_named made.0.cell b.cell made.2.cell;
        writes = made.2.writes;
        more = made.2.more;
        was = made.2.old ∙ append_assoc (turns_of scope) ((frame e k0).turn ∷ []) made.2.more;
        is = inl (refl, made.2.new);
      }
      | inr told ↦ no_reference b some (unreferred r.taken.fresh sub b told)
    ]

    quiet_reference : (a : Act) (b : Access) → IsIn b (accesses_of a) → ((v : Touch) → IsIn v a.touches → v.reference ≡ 0) → b.reference ≡ 0
    quiet_reference a b i none = let v = touch_of a a.touches b i in sym (ap (λ (y : Access). y.reference) (sym v.3)) ∙ none v.0 v.1

    of_rest : ((a : Act) → IsIn a new_loop → IsIn a (run_all q new s scope st).acts) → (b : Access) → IsIn b (accesses new_loop) → 0 < b.reference → IsMade b
    of_rest sub b i some =
        let found = accesses_from new_loop b i in
        elim (act_of_loop (bounds_seen q h scope st) z scope new_at r.rest.fresh found.0 found.1) [
          | inl entry ↦ no_reference b some
              (quiet_reference found.0 b found.2 (λ v k. (new_entry_quiet t valid g last p s loop contained serial private new_numbers room data_bytes ends scope front behind st executed goes r v (subst (λ (y : Act). IsIn v y.touches) entry k)).2))
          | inr other ↦ elim other [
            | inl trip ↦ in_trip found.0 trip (accesses_in (r.rest.fresh trip.number) found.0 b trip.there found.2)
            | inr leaving ↦ no_reference b some (quiet_reference found.0 b found.2 (λ v k. (new_exit_quiet t valid g last p s loop contained serial private new_numbers room data_bytes ends scope front behind st executed goes r v (leaving.touches v k)).2))
          ]
        ]
      where
        in_trip : (a : Act) (k : IsOfTrip (bounds_seen q h scope st) z scope new_at r.rest.fresh a) → IsIn b (accesses (r.rest.fresh k.number)) → IsMade b
        in_trip a k j =
            let within = trip_within k.number k.from k.to in
            elim (likewise_accesses names nothing name_laws no_idle_lines own_number (turns_of (frame e (old_trip last k.number) ∷ scope)) (turns_of (frame z k.number ∷ scope)) (r.old.trip (old_trip last k.number)) (r.rest.fresh k.number) (r.rest.likewise k.number k.from k.to) b j) [
              | inl made ↦ record {
                origin = made.0;
                trip = old_trip last k.number;
                from = within.0;
                to = within.1;
                there = made.1;
                cell = only_named made.0.cell b.cell made.2.cell;
                writes = made.2.writes;
                more = made.2.more;
                was = made.2.old ∙ append_assoc (turns_of scope) ((frame e (old_trip last k.number)).turn ∷ []) made.2.more;
                is = inr (k.number, refl, made.2.new ∙ append_assoc (turns_of scope) ((frame z k.number).turn ∷ []) (map (renumbered_turn own_number) made.2.more) ∙ ap (λ (ts : List Turn). turns_of scope ++ (frame z k.number).turn ∷ ts) (own_turns made.2.more));
              }
              | inr told ↦ no_reference b some (unreferred (r.rest.fresh k.number) (λ x y. sub x (trip_among (bounds_seen q h scope st) z scope new_at r.rest.fresh k.number k.from k.to x y)) b told)
            ]

    -- each access by a reference is made so
    made : (b : Access) → IsIn b (accesses (run_all q new s scope st).acts) → 0 < b.reference → IsMade b
    made b i some =
        let found = accesses_from (run_all q new s scope st).acts b i in
        by found.0 found.2 (in_together last found.0 r.taken.fresh new_loop (subst (IsIn found.0) whole found.1))
      where
        whole : (run_all q new s scope st).acts ≡ peeled_acts r
        whole = new_whole t valid g last p s loop contained serial private new_numbers room data_bytes ends scope front behind st executed goes r

        back : (a : Act) → IsIn a (put_together last r.taken.fresh new_loop) → IsIn a (run_all q new s scope st).acts
        back a j = subst (IsIn a) (sym whole) j

        first_in : (x : Bool) (a : Act) → IsIn a r.taken.fresh → IsIn a (put_together x r.taken.fresh new_loop)
        first_in false a j = in_left a r.taken.fresh new_loop j
        first_in true a j = in_right a new_loop r.taken.fresh j

        second_in : (x : Bool) (a : Act) → IsIn a new_loop → IsIn a (put_together x r.taken.fresh new_loop)
        second_in false a j = in_right a r.taken.fresh new_loop j
        second_in true a j = in_left a new_loop r.taken.fresh j

        by : (a : Act) → IsIn b (accesses_of a) → IsIn a r.taken.fresh ⊎ IsIn a new_loop → IsMade b
        by a j (inl k) = of_taken (λ x y. back x (first_in last x y)) b (accesses_in r.taken.fresh a b k j) some
        by a j (inr k) = of_rest (λ x y. back x (second_in last x y)) b (accesses_in new_loop a b k j) some

    -- what the origin touches
    origin_reached : (b : Access) (k : IsMade b) → Reached k.origin.cell
    origin_reached b k =
        let found = accesses_from (r.old.trip k.trip) k.origin k.there in
        let v = touch_of found.0 found.0.touches k.origin found.2 in
        subst Reached (sym (ap (λ (y : Access). y.cell) v.3)) (trip_reached t valid g last p s loop contained serial private new_numbers room data_bytes ends scope front behind st executed goes r k.trip k.from k.to found.0 found.1 v.0 v.1)

    -- and it is one of the DO's
    trip_part : (k : ℕ) → 1 ≤ k → k ≤ n → (x : Access) → IsIn x (accesses (r.old.trip k)) → IsIn x (accesses (run o old_loop s scope st).acts)
    trip_part k from to x i =
        let found = accesses_from (r.old.trip k) x i in
        accesses_in (run o old_loop s scope st).acts found.0 x (subst (IsIn found.0) (sym r.old.acts) (trip_among (bounds_seen o d scope st) e scope at r.old.trip k from to found.0 found.1)) found.2

    its_cell : (b : Access) (k : IsMade b) → (k.origin.cell ≡ b.cell) ⊎ ((x : List ℕ) × (i : Iteration) × (rest : List Iteration) × (b.cell ≡ Private x (iterations_of (turns_of scope) ++ i ∷ rest)))
    its_cell b k = elim (stays_or_moves o (own_numbers t) scope s n k0 all size room k.origin.cell) [
      | inl stays ↦ inl (sym stays ∙ sym k.cell)
      | inr moves ↦ by moves (origin_reached b k)
    ]
      where
        by : IsOfIt o (own_numbers t) scope s n k0 all size room k.origin.cell → Reached k.origin.cell → (k.origin.cell ≡ b.cell) ⊎ ((x : List ℕ) × (i : Iteration) × (rest : List Iteration) × (b.cell ≡ Private x (iterations_of (turns_of scope) ++ i ∷ rest)))
        by moves (inl own) = absurd (own_apart o scope s size k.origin.cell own (of_it_inside o (own_numbers t) scope s n k0 all size room size k.origin.cell (omega arith) moves))
        by moves (inr deep) = elim (deep_names o (own_numbers t) scope s n k0 all size room k.origin.cell deep) [
          | inl x ↦ inr (x.name, record { statement = s; number = x.number }, x.rest, k.cell ∙ x.is)
          | inr x ↦ inr (x.name, x.iteration, x.rest, k.cell ∙ x.is)
        ]

    comes : (b : Access) → IsIn b (accesses (run_all q new s scope st).acts) → 0 < b.reference → ComesInside t s scope (run o old_loop s scope st).acts b
    comes b i some = of_made (made b i some)
      where
        taken_first : (more : List Turn) (v : Turn) (us : List Turn) → map (renumbered_turn (copied all)) more ≡ v ∷ us → (v.statement ≡ s) ⊎ (statements_count t.body < v.statement)
        taken_first [] v us same = absurd cc
        taken_first (x ∷ more) v us same =
            let first : renumbered_turn (copied all) x ≡ v = cc in
            let number : x.statement + (all + 1) ≡ v.statement = ap (λ (y : Turn). y.statement) first in
            inr (omega (arith, number))

        rest_first : (j : ℕ) (more : List Turn) (v : Turn) (us : List Turn) → (frame z j).turn ∷ more ≡ v ∷ us → (v.statement ≡ s) ⊎ (statements_count t.body < v.statement)
        rest_first j more v us same = let first : (frame z j).turn ≡ v = cc in inl (ap (λ (y : Turn). y.statement) (sym first) ∙ own_place)

        of_made : IsMade b → ComesInside t s scope (run o old_loop s scope st).acts b
        of_made k = elim k.is [
          | inl taken ↦ record {
            origin = k.origin;
            found = trip_part k.trip k.from k.to k.origin k.there;
            writes = sym k.writes;
            extra = map (renumbered_turn (copied all)) k.more;
            place = taken.1;
            whose = taken_first k.more;
            old_turn = (frame e k.trip).turn;
            old_more = k.more;
            was = k.was;
            old_statement = refl;
            cell = its_cell b k;
          }
          | inr left ↦ record {
            origin = k.origin;
            found = trip_part k.trip k.from k.to k.origin k.there;
            writes = sym k.writes;
            extra = (frame z left.0).turn ∷ k.more;
            place = left.2;
            whose = rest_first left.0 k.more;
            old_turn = (frame e k.trip).turn;
            old_more = k.more;
            was = k.was;
            old_statement = refl;
            cell = its_cell b k;
          }
        ]

    -- two that race come from one iteration, and race there
    raced : (b c : Access) (k : IsMade b) (l : IsMade c) → k.trip ≡ l.trip → are_apart k.more l.more ≡ true → b.cell ≡ c.cell → b.writes || c.writes ≡ true → RaceBefore (run o old_loop s scope st).acts b c
    raced b c k l trips apart cells writing = record {
      one = k.origin;
      other = l.origin;
      one_in = trip_part k.trip k.from k.to k.origin k.there;
      other_in = trip_part l.trip l.from l.to l.origin l.there;
      cells = names_differ o (own_numbers t) scope s n k0 all size room k.origin.cell l.origin.cell (origin_reached b k) (origin_reached c l) (sym k.cell ∙ cells ∙ l.cell);
      writes = (λ i. sym k.writes i || sym l.writes i) ∙ writing;
      apart =
          (λ i. are_apart (k.was i) (l.was i))
          ∙ apart_same (turns_of scope) ((frame e k.trip).turn ∷ k.more) ((frame e l.trip).turn ∷ l.more)
          ∙ apart_further (frame e k.trip).turn (frame e l.trip).turn k.more l.more refl trips apart;
    }

    meets : (b c : Access) → IsIn b (accesses (run_all q new s scope st).acts) → IsIn c (accesses (run_all q new s scope st).acts) → 0 < b.reference → 0 < c.reference → b.cell ≡ c.cell → b.writes || c.writes ≡ true → are_apart b.place.turns c.place.turns ≡ true
        → RaceBefore (run o old_loop s scope st).acts b c
    meets b c i j some other cells writing apart = of_both (made b i some) (made c j other)
      where
        of_both : IsMade b → IsMade c → RaceBefore (run o old_loop s scope st).acts b c
        of_both k l = by k.is l.is
          where
            within : (xs ys : List Turn) → b.place.turns ≡ turns_of scope ++ xs → c.place.turns ≡ turns_of scope ++ ys → are_apart xs ys ≡ true
            within xs ys x y = sym (apart_same (turns_of scope) xs ys) ∙ (λ a. are_apart (sym x a) (sym y a)) ∙ apart

            by : ((k.trip ≡ k0) × (b.place.turns ≡ turns_of scope ++ map (renumbered_turn (copied all)) k.more)) ⊎ ((a : ℕ) × (k.trip ≡ old_trip last a) × (b.place.turns ≡ turns_of scope ++ (frame z a).turn ∷ k.more))
                → ((l.trip ≡ k0) × (c.place.turns ≡ turns_of scope ++ map (renumbered_turn (copied all)) l.more)) ⊎ ((a : ℕ) × (l.trip ≡ old_trip last a) × (c.place.turns ≡ turns_of scope ++ (frame z a).turn ∷ l.more)) → RaceBefore (run o old_loop s scope st).acts b c
            by (inl x) (inl y) =
                raced b c k l (x.0 ∙ sym y.0)
                (sym (apart_alike (copied all) (λ a. a - (all + 1)) (copied_back all) k.more l.more) ∙ within (map (renumbered_turn (copied all)) k.more) (map (renumbered_turn (copied all)) l.more) x.1 y.1) cells writing
            by (inl x) (inr y) = absurd (clash all s k.more l.more (frame z y.0).turn own_place room (within (map (renumbered_turn (copied all)) k.more) ((frame z y.0).turn ∷ l.more) x.1 y.2))
            by (inr x) (inl y) = absurd (clash_back all s l.more k.more (frame z x.0).turn own_place room (within ((frame z x.0).turn ∷ k.more) (map (renumbered_turn (copied all)) l.more) x.2 y.1))
            by (inr x) (inr y) =
                let inner = in_one_iteration (frame z x.0).turn (frame z y.0).turn k.more l.more new_serial (within ((frame z x.0).turn ∷ k.more) ((frame z y.0).turn ∷ l.more) x.2 y.2) in
                raced b c k l (x.1 ∙ ap (old_trip last) inner.0 ∙ sym y.1) inner.1 cells writing

    pub peeled_races : AreRaceFree t s scope (run o old_loop s scope st).acts (run_all q new s scope st).acts
    peeled_races = record { comes = comes; meets = meets }
