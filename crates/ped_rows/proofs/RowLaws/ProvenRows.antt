-- A proven dependence of an uncopied name occurs in a run that comes to the statements of both its references.
use Rattle.std.proofs.Common.{◌≡◌, ℕ, ◌<◌, List, [], ◌∷◌, Bool, true, false, refl, sym, ap, subst, ◌∙◌, if◌then◌else◌}
use Rattle.std.specs.Prelude.{◌==◌}
use Rattle.std.specs.List.{list_all}
use Rattle.std.proofs.lemmas.Bool.{and_parts, not-true, eqb-true}
use Rattle.ped_laws.specs.ped_flow.specs.ped_base.specs.Lists.{has_some}
use Rattle.ped_laws.specs.ped_graph.specs.ped_views.specs.declared.directions.Direction.{Direction}
use Rattle.ped_laws.specs.ped_flow.specs.ped_tree.specs.Tree.{ProgramTree}
use Rattle.ped_laws.specs.ped_flow.specs.ped_tree.specs.Nests.{Loop, common_nest}
use Rattle.ped_laws.specs.ped_flow.specs.PlainBounds.{Values}
use Rattle.ped_laws.specs.ped_graph.specs.ped_symbols.specs.NameRefusals.{IsValid}
use Rattle.ped_laws.specs.ped_graph.specs.ped_refs.specs.References.{Reference, references, outermost, outermost_number}
use Rattle.ped_laws.specs.ped_graph.specs.ped_edges.specs.Edges.{Edge, proven}
use Rattle.ped_laws.specs.ped_graph.specs.Guards.{guards, is_guarded}
use Rattle.ped_laws.specs.ped_graph.specs.Marks.{has_constant_bounds, is_firm, is_telling}
use Rattle.ped_laws.specs.ped_graph.specs.Dependences.{facts_of, view_of, place_of, AreEdges}
use Rattle.ped_laws.specs.ped_eval.specs.ped_store.specs.Stores.{Store}
use Rattle.ped_laws.specs.ped_eval.specs.ped_store.specs.Acts.{Turn, Place}
use Rattle.ped_laws.specs.ped_eval.specs.ped_store.specs.Races.{Access}
use Rattle.ped_laws.specs.Acts.Orders.{IsIn}
use Rattle.ped_laws.specs.ped_eval.specs.Scopes.{Scope}
use Rattle.ped_laws.specs.ped_eval.specs.Runs.{going}
use Rattle.ped_laws.specs.ped_eval.specs.Outcomes.{setting_of, run_of}
use Rattle.ped_laws.specs.Conflicts.Making.{IsMade, AreMade}
use Rattle.ped_laws.specs.Conflicts.Sequence.{ComesBefore}
use Rattle.ped_laws.specs.Conflicts.Directions.{StandInDirections, share_a_loop}
use Rattle.ped_laws.specs.Conflicts.Covered.{ComeInRun}
use Rattle.ped_rows.proofs.Trips.{AreTrips, trip_value, turns_at}
use Rattle.ped_rows.specs.Occurring.{IsUncopiedAt, IsUncopied, IsLeft, Occurs}
use Rattle.ped_rows.proofs.ComingLaws.Reaching.{Comes}
use Rattle.ped_rows.proofs.ComingLaws.Coming.{coming_before_exit, coming_before_end}
use Rattle.ped_rows.proofs.ChoosingLaws.Chosen.{meeting_trips}
use Rattle.ped_rows.proofs.MeetingLaws.Meeting.{accesses_meet}
use Rattle.ped_rows.proofs.OrderingLaws.Ordering.{source_comes_first}
use Rattle.ped_rows.proofs.OrderingLaws.StandingTrips.{trips_stand}
use Rattle.ped_rows.proofs.RowLaws.FirmRows.{IsOfPair, firm_pair}
use Rattle.ped_rows.proofs.RowLaws.ReferenceAccesses.{HasAccess, access_of, made_of}

-- two nests that begin with one DO
record BeginAlike (ls ms : List Loop) : Type 0 where
  first : Loop
  inner : List Loop
  other : Loop
  others : List Loop
  is : ls ≡ first ∷ inner
  also : ms ≡ other ∷ others
  same : first.number ≡ other.number

begin_alike : (ls ms : List Loop) → has_some (common_nest ls ms) ≡ true → BeginAlike ls ms
begin_alike [] ms h = absurd cc
begin_alike (l ∷ ls) [] h = absurd cc
begin_alike (l ∷ ls) (m ∷ ms) h = go (l.number == m.number) refl h
  where
    go : (b : Bool) → (l.number == m.number) ≡ b → has_some (if b then l ∷ common_nest ls ms else []) ≡ true → BeginAlike (l ∷ ls) (m ∷ ms)
    go true e k = record { first = l; inner = ls; other = m; others = ms; is = refl; also = refl; same = eqb-true l.number m.number e }
    go false e k = absurd cc

-- iterations of a nest begin with one of its outermost DO
first_turn : (c : Values) (l : Loop) (ls : List Loop) (ks : List ℕ) → AreTrips c (l ∷ ls) ks → (turn : Turn) × (inner : List Turn) × (turns_at c (l ∷ ls) ks ≡ turn ∷ inner)
first_turn c l ls [] trips = absurd trips
first_turn c l ls (k ∷ ks) trips = (record { statement = l.number; parallel = l.head.parallel; number = k; value = trip_value c l.head k }, turns_at c ls ks, refl)

-- no IF is round a firm reference
unguarded : (t : ProgramTree) (r : Reference) → is_firm (facts_of t).constants (guards t) r ≡ true → is_guarded (guards t) r.statement ≡ false
unguarded t r h = not-true (is_guarded (guards t) r.statement) (and_parts (list_all (has_constant_bounds (facts_of t).constants) r.nest) _ h).1

-- the sentences of accesses_are_made and accesses_in_sequence
abbrev pub AccessesAreMade : Type 0
AccessesAreMade = (t : ProgramTree) (data_bytes : List ℕ) → IsValid t → (first : ℕ → Store) × AreMade t data_bytes first

abbrev pub AccessesInSequence : Type 0
AccessesInSequence = (t : ProgramTree) (data_bytes : List ℕ) (a b : Access) → IsValid t → ComeInRun t data_bytes a b → 0 < a.reference → 0 < b.reference → ComesBefore t a b a.place.turns b.place.turns

module _ (made : AccessesAreMade) (sequence : AccessesInSequence) (t : ProgramTree) (data_bytes : List ℕ) (valid : IsValid t) where
  abbrev c : Values
  c = (setting_of t).constants

  -- the run comes to an unguarded reference in the DO with this number, in all iterations
  abbrev ComesIn : ℕ → Type 0
  ComesIn n = (r : Reference) (l : Loop) (inner : List Loop) → IsIn r (references t) → r.nest ≡ l ∷ inner → l.number ≡ n → is_guarded (guards t) r.statement ≡ false → (ks : List ℕ) → AreTrips c (l ∷ inner) ks → Comes t r (turns_at c (l ∷ inner) ks) (run_of t data_bytes).acts

  -- an access by a reference, in these iterations, and what makes it
  record IsReached (first : ℕ → Store) (r : Reference) (ks : List ℕ) : Type 0 where
    access : HasAccess t valid data_bytes r (turns_at c r.nest ks)
    scope : Scope
    store : Store
    made_so : IsMade t (first (outermost r)) access.access r scope store

  reached : (first : ℕ → Store) → AreMade t data_bytes first → (n : ℕ) → ComesIn n → (r : Reference) (l : Loop) (inner : List Loop) → IsIn r (references t) → r.nest ≡ l ∷ inner → l.number ≡ n → is_firm (facts_of t).constants (guards t) r ≡ true → (ks : List ℕ) → AreTrips c r.nest ks → IsReached first r ks
  reached first are n coming r l inner i nested number firm ks trips =
      let there : AreTrips c (l ∷ inner) ks = subst (λ (ls : List Loop). AreTrips c ls ks) nested trips in
      let turn = first_turn c l inner ks there in
      let here : turns_at c r.nest ks ≡ turn.0 ∷ turn.1 = ap (λ (ls : List Loop). turns_at c ls ks) nested ∙ turn.2 in
      let comes : Comes t r (turn.0 ∷ turn.1) (run_of t data_bytes).acts = subst (λ (ts : List Turn). Comes t r ts (run_of t data_bytes).acts) turn.2 (coming r l inner i nested number (unguarded t r firm) ks there) in
      let a = access_of t valid data_bytes r (turn.0 ∷ turn.1) comes in
      let m = made_of t valid data_bytes first are r i turn.0 turn.1 a in
      record {
        access = record { access = a.access; among = a.among; place = a.place ∙ (λ j. record { statement = r.statement; turns = sym here j }); reference = a.reference; positive = a.positive };
        scope = m.0;
        store = m.1;
        made_so = m.2;
      }

  module _ (e : Edge) (vector : List Direction) (o : IsOfPair t e vector) (uncopied : IsUncopied t e) where
    abbrev source : Reference
    source = o.source

    abbrev sink : Reference
    sink = o.sink

    firm : (is_firm (facts_of t).constants (guards t) source ≡ true) × (is_firm (facts_of t).constants (guards t) sink ≡ true)
    firm = and_parts (is_firm (facts_of t).constants (guards t) source) (is_firm (facts_of t).constants (guards t) sink) (and_parts _ (is_telling (view_of t source sink)) o.firm.proven).0

    alike : BeginAlike source.nest sink.nest
    alike = begin_alike source.nest sink.nest (and_parts _ (has_some (common_nest source.nest sink.nest)) o.firm.paired).1

    source_number : alike.first.number ≡ outermost source
    source_number = ap outermost_number (sym alike.is)

    sink_number : alike.other.number ≡ outermost source
    sink_number = sym alike.same ∙ source_number

    one_loop : outermost sink ≡ outermost source
    one_loop = ap outermost_number alike.also ∙ sink_number

    names : IsUncopiedAt t source.access.name source.statement sink.statement
    names =
        subst (λ (x : List ℕ). IsUncopiedAt t x source.statement sink.statement) o.name
        (subst (λ (n : ℕ). IsUncopiedAt t e.name n sink.statement) (ap (λ (z : ℕ × ℕ). z.0) o.from)
        (subst (λ (n : ℕ). IsUncopiedAt t e.name e.source.0 n) (ap (λ (z : ℕ × ℕ). z.0) o.to) uncopied))

    pub occurs : ComesIn (outermost source) → Occurs t data_bytes e vector
    occurs coming =
        let m = made t data_bytes valid in
        let trips = meeting_trips t source sink vector valid o.firm in
        let is = trips.0 in
        let js = trips.1 in
        let x = reached m.0 m.1 (outermost source) coming source alike.first alike.inner o.firm.source_listed alike.is source_number firm.0 is trips.2.source_trips in
        let y = reached m.0 m.1 (outermost source) coming sink alike.other alike.others o.firm.sink_listed alike.also sink_number firm.1 js trips.2.sink_trips in
        let a : Access = x.access.access in
        let b : Access = y.access.access in
        let at_a : a.place.turns ≡ turns_at c source.nest is = ap (λ (z : Place). z.turns) x.access.place in
        let at_b : b.place.turns ≡ turns_at c sink.nest js = ap (λ (z : Place). z.turns) y.access.place in
        let first : Store = m.0 (outermost source) in
        let makes_b : IsMade t first b sink y.scope y.store = subst (λ (n : ℕ). IsMade t (m.0 n) b sink y.scope y.store) one_loop y.made_so in
        let stand = trips_stand t source sink vector is js valid o.firm trips.2.source_trips trips.2.sink_trips trips.2.stand in
        record {
          a = a;
          b = b;
          come = source_comes_first sequence t data_bytes first a b source sink x.scope y.scope x.store y.store vector is js valid o.firm trips.2.source_trips trips.2.sink_trips trips.2.stand x.access.among y.access.among x.made_so makes_b at_a at_b;
          conflicts = accesses_meet t first a b source sink x.scope y.scope x.store y.store vector is js valid o.firm names trips.2 x.made_so makes_b at_a at_b;
          source = o.from ∙ (λ i. (ap (λ (z : Place). z.statement) (sym x.access.place) i, sym x.access.reference i));
          sink = o.to ∙ (λ i. (ap (λ (z : Place). z.statement) (sym y.access.place) i, sym y.access.reference i));
          together = (λ i. share_a_loop (at_a i) (at_b i)) ∙ stand.1;
          stands = subst (λ (ts : List Turn). StandInDirections t ts b.place.turns vector) (sym at_a) (subst (λ (us : List Turn). StandInDirections t (turns_at c source.nest is) us vector) (sym at_b) stand.0);
        }

  -- in a run that has left the outermost loop
  pub proven_before_exit : (edges : List Edge) (e : Edge) (vector : List Direction) → AreEdges t edges → IsIn e edges → e.mark ≡ proven → IsIn vector e.vectors → IsUncopied t e
      → ((r : Reference) → IsIn r (references t) → place_of r ≡ e.source → IsLeft t data_bytes (outermost r)) → Occurs t data_bytes e vector
  proven_before_exit edges e vector are among mark contains uncopied left =
      let o = firm_pair t edges e vector are among mark contains in
      occurs e vector o uncopied
      (λ r l inner i nested number free ks trips. coming_before_exit t data_bytes r l inner valid i nested free ks trips (subst (λ (n : ℕ). IsLeft t data_bytes n) (sym number) (left o.source o.firm.source_listed (sym o.from))))

  -- in a run that goes on to its end
  pub proven_before_end : (edges : List Edge) (e : Edge) (vector : List Direction) (s : Store) → AreEdges t edges → IsIn e edges → e.mark ≡ proven → IsIn vector e.vectors → IsUncopied t e → (run_of t data_bytes).ending ≡ going s → Occurs t data_bytes e vector
  proven_before_end edges e vector s are among mark contains uncopied goes =
      let o = firm_pair t edges e vector are among mark contains in
      occurs e vector o uncopied (λ r l inner i nested number free ks trips. coming_before_end t data_bytes r l inner valid i nested free ks trips s goes)
