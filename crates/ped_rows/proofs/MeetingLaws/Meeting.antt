-- Accesses of the references of a proven dependence, in iterations in which they meet, touch one cell.
use Rattle.std.proofs.Common.{◌≡◌, ℕ, suc, ◌+◌, ◌≤◌, ◌==◌, List, [], ◌∷◌, ◌++◌, map, take, drop, length, Bool, true, false, ◌&&◌, ◌||◌, inl, inr, if◌then◌else◌, refl, sym, ap, ◌∙◌, subst, arith, append_assoc}
use Rattle.std.specs.Prelude.{codes, nat_lt}
use Rattle.std.specs.List.{list_all, AllByRecursion}
use Rattle.std.proofs.lemmas.Bool.{and_parts, and_from, or_left, or_right, lt-ltb, eqb-true, false_from_ne_true}
use Rattle.std.proofs.lemmas.List.{length-append}
use Rattle.ped_laws.specs.ped_flow.specs.ped_base.specs.Lists.{has_some, is_same_text, is_among}
use Rattle.ped_laws.specs.ped_graph.specs.ped_views.specs.declared.directions.Direction.{Direction}
use Rattle.ped_laws.specs.ped_graph.specs.ped_views.specs.Excluded.{Indices}
use Rattle.ped_verdict.specs.Exactness.{is_exact_position}
use Rattle.ped_laws.specs.ped_flow.specs.ped_tree.specs.Tree.{ExprTree, Do, ProgramTree}
use Rattle.ped_laws.specs.ped_flow.specs.ped_tree.specs.NamesIn.{loop_variables}
use Rattle.ped_laws.specs.ped_flow.specs.ped_tree.specs.Nests.{Loop, common_nest}
use Rattle.ped_laws.specs.ped_flow.specs.ped_tree.specs.Numbering.{statements_count}
use Rattle.ped_laws.specs.ped_flow.specs.Questions.{LoopOf, IsIndexIn}
use Rattle.ped_laws.specs.ped_flow.specs.ped_affine.specs.PairViews.{positions_of}
use Rattle.ped_laws.specs.ped_graph.specs.ped_refs.specs.References.{Reference, references, innermost_private, outermost_number, outermost, is_pair}
use Rattle.ped_laws.specs.ped_graph.specs.ped_symbols.specs.Kinds.{kind_in}
use Rattle.ped_laws.specs.ped_graph.specs.ped_symbols.specs.NameRefusals.{IsValid}
use Rattle.ped_laws.specs.ped_graph.specs.Owners.{owner_level, is_same, is_same_owner}
use Rattle.ped_laws.specs.ped_graph.specs.Guards.{guards}
use Rattle.ped_laws.specs.ped_graph.specs.Marks.{is_firm, is_telling, all_run_twice}
use Rattle.ped_verdict.specs.Exactness.{is_exact}
use Rattle.ped_laws.specs.ped_graph.specs.Dependences.{facts_of, setting_in, site_of, view_of}
use Rattle.ped_laws.specs.ped_graph.specs.DependencePane.{extent_by, extent_of, is_in_body}
use Rattle.ped_laws.specs.ped_eval.specs.ped_store.specs.Cells.{Cell, Element, Private, In, Out, same_cell}
use Rattle.ped_laws.specs.ped_eval.specs.ped_store.specs.Stores.{Store}
use Rattle.ped_laws.specs.ped_eval.specs.ped_store.specs.Acts.{Turn, iterations_of}
use Rattle.ped_laws.specs.ped_eval.specs.ped_store.specs.Races.{Access, conflict}
use Rattle.ped_laws.specs.ped_eval.specs.Scopes.{Scope, turns_of, cell_of, names_in}
use Rattle.ped_laws.specs.ped_eval.specs.Outcomes.{setting_of}
use Rattle.ped_laws.specs.Acts.Orders.{IsIn}
use Rattle.ped_laws.specs.Covering.Together.{IsSolvedBy}
use Rattle.ped_laws.specs.Conflicts.Making.{StandsFor, IsMade}
use Rattle.ped_laws.specs.Conflicts.Reaching.{IsStoreIn, Reached}
use Rattle.ped_laws.proofs.ActLaws.Lists.{split_at}
use Rattle.ped_laws.proofs.ActLaws.SameCells.{is_cell}
use Rattle.ped_laws.proofs.CoveringLaws.Texts.{text_is}
use Rattle.ped_laws.proofs.ConflictLaws.PossibleNames.{AssignWithin, loops_assign}
use Rattle.ped_rows.proofs.Trips.{turns_at, indices_at}
use Rattle.ped_rows.proofs.FirmPairs.{IsFirmPair, AreMeetingTrips}
use Rattle.ped_rows.specs.Occurring.{IsUncopiedAt}
use Rattle.ped_rows.proofs.MeetingLaws.LoopsRound.{loops_nested}
use Rattle.ped_rows.proofs.MeetingLaws.Ranks.{reference_rank, rank_of}
use Rattle.ped_rows.proofs.MeetingLaws.PrivateOwners.{HaveOne, owners_agree}
use Rattle.ped_rows.proofs.MeetingLaws.Copies.{HasNoCopies, CellBy, cell_by_owner}
use Rattle.ped_rows.proofs.MeetingLaws.SameTrips.{shared_turns, shared_common}
use Rattle.ped_rows.proofs.MeetingLaws.Subscripts.{at, numbers_meet}

-- nests with a common loop have one outermost loop
pub one_outermost : (ls ms : List Loop) → has_some (common_nest ls ms) ≡ true → outermost_number ls ≡ outermost_number ms
one_outermost [] ms h = absurd cc
one_outermost (l ∷ ls) [] h = absurd cc
one_outermost (l ∷ ls) (m ∷ ms) h = go (l.number == m.number) refl h
  where
    go : (b : Bool) → (l.number == m.number) ≡ b → has_some (if b then l ∷ common_nest ls ms else []) ≡ true → l.number ≡ m.number
    go true e h = eqb-true l.number m.number e
    go false e h = absurd cc

-- what makes two references a pair
pub record ArePaired (source sink : Reference) : Type 0 where
  pub names : source.access.name ≡ sink.access.name
  pub writes : source.access.writes || sink.access.writes ≡ true
  pub common : has_some (common_nest source.nest sink.nest) ≡ true

pub are_paired : (source sink : Reference) → is_pair source sink ≡ true → ArePaired source sink
are_paired source sink h =
    let outer = and_parts (is_same_text source.access.name sink.access.name && (source.access.writes || sink.access.writes)) (has_some (common_nest source.nest sink.nest)) h in
    let front = and_parts (is_same_text source.access.name sink.access.name) (source.access.writes || sink.access.writes) outer.0 in
    record { names = text_is source.access.name sink.access.name front.0; writes = front.1; common = outer.1 }

-- the iterations round a reference have copies of the name by PRIVATE lists alone
no_copies : (t : ProgramTree) (x : List ℕ) (r : Reference) → IsIn r (references t) → ((l : ℕ) (loop : LoopOf t l) → loop.head.parallel ≡ true → is_in_body l (extent_of t l) r.statement ≡ true → IsIndexIn t l x → ⊥) → HasNoCopies t x r.nest
no_copies t x r listed none l body i stands parallel =
    let s = split_at l r.nest i in
    let round = (loops_nested t r listed s.0 l s.1 s.2).0 in
    let loop : LoopOf t l.number = record { head = l.head; body = body; is = stands } in
    let extent : extent_of t l.number ≡ statements_count round.body + 1 = ap extent_by round.stands in
    let below = round.below in
    let above = round.above in
    let inside : is_in_body l.number (extent_of t l.number) r.statement ≡ true =
    and_from (nat_lt l.number r.statement) (nat_lt r.statement (l.number + extent_of t l.number)) (lt-ltb l.number r.statement below) (lt-ltb r.statement (l.number + extent_of t l.number) (omega (arith, extent, above))) in
    false_from_ne_true (is_among x (loop_variables (Do l.head body))) (λ among. none l.number loop parallel inside (record { loop = loop; among = among }))

-- a name without subscripts stands for one cell at two places where it does so as a scalar
named_alike : (x : List ℕ) (c d : Cell) → c ≡ d → (if is_same_text x (codes "(IN)") then In else (if is_same_text x (codes "(OUT)") then Out else c)) ≡ (if is_same_text x (codes "(IN)") then In else (if is_same_text x (codes "(OUT)") then Out else d))
named_alike x c d e = ap (λ (z : Cell). if is_same_text x (codes "(IN)") then In else (if is_same_text x (codes "(OUT)") then Out else z)) e

module _ (t : ProgramTree) (first : Store) (a b : Access) (source sink : Reference) (at_source at_sink : Scope) (u v : Store) (vector : List Direction) (is js : List ℕ)
    (valid : IsValid t) (firm : IsFirmPair t source sink vector) (uncopied : IsUncopiedAt t source.access.name source.statement sink.statement) (trips : AreMeetingTrips t source sink vector is js)
    (made : IsMade t first a source at_source u) (makes : IsMade t first b sink at_sink v)
    (source_turns : a.place.turns ≡ turns_at (setting_of t).constants source.nest is) (sink_turns : b.place.turns ≡ turns_at (setting_of t).constants sink.nest js) where
  abbrev x : List ℕ
  x = source.access.name

  abbrev o : ℕ
  o = outermost source

  paired : ArePaired source sink
  paired = are_paired source sink firm.paired

  same_outermost : outermost sink ≡ o
  same_outermost = sym (one_outermost source.nest sink.nest paired.common)

  of_source : turns_of at_source ≡ turns_at (setting_of t).constants source.nest is
  of_source = sym made.turns ∙ source_turns

  of_sink : turns_of at_sink ≡ turns_at (setting_of t).constants sink.nest js
  of_sink = sym makes.turns ∙ sink_turns

  to_sink : Reached t (setting_in t o) first sink.nest at_sink
  to_sink = subst (λ (n : ℕ). Reached t (setting_in t n) first sink.nest at_sink) same_outermost makes.reached

  sink_store : IsStoreIn (setting_in t o) first v
  sink_store = subst (λ (n : ℕ). IsStoreIn (setting_in t n) first v) same_outermost makes.within

  sink_assigns : AssignWithin t o sink.nest
  sink_assigns = subst (λ (n : ℕ). AssignWithin t n sink.nest) same_outermost (loops_assign t sink firm.sink_listed)

  -- both iterations have the same copy of the name, or none
  source_uncopied : HasNoCopies t x source.nest
  source_uncopied = no_copies t x source firm.source_listed (λ l loop parallel inside. uncopied l loop parallel (or_left (is_in_body l (extent_of t l) source.statement) (is_in_body l (extent_of t l) sink.statement) inside))

  sink_uncopied : HasNoCopies t x sink.nest
  sink_uncopied = no_copies t x sink firm.sink_listed (λ l loop parallel inside. uncopied l loop parallel (or_right (is_in_body l (extent_of t l) source.statement) (is_in_body l (extent_of t l) sink.statement) inside))

  same_owner : is_same_owner (innermost_private x source.nest) (innermost_private x sink.nest) ≡ true
  same_owner = ap (λ (y : List ℕ). is_same_owner (innermost_private x source.nest) (innermost_private y sink.nest)) paired.names ∙ firm.owned

  by_source : CellBy x source.nest (turns_of at_source) (cell_of at_source x)
  by_source = cell_by_owner t (setting_in t o) first x source.nest at_source source_uncopied made.reached

  by_sink : CellBy x sink.nest (turns_of at_sink) (cell_of at_sink x)
  by_sink = cell_by_owner t (setting_in t o) first x sink.nest at_sink sink_uncopied to_sink

  one_copy : HaveOne x source.nest sink.nest → cell_of at_source x ≡ cell_of at_sink x
  one_copy h =
      let n : ℕ = length h.first.front in
      let front : List Loop = h.first.front ++ h.first.loop ∷ [] in
      let added : length front ≡ n + 1 = length-append h.first.front (h.first.loop ∷ []) in
      let deep : length front ≡ suc n = omega (arith, added) in
      let of_first : source.nest ≡ front ++ h.first.inner = h.first.is ∙ sym (append_assoc h.first.front (h.first.loop ∷ []) h.first.inner) in
      let of_second : sink.nest ≡ front ++ h.second.inner = h.second.is ∙ (λ i. sym h.fronts i ++ sym h.loops i ∷ h.second.inner) ∙ sym (append_assoc h.first.front (h.first.loop ∷ []) h.second.inner) in
      let few : length front ≤ length (common_nest source.nest sink.nest) = shared_common front h.first.inner h.second.inner source.nest sink.nest of_first of_second in
      let long : length vector ≡ length (common_nest source.nest sink.nest) = firm.long in
      let level : owner_level source ≡ length front = h.first.level ∙ sym deep in
      let turns = shared_turns (setting_of t).constants front h.first.inner h.second.inner source.nest sink.nest is js vector of_first of_second trips.source_trips trips.sink_trips trips.stand (omega (arith, few, long))
      (ap (λ (k : ℕ). list_all is_same (take k vector)) (sym level) ∙ firm.within) in
      let same_turns : take (suc n) (turns_of at_source) ≡ take (suc n) (turns_of at_sink) = (λ i. take (sym deep i) (of_source i)) ∙ turns ∙ (λ i. take (deep i) (sym of_sink i)) in
      by_source.1 n h.first.level
      ∙ ap (λ (ts : List Turn). Private x (iterations_of ts)) same_turns
      ∙ sym (by_sink.1 n (h.second.level ∙ ap (λ (ls : List Loop). suc (length ls)) (sym h.fronts)))

  one_cell : cell_of at_source x ≡ cell_of at_sink x
  one_cell = elim (owners_agree t source sink x firm.source_listed firm.sink_listed same_owner) [
    | inl none ↦ by_source.0 none.0.1 ∙ sym (by_sink.0 none.1.1)
    | inr o ↦ one_copy o
  ]

  -- subscripts of both come to the same numbers
  exact : list_all is_exact_position (positions_of (setting_in t o) (site_of source) (site_of sink) source.access.subscripts sink.access.subscripts) ≡ true
  exact =
      let outer = and_parts (is_firm (facts_of t).constants (guards t) source && is_firm (facts_of t).constants (guards t) sink) (is_telling (view_of t source sink)) firm.proven in
      (and_parts (all_run_twice (view_of t source sink)) (is_exact (view_of t source sink)) outer.1).1

  ranks : length source.access.subscripts ≡ length sink.access.subscripts
  ranks = reference_rank t source valid firm.source_listed ∙ ap (rank_of (kind_in t)) paired.names ∙ sym (reference_rank t sink valid firm.sink_listed)

  -- the values of the loops are those of these iterations
  values_at : indices_at (setting_of t).constants source.nest sink.nest is js ≡ at t o first (site_of source) (site_of sink) at_source at_sink u v (loops_assign t source firm.source_listed) sink_assigns made.reached to_sink made.within sink_store
  values_at = λ i. record {
    source = take (length (common_nest source.nest sink.nest)) (map (λ z. z.value) (sym of_source i));
    sink = take (length (common_nest source.nest sink.nest)) (map (λ z. z.value) (sym of_sink i));
    source_inner = drop (length (common_nest source.nest sink.nest)) (map (λ z. z.value) (sym of_source i));
    sink_inner = drop (length (common_nest source.nest sink.nest)) (map (λ z. z.value) (sym of_sink i));
  }

  cells : a.cell ≡ b.cell
  cells = go source.access.subscripts sink.access.subscripts ranks exact trips.solved made.cell
      (subst (λ (y : List ℕ). StandsFor t (names_in (setting_of t) at_sink) v y sink.access.subscripts b.cell) (sym paired.names) makes.cell)
    where
      go : (es gs : List ExprTree) → length es ≡ length gs → list_all is_exact_position (positions_of (setting_in t o) (site_of source) (site_of sink) es gs) ≡ true
          → AllByRecursion (IsSolvedBy (indices_at (setting_of t).constants source.nest sink.nest is js)) (positions_of (setting_in t o) (site_of source) (site_of sink) es gs)
          → StandsFor t (names_in (setting_of t) at_source) u x es a.cell → StandsFor t (names_in (setting_of t) at_sink) v x gs b.cell → a.cell ≡ b.cell
      go [] [] l exact solved p q = p ∙ named_alike x (cell_of at_source x) (cell_of at_sink x) one_cell ∙ sym q
      go [] (g ∷ gs) l exact solved p q = absurd (omega (arith, l))
      go (e ∷ es) [] l exact solved p q = absurd (omega (arith, l))
      go (e ∷ es) (g ∷ gs) l exact solved p q =
          let numbers : p.0 ≡ q.0 = numbers_meet t o first (site_of source) (site_of sink) at_source at_sink u v (loops_assign t source firm.source_listed) sink_assigns made.reached to_sink made.within sink_store
          (e ∷ es) (g ∷ gs) p.0 q.0 l p.1 q.1 exact (subst (λ (i : Indices). AllByRecursion (IsSolvedBy i) (positions_of (setting_in t o) (site_of source) (site_of sink) (e ∷ es) (g ∷ gs))) values_at solved) in
          p.2 ∙ ap (Element x) numbers ∙ sym q.2

  meet : conflict a b ≡ true
  meet = and_from (same_cell a.cell b.cell) (a.writes || b.writes) (is_cell a.cell b.cell cells) ((λ i. made.writes i || makes.writes i) ∙ paired.writes)

-- accesses of both references in iterations in which they meet conflict
pub accesses_meet : (t : ProgramTree) (first : Store) (a b : Access) (source sink : Reference) (at_source at_sink : Scope) (u v : Store) (vector : List Direction) (is js : List ℕ)
    → IsValid t → IsFirmPair t source sink vector → IsUncopiedAt t source.access.name source.statement sink.statement → AreMeetingTrips t source sink vector is js
    → IsMade t first a source at_source u → IsMade t first b sink at_sink v
    → a.place.turns ≡ turns_at (setting_of t).constants source.nest is → b.place.turns ≡ turns_at (setting_of t).constants sink.nest js → conflict a b ≡ true
accesses_meet t first a b source sink at_source at_sink u v vector is js valid firm uncopied trips made makes source_turns sink_turns = meet t first a b source sink at_source at_sink u v vector is js valid firm uncopied trips made makes source_turns sink_turns
