-- Iterations in which the references of a proven dependence meet.
use Rattle.std.proofs.Common.{◌≡◌, ℕ, zero, suc, ◌==◌, List, [], ◌∷◌, ◌++◌, take, drop, length, Bool, true, false, not, ◌&&◌, pos, if◌then◌else◌, refl, sym, ap, ◌∙◌, subst}
use Rattle.std.specs.List.{list_all, AllByRecursion}
use Rattle.std.proofs.lemmas.Bool.{and_parts, eqb-true}
use Rattle.ped_laws.specs.ped_graph.specs.ped_views.specs.declared.directions.Direction.{Direction}
use Rattle.ped_laws.specs.ped_graph.specs.ped_views.specs.Views.{Range, SubscriptPair, View}
use Rattle.ped_laws.specs.ped_graph.specs.ped_views.specs.Excluded.{Indices, difference}
use Rattle.ped_laws.specs.ped_flow.specs.ped_tree.specs.Tree.{Head, ProgramTree}
use Rattle.ped_laws.specs.ped_flow.specs.ped_tree.specs.Nests.{Loop, common_nest}
use Rattle.ped_laws.specs.ped_flow.specs.ped_affine.specs.Ranges.{Setting, Around, loop_range, inside, ranges_inside, nest_ranges}
use Rattle.ped_laws.specs.ped_flow.specs.ped_affine.specs.PairViews.{heads_of}
use Rattle.ped_laws.specs.ped_graph.specs.ped_symbols.specs.NameRefusals.{IsValid}
use Rattle.ped_laws.specs.ped_graph.specs.ped_symbols.specs.Values.{Values}
use Rattle.ped_laws.specs.ped_graph.specs.ped_symbols.specs.Kinds.{at_last}
use Rattle.ped_laws.specs.ped_graph.specs.ped_refs.specs.References.{Reference, references, outermost}
use Rattle.ped_verdict.specs.Exactness.{is_exact}
use Rattle.ped_laws.specs.ped_graph.specs.Guards.{guards, is_guarded}
use Rattle.ped_laws.specs.ped_graph.specs.Marks.{has_constant_bounds, runs_twice, all_run_twice, is_firm, is_telling}
use Rattle.ped_laws.specs.ped_graph.specs.Dependences.{setting_in, site_of, view_of}
use Rattle.ped_laws.specs.Acts.Orders.{IsIn}
use Rattle.ped_laws.specs.Covering.Together.{IsSolvedBy}
use Rattle.ped_rows.proofs.Trips.{AreTrips, trip_values, indices_at}
use Rattle.ped_rows.proofs.FirmPairs.{IsFirmPair, AreMeetingTrips}
use Rattle.ped_rows.proofs.ChoosingLaws.LoopChoices.{IsFirmRange, AreShort, values_at, Choices, choices}
use Rattle.ped_rows.proofs.ChoosingLaws.ReferenceNests.{AreHere, loops_here, one_head}
use Rattle.ped_rows.proofs.ChoosingLaws.AssignedNames.{constants_kept}
use Rattle.ped_rows.proofs.ChoosingLaws.FirmLoops.{AreFirm, firm_nest, firm_ranges, firm_trips, short_parts, numbers_more}
use Rattle.ped_rows.proofs.ChoosingLaws.PositionLengths.{loops_long, view_fits}

-- the common loops have one range on both sides
module _ (t : ProgramTree) (s : Setting) where
  common_ranges : (around : Around) (ls ms : List Loop) → AreHere t ls → AreHere t ms
      → take (length (common_nest ls ms)) (ranges_inside s around (heads_of ls)) ≡ take (length (common_nest ls ms)) (ranges_inside s around (heads_of ms))
  common_ranges around [] ms h k = refl
  common_ranges around (l ∷ ls) [] h k = refl
  common_ranges around (l ∷ ls) (m ∷ ms) h k = go (l.number == m.number) refl (common_ranges (inside around l.head (loop_range s around l.head)) ls ms h.1 k.1)
    where
      go : (b : Bool) → (l.number == m.number) ≡ b → take (length (common_nest ls ms)) (ranges_inside s (inside around l.head (loop_range s around l.head)) (heads_of ls)) ≡ take (length (common_nest ls ms)) (ranges_inside s (inside around l.head (loop_range s around l.head)) (heads_of ms))
          → take (length (if b then l ∷ common_nest ls ms else [])) (ranges_inside s around (heads_of (l ∷ ls))) ≡ take (length (if b then l ∷ common_nest ls ms else [])) (ranges_inside s around (heads_of (m ∷ ms)))
      go false e rest = refl
      go true e rest =
          let same = one_head t l m h.0 k.0 (eqb-true l.number m.number e) in
          ap (λ (rs : List Range). loop_range s around l.head ∷ rs) rest
          ∙ ap (λ (g : Head). loop_range s around g ∷ take (length (common_nest ls ms)) (ranges_inside s (inside around g (loop_range s around g)) (heads_of ms))) same

-- the first of a list's items are as all of them, and so are the others
first_are : {X : Type 0} (P : X → Type 0) (c : ℕ) (xs : List X) → AllByRecursion P xs → AllByRecursion P (take c xs)
first_are P zero xs h = tt
first_are P (suc c) [] h = tt
first_are P (suc c) (x ∷ xs) h = (h.0, first_are P c xs h.1)

others_are : {X : Type 0} (P : X → Type 0) (c : ℕ) (xs : List X) → AllByRecursion P xs → AllByRecursion P (drop c xs)
others_are P zero xs h = h
others_are P (suc c) [] h = tt
others_are P (suc c) (x ∷ xs) h = others_are P c xs h.1

-- positions that are solved at values are so at the same values
solved_at : (at values : Indices) (ps : List SubscriptPair) → at ≡ values → AllByRecursion (λ p. difference p at ≡ pos 0) ps → AllByRecursion (IsSolvedBy values) ps
solved_at at values [] e h = tt
solved_at at values (p ∷ ps) e h = ((λ usable. ap (difference p) (sym e) ∙ h.0), solved_at at values ps e h.1)

module _ (t : ProgramTree) (source sink : Reference) (vector : List Direction) (valid : IsValid t) (firm : IsFirmPair t source sink vector) where
  abbrev constants : Values
  constants = (at_last t).values

  abbrev s : Setting
  s = setting_in t (outermost source)

  abbrev v : View
  v = view_of t source sink

  abbrev c : ℕ
  c = length (common_nest source.nest sink.nest)

  abbrev from : List Range
  from = nest_ranges s (heads_of source.nest)

  abbrev to : List Range
  to = nest_ranges s (heads_of sink.nest)

  proven : (is_firm constants (guards t) source && is_firm constants (guards t) sink ≡ true) × (is_telling v ≡ true)
  proven = and_parts (is_firm constants (guards t) source && is_firm constants (guards t) sink) (is_telling v) firm.proven

  telling : (all_run_twice v ≡ true) × (is_exact v ≡ true)
  telling = and_parts (all_run_twice v) (is_exact v) proven.1

  twice : ((list_all runs_twice v.loops && list_all runs_twice v.source_inner) ≡ true) × (list_all runs_twice v.sink_inner ≡ true)
  twice = and_parts (list_all runs_twice v.loops && list_all runs_twice v.source_inner) (list_all runs_twice v.sink_inner) telling.0

  -- the loops round each side have constant bounds
  side : (r : Reference) → IsIn r (references t) → is_firm constants (guards t) r ≡ true → AreFirm constants r.nest
  side r listed h = firm_nest t r.nest valid (loops_here t r listed) (and_parts (list_all (has_constant_bounds constants) r.nest) (not (is_guarded (guards t) r.statement)) h).0

  sides : (is_firm constants (guards t) source ≡ true) × (is_firm constants (guards t) sink ≡ true)
  sides = and_parts (is_firm constants (guards t) source) (is_firm constants (guards t) sink) proven.0

  source_firm : AreFirm constants source.nest
  source_firm = side source firm.source_listed sides.0

  sink_firm : AreFirm constants sink.nest
  sink_firm = side sink firm.sink_listed sides.1

  from_firm : AllByRecursion IsFirmRange from
  from_firm = firm_ranges s (constants_kept t (outermost source) valid) [] source.nest source_firm

  to_firm : AllByRecursion IsFirmRange to
  to_firm = firm_ranges s (constants_kept t (outermost source) valid) [] sink.nest sink_firm

  one_front : take c from ≡ take c to
  one_front = common_ranges t s [] source.nest sink.nest (loops_here t source firm.source_listed) (loops_here t sink firm.sink_listed)

  chosen : Choices v vector
  chosen =
      let more = and_parts (list_all runs_twice v.loops) (list_all runs_twice v.source_inner) twice.0 in
      choices v vector (firm.long ∙ sym (loops_long s (site_of source) (site_of sink)))
      (first_are IsFirmRange c from from_firm) (others_are IsFirmRange c from from_firm) (others_are IsFirmRange c to to_firm) more.0 more.1 twice.1
      (view_fits s (site_of source) (site_of sink)) telling.1 firm.possible

  abbrev is : List ℕ
  is = chosen.ks ++ chosen.source_further

  abbrev js : List ℕ
  js = chosen.ms ++ chosen.sink_further

  source_parts : AreShort from is × (take c (values_at from is) ≡ values_at (take c from) chosen.ks) × (drop c (values_at from is) ≡ values_at (drop c from) chosen.source_further)
  source_parts = short_parts c from chosen.ks chosen.source_further chosen.source chosen.source_inner

  sink_parts : AreShort to js × (take c (values_at to js) ≡ values_at (take c to) chosen.ms) × (drop c (values_at to js) ≡ values_at (drop c to) chosen.sink_further)
  sink_parts = short_parts c to chosen.ms chosen.sink_further (subst (λ (rs : List Range). AreShort rs chosen.ms) one_front chosen.sink) chosen.sink_inner

  source_trips : AreTrips constants source.nest is × (trip_values constants source.nest is ≡ values_at from is)
  source_trips = firm_trips s (constants_kept t (outermost source) valid) [] source.nest is source_firm source_parts.0

  sink_trips : AreTrips constants sink.nest js × (trip_values constants sink.nest js ≡ values_at to js)
  sink_trips = firm_trips s (constants_kept t (outermost source) valid) [] sink.nest js sink_firm sink_parts.0

  abbrev at : Indices
  at = record { source = values_at v.loops chosen.ks; sink = values_at v.loops chosen.ms; source_inner = values_at v.source_inner chosen.source_further; sink_inner = values_at v.sink_inner chosen.sink_further }

  same_values : at ≡ indices_at constants source.nest sink.nest is js
  same_values =
      let a : values_at (take c from) chosen.ks ≡ take c (trip_values constants source.nest is) = sym (ap (take c) source_trips.1 ∙ source_parts.1) in
      let b : values_at (take c from) chosen.ms ≡ take c (trip_values constants sink.nest js) = ap (λ (rs : List Range). values_at rs chosen.ms) one_front ∙ sym (ap (take c) sink_trips.1 ∙ sink_parts.1) in
      let d : values_at (drop c from) chosen.source_further ≡ drop c (trip_values constants source.nest is) = sym (ap (drop c) source_trips.1 ∙ source_parts.2) in
      let e : values_at (drop c to) chosen.sink_further ≡ drop c (trip_values constants sink.nest js) = sym (ap (drop c) sink_trips.1 ∙ sink_parts.2) in
      λ i. record { source = a i; sink = b i; source_inner = d i; sink_inner = e i }

  trips : AreMeetingTrips t source sink vector is js
  trips = record {
    source_trips = source_trips.0;
    sink_trips = sink_trips.0;
    stand = numbers_more vector chosen.ks chosen.ms chosen.source_further chosen.sink_further chosen.stand;
    solved = solved_at at (indices_at constants source.nest sink.nest is js) v.positions same_values chosen.solved;
  }

-- the references of a proven dependence meet in some iterations of the loops round them
pub meeting_trips : (t : ProgramTree) (source sink : Reference) (vector : List Direction) → IsValid t → IsFirmPair t source sink vector → (is : List ℕ) × (js : List ℕ) × AreMeetingTrips t source sink vector is js
meeting_trips t source sink vector valid firm = (is t source sink vector valid firm, js t source sink vector valid firm, trips t source sink vector valid firm)
