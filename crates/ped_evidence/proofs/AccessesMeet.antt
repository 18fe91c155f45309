-- Two accesses of a run to one cell give whole numbers that satisfy the system of their references.
use Rattle.std.proofs.Common.{◌≡◌, ℕ, refl, sym, ◌∙◌, subst, ℤ, List, [], ◌∷◌, map, length, true}
use Rattle.std.proofs.lemmas.Bool.{eqb-true}
use Rattle.std.proofs.lemmas.List.{length-map}
use Rattle.ped_views.specs.declared.directions.Direction.{Direction}
use Rattle.ped_certificates.specs.Rows.{Meets}
use Rattle.ped_tree.specs.Tree.{ProgramTree}
use Rattle.ped_tree.specs.Nests.{Loop, common_nest}
use Rattle.ped_refs.specs.References.{Reference, outermost_number, outermost}
use Rattle.ped_affine.specs.Ranges.{Setting, nest_ranges}
use Rattle.ped_affine.specs.PairViews.{heads_of}
use Rattle.ped_laws.specs.ped_graph.specs.Dependences.{setting_in, site_of}
use Rattle.ped_laws.specs.ped_store.specs.Cells.{Cell, same_cell}
use Rattle.ped_laws.specs.ped_store.specs.Stores.{Store}
use Rattle.ped_laws.specs.ped_store.specs.Acts.{Turn}
use Rattle.ped_laws.specs.ped_store.specs.Races.{Access}
use Rattle.ped_laws.specs.ped_eval.specs.Scopes.{Scope, turns_of, names_in}
use Rattle.ped_laws.specs.ped_eval.specs.Outcomes.{setting_of}
use Rattle.ped_laws.specs.Conflicts.Making.{StandsFor, IsMade}
use Rattle.ped_laws.specs.Conflicts.Reaching.{IsStoreIn, Reached}
use Rattle.ped_laws.specs.Conflicts.Directions.{StandInDirections, share_a_loop}
use Rattle.ped_laws.proofs.ConflictLaws.PossibleNames.{AssignWithin, loops_assign}
use Rattle.ped_laws.proofs.ConflictLaws.PossibleTurns.{AreTurns, turns_reached, in_nest}
use Rattle.ped_laws.proofs.ConflictLaws.PossibleCommon.{Fit, common}
use Rattle.ped_certificates.specs.declared.claims.Sign.{Sign}
use Rattle.ped_evidence.specs.Signs.{fits}
use Rattle.ped_evidence.specs.Symbols.{symbols_of}
use Rattle.ped_evidence.specs.Systems.{system_at}
use Rattle.ped_evidence.specs.Claims.{system}
use Rattle.ped_evidence.specs.Facts.{in_order}
use Rattle.ped_evidence.proofs.NestRanges.{ranges_of_long}
use Rattle.ped_evidence.proofs.PlacedForms.{ys, held_first}
use Rattle.ped_evidence.proofs.ReachedLevels.{turns_long, levels_reached}
use Rattle.ped_evidence.proofs.CommonLevels.{common_values}
use Rattle.ped_evidence.proofs.PairSymbols.{source_symbols, sink_symbols}
use Rattle.ped_evidence.proofs.AccessFacts.{symbols_small, cells_equal}
use Rattle.ped_evidence.proofs.FactsMeet.{w, facts_meet}

-- places that share a loop have one outermost DO
one_outermost : (t : ProgramTree) (o p : ℕ) (first : Store) (ls ms : List Loop) (is js : List Turn) → AreTurns t o first ls is → AreTurns t p first ms js → share_a_loop is js ≡ true → outermost_number ls ≡ outermost_number ms
one_outermost t o p first ls ms [] js a b h = absurd cc
one_outermost t o p first ls ms (i ∷ is) [] a b h = absurd cc
one_outermost t o p first [] ms (i ∷ is) (j ∷ js) a b h = absurd a
one_outermost t o p first (l ∷ ls) [] (i ∷ is) (j ∷ js) a b h = absurd b
one_outermost t o p first (l ∷ ls) (m ∷ ms) (i ∷ is) (j ∷ js) a b h = sym a.0.statement ∙ (eqb-true i.statement j.statement h ∙ b.0.statement)

-- at two places of one execution of an outermost DO
module _ (t : ProgramTree) (o : ℕ) (first : Store) (source sink : Reference) (at_source at_sink : Scope) (u v : Store) (vector : List Direction) (pattern : List Sign)
    (source_within : AssignWithin t o source.nest) (sink_within : AssignWithin t o sink.nest) (to_source : Reached t (setting_in t o) first source.nest at_source) (to_sink : Reached t (setting_in t o) first sink.nest at_sink)
    (source_store : IsStoreIn (setting_in t o) first u) (sink_store : IsStoreIn (setting_in t o) first v) (stands : StandInDirections t (turns_of at_source) (turns_of at_sink) vector) (fit : fits pattern vector ≡ true) where
  abbrev s : Setting
  s = setting_in t o

  abbrev from : List ℤ
  from = map (λ i. i.value) (turns_of at_source)

  abbrev to : List ℤ
  to = map (λ i. i.value) (turns_of at_sink)

  abbrev names : List (List ℕ)
  names = symbols_of s (site_of source) (site_of sink)

  stand : Fit t o first (length (common_nest source.nest sink.nest)) (nest_ranges s (heads_of source.nest)) (nest_ranges s (heads_of sink.nest)) vector from to
  stand = common t o first [] source.nest sink.nest (turns_of at_source) (turns_of at_sink) vector (turns_reached t o first source.nest at_source source_within to_source) (turns_reached t o first sink.nest at_sink sink_within to_sink)
      (in_nest t o first source.nest at_source to_source).iterations (in_nest t o first sink.nest at_sink to_sink).iterations stands

  meet : (x y : List ℕ) (c d : Cell) → StandsFor t (names_in (setting_of t) at_source) u x source.access.subscripts c → StandsFor t (names_in (setting_of t) at_sink) v y sink.access.subscripts d → same_cell c d ≡ true
      → (values : List ℤ) × Meets (system_at s (site_of source) (site_of sink) pattern).rows values
  meet x y c d p q same =
      let left = source_symbols s (site_of source) (site_of sink) in
      let right = sink_symbols s (site_of source) (site_of sink) in
      let deep_source = sym (turns_long t s first source.nest at_source to_source) in
      let deep_sink = sym (turns_long t s first sink.nest at_sink to_sink) in
      let as_many = length-map names (held_first first) in
      let source_reached = levels_reached t o first names source.nest at_source left source_within to_source in
      let sink_reached = levels_reached t o first names sink.nest at_sink right sink_within to_sink in
      let both = common_values from to (length (common_nest source.nest sink.nest)) [] source.nest (nest_ranges s (heads_of source.nest)) vector from to [] [] (ranges_of_long s source.nest) refl refl refl refl stand.0 in
      let equal = cells_equal t o first names source.nest sink.nest at_source at_sink u v left right source_within sink_within to_source to_sink source_store sink_store source.access.subscripts sink.access.subscripts x y c d p q same in
      let small = symbols_small s first u names source_store left.kept in (
        in_order (w s (site_of source) (site_of sink) pattern vector from to (ys t o first names) deep_source deep_sink as_many source_reached sink_reached both fit equal small),
        facts_meet s (site_of source) (site_of sink) pattern vector from to (ys t o first names) deep_source deep_sink as_many source_reached sink_reached both fit equal small,
      )

pub accesses_meet : (t : ProgramTree) (first : Store) (a b : Access) (source sink : Reference) (at_source at_sink : Scope) (u v : Store) (vector : List Direction) (pattern : List Sign) → IsMade t first a source at_source u → IsMade t first b sink at_sink v
    → share_a_loop a.place.turns b.place.turns ≡ true → same_cell a.cell b.cell ≡ true → StandInDirections t a.place.turns b.place.turns vector → fits pattern vector ≡ true → (values : List ℤ) × Meets (system t source sink pattern).rows values
accesses_meet t first a b source sink at_source at_sink u v vector pattern x y share same stands fit =
    let o : ℕ = outermost source in
    let source_within : AssignWithin t o source.nest = loops_assign t source x.listed in
    let source_turns = turns_reached t o first source.nest at_source source_within x.reached in
    let sink_turns = turns_reached t (outermost sink) first sink.nest at_sink (loops_assign t sink y.listed) y.reached in
    let shared : share_a_loop (turns_of at_source) (turns_of at_sink) ≡ true = (λ i. share_a_loop (sym x.turns i) (sym y.turns i)) ∙ share in
    let one : outermost sink ≡ o = sym (one_outermost t o (outermost sink) first source.nest sink.nest (turns_of at_source) (turns_of at_sink) source_turns sink_turns shared) in
    let sink_within : AssignWithin t o sink.nest = subst (λ (n : ℕ). AssignWithin t n sink.nest) one (loops_assign t sink y.listed) in
    let to_sink : Reached t (setting_in t o) first sink.nest at_sink = subst (λ (n : ℕ). Reached t (setting_in t n) first sink.nest at_sink) one y.reached in
    let sink_store : IsStoreIn (setting_in t o) first v = subst (λ (n : ℕ). IsStoreIn (setting_in t n) first v) one y.within in
    let stand : StandInDirections t (turns_of at_source) (turns_of at_sink) vector =
    subst (λ (is : List Turn). StandInDirections t is (turns_of at_sink) vector) x.turns (subst (λ (js : List Turn). StandInDirections t a.place.turns js vector) y.turns stands) in
    meet t o first source sink at_source at_sink u v vector pattern source_within sink_within x.reached to_sink x.within sink_store stand fit source.access.name sink.access.name a.cell b.cell x.cell y.cell same
