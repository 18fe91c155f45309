-- The directions in which two accesses to one cell stand are among those of the view of their references.
use Rattle.std.proofs.Common.{◌≡◌, ℕ, List, [], ◌∷◌, length, true, sym, ◌∙◌, subst}
use Rattle.std.proofs.lemmas.Bool.{eqb-true}
use Rattle.ped_graph.specs.ped_views.specs.declared.directions.Direction.{Direction}
use Rattle.ped_graph.specs.ped_views.specs.Vectors.{IsPossible}
use Rattle.ped_flow.specs.ped_tree.specs.Tree.{ProgramTree}
use Rattle.ped_flow.specs.ped_tree.specs.Nests.{Loop}
use Rattle.ped_graph.specs.ped_refs.specs.References.{Reference, outermost_number, outermost}
use Rattle.ped_eval.specs.ped_store.specs.Cells.{same_cell}
use Rattle.ped_eval.specs.ped_store.specs.Stores.{Store}
use Rattle.ped_eval.specs.ped_store.specs.Acts.{Turn}
use Rattle.ped_eval.specs.ped_store.specs.Races.{Access}
use Rattle.ped_eval.specs.Scopes.{Scope, turns_of}
use Rattle.ped_graph.specs.Dependences.{setting_in, site_of, view_of}
use Rattle.ped_laws.specs.Conflicts.Making.{IsMade}
use Rattle.ped_laws.specs.Conflicts.Reaching.{IsStoreIn, Reached}
use Rattle.ped_laws.specs.Conflicts.Directions.{StandInDirections, share_a_loop}
use Rattle.ped_laws.proofs.ConflictLaws.PossibleNames.{AssignWithin, loops_assign}
use Rattle.ped_laws.proofs.ConflictLaws.PossibleTurns.{AreTurns, turns_reached}
use Rattle.ped_laws.proofs.ConflictLaws.PossiblePositions.{long, cells_meet}

-- places that share a loop have one outermost DO
one_outermost : (t : ProgramTree) (o p : ℕ) (first : Store) (ls ms : List Loop) (is js : List Turn) → AreTurns t o first ls is → AreTurns t p first ms js → share_a_loop is js ≡ true → outermost_number ls ≡ outermost_number ms
one_outermost t o p first ls ms [] js a b h = absurd cc
one_outermost t o p first ls ms (i ∷ is) [] a b h = absurd cc
one_outermost t o p first [] ms (i ∷ is) (j ∷ js) a b h = absurd a
one_outermost t o p first (l ∷ ls) [] (i ∷ is) (j ∷ js) a b h = absurd b
one_outermost t o p first (l ∷ ls) (m ∷ ms) (i ∷ is) (j ∷ js) a b h = sym a.0.statement ∙ (eqb-true i.statement j.statement h ∙ b.0.statement)

pub directions_possible : (t : ProgramTree) (first : Store) (a b : Access) (source sink : Reference) (at_source at_sink : Scope) (u v : Store) (vector : List Direction) → IsMade t first a source at_source u → IsMade t first b sink at_sink v
    → share_a_loop a.place.turns b.place.turns ≡ true → same_cell a.cell b.cell ≡ true → StandInDirections t a.place.turns b.place.turns vector → IsPossible (view_of t source sink) vector × (length vector ≡ length (view_of t source sink).loops)
directions_possible t first a b source sink at_source at_sink u v vector x y share same stands =
    let o : ℕ = outermost source in
    let source_within : AssignWithin t o source.nest = loops_assign t source x.listed in
    let source_turns = turns_reached t o first source.nest at_source source_within x.reached in
    let sink_turns = turns_reached t (outermost sink) first sink.nest at_sink (loops_assign t sink y.listed) y.reached in
    let shared : share_a_loop (turns_of at_source) (turns_of at_sink) ≡ true = (λ i. share_a_loop (sym x.turns i) (sym y.turns i)) ∙ share in
    let one : outermost sink ≡ o = sym (one_outermost t o (outermost sink) first source.nest sink.nest (turns_of at_source) (turns_of at_sink) source_turns sink_turns shared) in
    let sink_within : AssignWithin t o sink.nest = subst (λ (n : ℕ). AssignWithin t n sink.nest) one (loops_assign t sink y.listed) in
    let to_sink : Reached t (setting_in t o) first sink.nest at_sink = subst (λ (n : ℕ). Reached t (setting_in t n) first sink.nest at_sink) one y.reached in
    let sink_store : IsStoreIn (setting_in t o) first v = subst (λ (n : ℕ). IsStoreIn (setting_in t n) first v) one y.within in
    let stand : StandInDirections t (turns_of at_source) (turns_of at_sink) vector =
    subst (λ (is : List Turn). StandInDirections t is (turns_of at_sink) vector) x.turns (subst (λ (js : List Turn). StandInDirections t a.place.turns js vector) y.turns stands) in (
      cells_meet t o first (site_of source) (site_of sink) at_source at_sink u v vector source_within sink_within x.reached to_sink x.within sink_store stand source.access.name sink.access.name a.cell b.cell x.cell y.cell same,
      long t o first (site_of source) (site_of sink) at_source at_sink u v vector source_within sink_within x.reached to_sink x.within sink_store stand,
    )
