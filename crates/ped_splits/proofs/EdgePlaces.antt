-- The dependences of a pair stand at its references.
use Rattle.std.proofs.Common.{◌≡◌, ℕ, List, [], ◌∷◌, length, All, Bool, true, false, Some, None, Option, refl, sym, subst, if◌then◌else◌}
use Rattle.std.specs.List.{flat_map, range_with_len}
use Rattle.std.proofs.lemmas.List.Elements.{All-nil, All-cons, All-append}
use Rattle.ped_base.specs.Lists.{has_some}
use Rattle.ped_tree.specs.Tree.{ProgramTree}
use Rattle.ped_refs.specs.References.{Reference, comes_before}
use Rattle.ped_edges.specs.Edges.{Edge}
use Rattle.ped_rules.specs.ped_views.specs.declared.directions.Direction.{Direction}
use Rattle.ped_rules.specs.ped_views.specs.Views.{View}
use Rattle.ped_rules.specs.ped_graph.specs.Owners.{have_same_owner, owner_level, within_iteration}
use Rattle.ped_rules.specs.ped_graph.specs.Dependences.{Facts, place_of, vectors_of, edge_at, independent_edge, divided, edges_by, facts_of, view_of, PairEdges}

-- it leads from the one reference to the other
pub record IsBetween (source sink : Reference) (e : Edge) : Type 0 where
  pub from : e.source ≡ place_of source
  pub to : e.sink ≡ place_of sink

module _ (facts : Facts) (source sink : Reference) (v : View) where
  abbrev Between : Edge → Type 0
  Between = IsBetween source sink

  one_if : (b : Bool) (e : Edge) → Between e → All Between (if b then e ∷ [] else [])
  one_if true e h = All-cons Between e [] h (All-nil Between)
  one_if false e h = All-nil Between

  all_if : (b : Bool) (es : List Edge) → All Between es → All Between (if b then es else [])
  all_if true es h = h
  all_if false es h = All-nil Between

  at_level : (level : Option ℕ) (vectors : List (List Direction)) → All Between (edge_at facts source sink v level vectors)
  at_level level vectors = one_if (has_some vectors) _ (record { from = refl; to = refl })

  all_flat : (f : ℕ → List Edge) → ((n : ℕ) → All Between (f n)) → (ns : List ℕ) → All Between (flat_map f ns)
  all_flat f h [] = All-nil Between
  all_flat f h (n ∷ ns) = All-append Between (f n) (flat_map f ns) (h n) (all_flat f h ns)

  all_divided : (vectors : List (List Direction)) → All Between (divided facts source sink v vectors)
  all_divided vectors =
      All-append Between (flat_map (λ level. edge_at facts source sink v (Some level) (vectors_of (Some level) vectors)) (range_with_len 1 (length v.loops))) (independent_edge facts source sink v vectors)
      (all_flat (λ level. edge_at facts source sink v (Some level) (vectors_of (Some level) vectors)) (λ n. at_level (Some n) (vectors_of (Some n) vectors)) (range_with_len 1 (length v.loops)))
      (all_if (comes_before source sink) (edge_at facts source sink v None (vectors_of None vectors)) (at_level None (vectors_of None vectors)))

  all_by : (vectors : List (List Direction)) → All Between (edges_by facts source sink v vectors)
  all_by vectors = all_if (have_same_owner source sink) (divided facts source sink v (within_iteration (owner_level source) vectors)) (all_divided (within_iteration (owner_level source) vectors))

pub all_between : (t : ProgramTree) (source sink : Reference) (edges : List Edge) → PairEdges t source sink edges → All (IsBetween source sink) edges
all_between t source sink edges p = subst (λ (es : List Edge). All (IsBetween source sink) es) (sym p.divided) (all_by (facts_of t) source sink (view_of t source sink) p.vectors)
