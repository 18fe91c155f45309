-- Each dependence of a program has a vector.
use Rattle.std.proofs.Common.{◌≡◌, ℕ, List, [], ◌∷◌, ◌++◌, length, Bool, true, false, Option, Some, None, if◌then◌else◌, refl, ap, ◌∙◌, subst, inl, inr, ◌⊎◌}
use Rattle.std.specs.List.{flat_map, range_with_len}
use Rattle.ped_base.specs.Lists.{has_some}
use Rattle.ped_tree.specs.Tree.{ProgramTree}
use Rattle.ped_edges.specs.Edges.{Edge}
use Rattle.ped_rules.specs.ped_views.specs.declared.directions.Direction.{Direction}
use Rattle.ped_rules.specs.ped_views.specs.Views.{View}
use Rattle.ped_refs.specs.References.{Reference, comes_before, references, pairs}
use Rattle.ped_rules.specs.ped_graph.specs.Marks.{mark_of}
use Rattle.ped_rules.specs.ped_graph.specs.Owners.{have_same_owner, owner_level, within_iteration}
use Rattle.ped_rules.specs.ped_graph.specs.Dependences.{Facts, kind_of, distances_of, place_of, vectors_of, edge_at, independent_edge, divided, edges_by, view_of, facts_of, EdgesOfPairs, AreEdges}
use Rattle.ped_rules.specs.ped_laws.specs.Acts.Orders.{IsIn}

-- an item of two lists is in one of them
in_parts : {X : Type 0} (x : X) (xs ys : List X) → IsIn x (xs ++ ys) → IsIn x xs ⊎ IsIn x ys
in_parts x [] ys i = inr i
in_parts x (z ∷ xs) ys (inl e) = inl (inl e)
in_parts x (z ∷ xs) ys (inr i) = elim (in_parts x xs ys i) [
  | inl j ↦ inl (inr j)
  | inr j ↦ inr j
]

-- and one of lists one after another
in_flat : {X Y : Type 0} (f : X → List Y) (y : Y) (xs : List X) → IsIn y (flat_map f xs) → (x : X) × IsIn y (f x)
in_flat f y [] i = absurd i
in_flat f y (x ∷ xs) i = elim (in_parts y (f x) (flat_map f xs) i) [
  | inl j ↦ (x, j)
  | inr j ↦ in_flat f y xs j
]

none_in : {X : Type 0} (b : Bool) (x : X) (xs : List X) → IsIn x (if b then xs else []) → IsIn x xs
none_in true x xs i = i
none_in false x xs i = absurd i

-- a dependence with these vectors, where there are any
with_some : (vs : List (List Direction)) (d e : Edge) → d.vectors ≡ vs → IsIn e (if has_some vs then d ∷ [] else []) → has_some e.vectors ≡ true
with_some [] d e is i = absurd i
with_some (v ∷ vs) d e is (inl same) = ap (λ (x : Edge). has_some x.vectors) same ∙ ap (λ (ws : List (List Direction)). has_some ws) is
with_some (v ∷ vs) d e is (inr j) = absurd j

module _ (facts : Facts) (source sink : Reference) (v : View) where
  at_level : (level : Option ℕ) (vectors : List (List Direction)) (e : Edge) → IsIn e (edge_at facts source sink v level vectors) → has_some e.vectors ≡ true
  at_level level vectors e i =
      with_some vectors (record {
        source = place_of source;
        sink = place_of sink;
        name = source.access.name;
        kind = kind_of source sink;
        level = level;
        vectors = vectors;
        distances = distances_of v;
        mark = mark_of facts.constants facts.guards source sink v level;
      }) e refl i

  in_divided : (vectors : List (List Direction)) (e : Edge) → IsIn e (divided facts source sink v vectors) → has_some e.vectors ≡ true
  in_divided vectors e i =
      elim (in_parts e (flat_map carried_at (range_with_len 1 (length v.loops))) (independent_edge facts source sink v vectors) i) [
        | inl j ↦ (let r = in_flat carried_at e (range_with_len 1 (length v.loops)) j in at_level (Some r.0) (vectors_of (Some r.0) vectors) e r.1)
        | inr j ↦ at_level None (vectors_of None vectors) e (none_in (comes_before source sink) e (edge_at facts source sink v None (vectors_of None vectors)) j)
      ]
    where
      carried_at : ℕ → List Edge
      carried_at level = edge_at facts source sink v (Some level) (vectors_of (Some level) vectors)

  of_pair : (vectors : List (List Direction)) (e : Edge) → IsIn e (edges_by facts source sink v vectors) → has_some e.vectors ≡ true
  of_pair vectors e i =
      in_divided (within_iteration (owner_level source) vectors) e (none_in (have_same_owner source sink) e (divided facts source sink v (within_iteration (owner_level source) vectors)) i)

of_pairs : (t : ProgramTree) (ps : List (Reference × Reference)) (edges : List Edge) → EdgesOfPairs t ps edges → (e : Edge) → IsIn e edges → has_some e.vectors ≡ true
of_pairs t [] edges is e i = absurd (subst (IsIn e) is i)
of_pairs t (p ∷ ps) edges is e i = elim (in_parts e is.0 is.1 (subst (IsIn e) is.2 i)) [
  | inl j ↦ of_pair (facts_of t) p.0 p.1 (view_of t p.0 p.1) is.3.vectors e (subst (IsIn e) is.3.divided j)
  | inr j ↦ of_pairs t ps is.1 is.4 e j
]

pub has_vectors : (t : ProgramTree) (edges : List Edge) → AreEdges t edges → (e : Edge) → IsIn e edges → has_some e.vectors ≡ true
has_vectors t edges are = of_pairs t (pairs (references t)) edges are
