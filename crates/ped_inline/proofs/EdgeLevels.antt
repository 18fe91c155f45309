-- The vectors of a dependence are those of its level.
use Rattle.std.proofs.Common.{◌≡◌, ℕ, List, [], ◌∷◌, length, filter, cond, Bool, true, false, Option, Some, None, if◌then◌else◌, refl, sym, ap, ◌∙◌, subst, inl, inr}
use Rattle.std.specs.List.{flat_map, range_with_len}
use Rattle.ped_base.specs.Lists.{has_some}
use Rattle.ped_tree.specs.Tree.{ProgramTree}
use Rattle.ped_rules.specs.ped_views.specs.declared.directions.Direction.{Direction}
use Rattle.ped_rules.specs.ped_views.specs.Views.{View}
use Rattle.ped_refs.specs.References.{Reference, comes_before}
use Rattle.ped_edges.specs.Edges.{Edge}
use Rattle.ped_rules.specs.ped_graph.specs.Owners.{have_same_owner, owner_level, within_iteration}
use Rattle.ped_rules.specs.ped_graph.specs.Marks.{mark_of}
use Rattle.ped_rules.specs.ped_graph.specs.Dependences.{carriage_from, is_of, vectors_of, kind_of, place_of, distances_of, Facts, edge_at, independent_edge, divided, edges_by, facts_of, view_of, EdgesOfPairs}
use Rattle.ped_rules.specs.ped_laws.specs.Acts.Orders.{IsIn}
use Rattle.ped_rules.specs.ped_laws.proofs.ActLaws.Lists.{in_parts}

-- the dependence's level carries each of its vectors
abbrev pub IsOfItsLevel : Edge → Type 0
IsOfItsLevel e = (v : List Direction) → IsIn v e.vectors → is_of e.level (carriage_from 1 v) ≡ true

-- what is left of a list passes the test
left_passes : {X : Type 0} (p : X → Bool) (x : X) (xs : List X) → IsIn x (filter p xs) → p x ≡ true
left_passes p x [] i = absurd i
left_passes p x (z ∷ xs) i = go (p z) refl i (left_passes p x xs)
  where
    go : (b : Bool) → p z ≡ b → IsIn x (cond b (z ∷ filter p xs) (filter p xs)) → (IsIn x (filter p xs) → p x ≡ true) → p x ≡ true
    go true h (inl e) more = ap p e ∙ h
    go true h (inr j) more = more j
    go false h j more = more j

module _ (facts : Facts) (source sink : Reference) (v : View) (vectors : List (List Direction)) (e : Edge) where
  at_level : (level : Option ℕ) → IsIn e (edge_at facts source sink v level (vectors_of level vectors)) → IsOfItsLevel e
  at_level level i = go (has_some (vectors_of level vectors)) i
    where
      the : Edge
      the = record {
        source = place_of source;
        sink = place_of sink;
        name = source.access.name;
        kind = kind_of source sink;
        level = level;
        vectors = vectors_of level vectors;
        distances = distances_of v;
        mark = mark_of facts.constants facts.guards source sink v level;
      }

      its : IsOfItsLevel the
      its w j = left_passes (λ x. is_of level (carriage_from 1 x)) w vectors j

      go : (b : Bool) → IsIn e (if b then the ∷ [] else []) → IsOfItsLevel e
      go true (inl same) = subst IsOfItsLevel (sym same) its
      go true (inr none) = absurd none
      go false none = absurd none

  at_levels : (ns : List ℕ) → IsIn e (flat_map (λ level. edge_at facts source sink v (Some level) (vectors_of (Some level) vectors)) ns) → IsOfItsLevel e
  at_levels [] i = absurd i
  at_levels (n ∷ ns) i = elim (in_parts e (edge_at facts source sink v (Some n) (vectors_of (Some n) vectors)) (flat_map (λ level. edge_at facts source sink v (Some level) (vectors_of (Some level) vectors)) ns) i) [
    | inl j ↦ at_level (Some n) j
    | inr j ↦ at_levels ns j
  ]

  at_none : (b : Bool) → IsIn e (if b then edge_at facts source sink v None (vectors_of None vectors) else []) → IsOfItsLevel e
  at_none true i = at_level None i
  at_none false i = absurd i

  of_divided : IsIn e (divided facts source sink v vectors) → IsOfItsLevel e
  of_divided i = elim (in_parts e (flat_map (λ level. edge_at facts source sink v (Some level) (vectors_of (Some level) vectors)) (range_with_len 1 (length v.loops))) (independent_edge facts source sink v vectors) i) [
    | inl j ↦ at_levels (range_with_len 1 (length v.loops)) j
    | inr j ↦ at_none (comes_before source sink) j
  ]

of_pair : (facts : Facts) (source sink : Reference) (v : View) (vectors : List (List Direction)) (e : Edge) → IsIn e (edges_by facts source sink v vectors) → IsOfItsLevel e
of_pair facts source sink v vectors e i = go (have_same_owner source sink) i
  where
    go : (b : Bool) → IsIn e (if b then divided facts source sink v (within_iteration (owner_level source) vectors) else []) → IsOfItsLevel e
    go true j = of_divided facts source sink v (within_iteration (owner_level source) vectors) e j
    go false j = absurd j

pub edges_of_levels : (t : ProgramTree) (ps : List (Reference × Reference)) (edges : List Edge) → EdgesOfPairs t ps edges → (e : Edge) → IsIn e edges → IsOfItsLevel e
edges_of_levels t [] edges is e i = absurd (subst (IsIn e) is i)
edges_of_levels t (p ∷ ps) edges is e i = elim (in_parts e is.0 is.1 (subst (IsIn e) is.2 i)) [
  | inl j ↦ of_pair (facts_of t) p.0 p.1 (view_of t p.0 p.1) is.3.vectors e (subst (IsIn e) is.3.divided j)
  | inr j ↦ edges_of_levels t ps is.1 is.4 e j
]
