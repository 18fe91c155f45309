-- A dependence of a level is one of a pair of references with the same owner, of which a vector is possible that the loop at that level carries; and such a pair has such a dependence.
use Rattle.std.proofs.Common.{◌≡◌, ℕ, zero, suc, ◌+◌, ◌≤◌, ◌<◌, List, [], ◌∷◌, ◌++◌, map, filter, cond, length, take, Bool, true, false, Option, Some, None, if◌then◌else◌, refl, sym, ap, subst, ◌∙◌, inl, inr, arith}
use Rattle.std.specs.Prelude.{◌==◌}
use Rattle.std.specs.List.{list_all, flat_map, range_with_len}
use Rattle.std.proofs.lemmas.Bool.Decides.{nat_tests}
use Rattle.ped_base.specs.Lists.{has_some}
use Rattle.ped_tree.specs.Tree.{ProgramTree}
use Rattle.ped_rules.specs.ped_views.specs.declared.directions.Direction.{Direction}
use Rattle.ped_rules.specs.ped_views.specs.declared.directions.Direction.TheVariants.{Before, Same, After}
use Rattle.ped_rules.specs.ped_views.specs.Views.{View}
use Rattle.ped_rules.specs.ped_views.specs.Vectors.{all_vectors, AreThose, IsPossible, AreVectors}
use Rattle.ped_refs.specs.References.{Reference, comes_before, is_pair, pairs}
use Rattle.ped_edges.specs.Edges.{Edge}
use Rattle.ped_rules.specs.ped_graph.specs.Owners.{have_same_owner, owner_level, is_same, within_iteration}
use Rattle.ped_rules.specs.ped_graph.specs.Marks.{mark_of}
use Rattle.ped_rules.specs.ped_graph.specs.Dependences.{carriage_from, is_of, vectors_of, kind_of, place_of, distances_of, edge_at, independent_edge, divided, edges_by, facts_of, view_of, EdgesOfPairs}
use Rattle.ped_rules.specs.ped_flow.proofs.Truths.{untrue}
use Rattle.ped_rules.specs.ped_laws.specs.Acts.Orders.{IsIn}
use Rattle.ped_rules.specs.ped_laws.proofs.ActLaws.Lists.{in_left, in_right, in_parts}
use Rattle.ped_rules.specs.ped_laws.proofs.ConflictLaws.CoveringEdges.{edges_of_pair, in_all}

-- between these references, of this level, by this vector
pub record IsCarriedPair (t : ProgramTree) (source sink : Reference) (level : ℕ) (vector : List Direction) : Type 0 where
  pub owner : have_same_owner source sink ≡ true
  pub possible : IsPossible (view_of t source sink) vector
  pub long : length vector ≡ length (view_of t source sink).loops
  pub within : list_all is_same (take (owner_level source) vector) ≡ true
  pub carries : is_of (Some level) (carriage_from 1 vector) ≡ true
  pub from : 1 ≤ level
  pub to : level ≤ length (view_of t source sink).loops

-- a dependence by its pair
pub record IsOfPair (t : ProgramTree) (ps : List (Reference × Reference)) (level : ℕ) (e : Edge) : Type 0 where
  pub source : Reference
  pub sink : Reference
  pub listed : IsIn (source, sink) ps
  pub begins : e.source ≡ place_of source
  pub ends : e.sink ≡ place_of sink
  pub name : e.name ≡ source.access.name
  pub vector : List Direction
  pub carried : IsCarriedPair t source sink level vector

from_flat : {X Y : Type 0} (f : X → List Y) (y : Y) (xs : List X) → IsIn y (flat_map f xs) → (x : X) × IsIn x xs × IsIn y (f x)
from_flat f y [] i = absurd i
from_flat f y (x ∷ xs) i = elim (in_parts y (f x) (flat_map f xs) i) [
  | inl j ↦ (x, inl refl, j)
  | inr j ↦ (let r = from_flat f y xs j in (r.0, inr r.1, r.2))
]

to_flat : {X Y : Type 0} (f : X → List Y) (x : X) (y : Y) (xs : List X) → IsIn x xs → IsIn y (f x) → IsIn y (flat_map f xs)
to_flat f x y [] i j = absurd i
to_flat f x y (z ∷ xs) (inl e) j = in_left y (f z) (flat_map f xs) (subst (λ (w : _). IsIn y (f w)) e j)
to_flat f x y (z ∷ xs) (inr i) j = in_right y (f z) (flat_map f xs) (to_flat f x y xs i j)

from_filter : {X : Type 0} (p : X → Bool) (x : X) (xs : List X) → IsIn x (filter p xs) → IsIn x xs × (p x ≡ true)
from_filter p x [] i = absurd i
from_filter p x (z ∷ xs) i = go (p z) refl i (from_filter p x xs)
  where
    go : (b : Bool) → p z ≡ b → IsIn x (cond b (z ∷ filter p xs) (filter p xs)) → (IsIn x (filter p xs) → IsIn x xs × (p x ≡ true)) → IsIn x (z ∷ xs) × (p x ≡ true)
    go true h (inl e) more = (inl e, ap p e ∙ h)
    go true h (inr j) more = let r = more j in (inr r.0, r.1)
    go false h j more = let r = more j in (inr r.0, r.1)

to_filter : {X : Type 0} (p : X → Bool) (x : X) (xs : List X) → IsIn x xs → p x ≡ true → IsIn x (filter p xs)
to_filter p x [] i h = absurd i
to_filter p x (z ∷ xs) (inl e) h = subst (λ (b : Bool). IsIn x (cond b (z ∷ filter p xs) (filter p xs))) (sym h ∙ ap p e) (inl e)
to_filter p x (z ∷ xs) (inr i) h = go (p z) (to_filter p x xs i h)
  where
    go : (b : Bool) → IsIn x (filter p xs) → IsIn x (cond b (z ∷ filter p xs) (filter p xs))
    go true j = inr j
    go false j = j

-- what is chosen has the property, and was there
chosen_has : {X : Type 0} (P : X → Type 0) (x : X) (xs chosen : List X) → AreThose P xs chosen → IsIn x chosen → IsIn x xs × P x
chosen_has P x [] chosen h i = absurd (subst (λ (c : List _). IsIn x c) h i)
chosen_has P x (z ∷ xs) chosen (inl h) i = elim (subst (λ (c : List _). IsIn x c) h.1.1 i) [
  | inl e ↦ (inl e, subst P (sym e) h.0)
  | inr j ↦ (let r = chosen_has P x xs h.1.0 h.1.2 j in (inr r.0, r.1))
]
chosen_has P x (z ∷ xs) chosen (inr h) i = let r = chosen_has P x xs chosen h.1 i in (inr r.0, r.1)

chosen_in : {X : Type 0} (P : X → Type 0) (x : X) (xs chosen : List X) → AreThose P xs chosen → IsIn x xs → P x → IsIn x chosen
chosen_in P x [] chosen h i p = absurd i
chosen_in P x (z ∷ xs) chosen (inl h) (inl e) p = subst (λ (c : List _). IsIn x c) (sym h.1.1) (inl e)
chosen_in P x (z ∷ xs) chosen (inl h) (inr i) p = subst (λ (c : List _). IsIn x c) (sym h.1.1) (inr (chosen_in P x xs h.1.0 h.1.2 i p))
chosen_in P x (z ∷ xs) chosen (inr h) (inl e) p = absurd (h.0 (subst P e p))
chosen_in P x (z ∷ xs) chosen (inr h) (inr i) p = chosen_in P x xs chosen h.1 i p

from_mapped : {X Y : Type 0} (f : X → Y) (y : Y) (xs : List X) → IsIn y (map f xs) → (x : X) × IsIn x xs × (y ≡ f x)
from_mapped f y [] i = absurd i
from_mapped f y (x ∷ xs) (inl e) = (x, inl refl, e)
from_mapped f y (x ∷ xs) (inr i) = let r = from_mapped f y xs i in (r.0, inr r.1, r.2)

-- all vectors are as long
long_in : (n : ℕ) (v : List Direction) → IsIn v (all_vectors n) → length v ≡ n
long_in zero v (inl e) = ap length e
long_in zero v (inr i) = absurd i
long_in (suc n) v i = elim (in_parts v (map (λ w. Before ∷ w) (all_vectors n) ++ map (λ w. Same ∷ w) (all_vectors n)) (map (λ w. After ∷ w) (all_vectors n)) i) [
  | inl j ↦ elim (in_parts v (map (λ w. Before ∷ w) (all_vectors n)) (map (λ w. Same ∷ w) (all_vectors n)) j) [
    | inl k ↦ (let r = from_mapped (λ (w : List Direction). Before ∷ w) v (all_vectors n) k in ap length r.2 ∙ ap suc (long_in n r.0 r.1))
    | inr k ↦ (let r = from_mapped (λ (w : List Direction). Same ∷ w) v (all_vectors n) k in ap length r.2 ∙ ap suc (long_in n r.0 r.1))
  ]
  | inr j ↦ (let r = from_mapped (λ (w : List Direction). After ∷ w) v (all_vectors n) j in ap length r.2 ∙ ap suc (long_in n r.0 r.1))
]

range_from : (k from count : ℕ) → IsIn k (range_with_len from count) → (from ≤ k) × (k < from + count)
range_from k from zero i = absurd i
range_from k from (suc count) (inl e) = (omega (arith, e), omega (arith, e))
range_from k from (suc count) (inr i) = let r = range_from k (from + 1) count i in let a = r.0 in let b = r.1 in (omega (arith, a), omega (arith, b))

range_in : (k from count : ℕ) → from ≤ k → k < from + count → IsIn k (range_with_len from count)
range_in k from zero h l = absurd (omega (arith, h, l))
range_in k from (suc count) h l = go (k == from) refl (λ e. range_in k (from + 1) count e (omega (arith, h, l)))
  where
    equal : (k == from) ≡ true → k ≡ from
    equal e = grind (arith, nat_tests)

    other : (k == from) ≡ false → from + 1 ≤ k
    other e = grind (arith, nat_tests)

    go : (b : Bool) → (k == from) ≡ b → (from + 1 ≤ k → IsIn k (range_with_len (from + 1) count)) → IsIn k (from ∷ range_with_len (from + 1) count)
    go true e more = inl (equal e)
    go false e more = inr (more (other e))

some_first : {X : Type 0} (xs : List X) → has_some xs ≡ true → (x : X) × IsIn x xs
some_first [] h = untrue h
some_first (x ∷ xs) h = (x, inl refl)

some_in : {X : Type 0} (x : X) (xs : List X) → IsIn x xs → has_some xs ≡ true
some_in x [] i = absurd i
some_in x (z ∷ xs) i = refl

one_level : (a b : ℕ) → ◌≡◌ {A = Option ℕ} (Some a) (Some b) → a ≡ b
one_level a b e = cc

no_level : {A : Type 0} (b : ℕ) → ◌≡◌ {A = Option ℕ} None (Some b) → A
no_level b e = absurd cc

module _ (t : ProgramTree) (source sink : Reference) where
  abbrev v : View
  v = view_of t source sink

  abbrev the_edge : Option ℕ → List (List Direction) → Edge
  the_edge level vectors = record {
    source = place_of source;
    sink = place_of sink;
    name = source.access.name;
    kind = kind_of source sink;
    level = level;
    vectors = vectors;
    distances = distances_of v;
    mark = mark_of (facts_of t).constants (facts_of t).guards source sink v level;
  }

  only : (level : Option ℕ) (vectors : List (List Direction)) (e : Edge) → IsIn e (edge_at (facts_of t) source sink v level vectors) → (e ≡ the_edge level vectors) × (has_some vectors ≡ true)
  only level vectors e i = go (has_some vectors) i
    where
      go : (b : Bool) → IsIn e (if b then the_edge level vectors ∷ [] else []) → (e ≡ the_edge level vectors) × (b ≡ true)
      go true (inl f) = (f, refl)
      go true (inr j) = absurd j
      go false j = absurd j

  module _ (level : ℕ) (e : Edge) (is : e.level ≡ Some level) where
    abbrev AtLevel : List (List Direction) → ℕ → List Edge
    AtLevel vectors l = edge_at (facts_of t) source sink v (Some l) (vectors_of (Some l) vectors)

    -- a dependence of a level in those of a pair
    in_divided : (vectors : List (List Direction)) → IsIn e (divided (facts_of t) source sink v vectors)
        → (1 ≤ level) × (level ≤ length v.loops) × (e ≡ the_edge (Some level) (vectors_of (Some level) vectors)) × (has_some (vectors_of (Some level) vectors) ≡ true)
    in_divided vectors i = elim (in_parts e (flat_map (AtLevel vectors) (range_with_len 1 (length v.loops))) (independent_edge (facts_of t) source sink v vectors) i) [
      | inl j ↦ by_level (from_flat (AtLevel vectors) e (range_with_len 1 (length v.loops)) j)
      | inr j ↦ no_level level (sym (ap (λ (d : Edge). d.level) (independent (comes_before source sink) j)) ∙ is)
    ]
      where
        independent : (b : Bool) → IsIn e (if b then edge_at (facts_of t) source sink v None (vectors_of None vectors) else []) → e ≡ the_edge None (vectors_of None vectors)
        independent true j = (only None (vectors_of None vectors) e j).0
        independent false j = absurd j

        by_level : (l : ℕ) × IsIn l (range_with_len 1 (length v.loops)) × IsIn e (AtLevel vectors l)
            → (1 ≤ level) × (level ≤ length v.loops) × (e ≡ the_edge (Some level) (vectors_of (Some level) vectors)) × (has_some (vectors_of (Some level) vectors) ≡ true)
        by_level r =
            let o = only (Some r.0) (vectors_of (Some r.0) vectors) e r.2 in
            let same : r.0 ≡ level = one_level r.0 level (sym (ap (λ (d : Edge). d.level) o.0) ∙ is) in
            let range = range_from r.0 1 (length v.loops) r.1 in
            let low = range.0 in
            let high = range.1 in (
              omega (arith, same, low),
              omega (arith, same, high),
              subst (λ (l : ℕ). e ≡ the_edge (Some l) (vectors_of (Some l) vectors)) same o.0,
              subst (λ (l : ℕ). has_some (vectors_of (Some l) vectors) ≡ true) same o.1,
            )

    of_pair : (vectors : List (List Direction)) → AreVectors v vectors → IsIn e (edges_by (facts_of t) source sink v vectors)
        → (e.source ≡ place_of source) × (e.sink ≡ place_of sink) × (e.name ≡ source.access.name) × ((vector : List Direction) × IsCarriedPair t source sink level vector)
    of_pair vectors are i = go (have_same_owner source sink) refl i
      where
        go : (b : Bool) → have_same_owner source sink ≡ b → IsIn e (if b then divided (facts_of t) source sink v (within_iteration (owner_level source) vectors) else [])
            → (e.source ≡ place_of source) × (e.sink ≡ place_of sink) × (e.name ≡ source.access.name) × ((vector : List Direction) × IsCarriedPair t source sink level vector)
        go false owner j = absurd j
        go true owner j =
            let d = in_divided (within_iteration (owner_level source) vectors) j in
            let first = some_first (vectors_of (Some level) (within_iteration (owner_level source) vectors)) d.3 in
            let of_level = from_filter (λ w. is_of (Some level) (carriage_from 1 w)) first.0 (within_iteration (owner_level source) vectors) first.1 in
            let inside = from_filter (λ w. list_all is_same (take (owner_level source) w)) first.0 vectors of_level.0 in
            let chosen = chosen_has (IsPossible v) first.0 (all_vectors (length v.loops)) vectors are inside.0 in (
              ap (λ (x : Edge). x.source) d.2,
              ap (λ (x : Edge). x.sink) d.2,
              ap (λ (x : Edge). x.name) d.2,
              (first.0, record { owner = owner; possible = chosen.1; long = long_in (length v.loops) first.0 chosen.0; within = inside.1; carries = of_level.1; from = d.0; to = d.1 }),
            )

-- a dependence of a level
pub pair_of : (t : ProgramTree) (ps : List (Reference × Reference)) (edges : List Edge) (level : ℕ) → EdgesOfPairs t ps edges → (e : Edge) → IsIn e edges → e.level ≡ Some level → IsOfPair t ps level e
pair_of t [] edges level is e i l = absurd (subst (IsIn e) is i)
pair_of t (p ∷ ps) edges level is e i l = elim (in_parts e is.0 is.1 (subst (IsIn e) is.2 i)) [
  | inl j ↦ (let r = of_pair t p.0 p.1 level e l is.3.vectors is.3.possible (subst (IsIn e) is.3.divided j) in
      record { source = p.0; sink = p.1; listed = inl refl; begins = r.0; ends = r.1; name = r.2; vector = r.3.0; carried = r.3.1 })
  | inr j ↦ (let r = pair_of t ps is.1 level is.4 e j l in record { source = r.source; sink = r.sink; listed = inr r.listed; begins = r.begins; ends = r.ends; name = r.name; vector = r.vector; carried = r.carried })
]

-- both references of a pair are references, and they make a pair
pub both_of : (refs : List Reference) (source sink : Reference) → IsIn (source, sink) (pairs refs) → IsIn source refs × IsIn sink refs × (is_pair source sink ≡ true)
both_of refs source sink i =
    let r = from_flat (λ (a : Reference). map (λ (b : Reference). (a, b)) (filter (is_pair a) refs)) (source, sink) refs i in
    let q = from_mapped (λ (b : Reference). (r.0, b)) (source, sink) (filter (is_pair r.0) refs) r.2 in
    let w = from_filter (is_pair r.0) q.0 refs q.1 in
    let first : source ≡ r.0 = ap (λ (z : Reference × Reference). z.0) q.2 in
    let second : sink ≡ q.0 = ap (λ (z : Reference × Reference). z.1) q.2 in (
      subst (λ (a : Reference). IsIn a refs) (sym first) r.1,
      subst (λ (b : Reference). IsIn b refs) (sym second) w.0,
      (λ j. is_pair (first j) (second j)) ∙ w.1,
    )

-- such a pair has one
pub record HasEdge (source sink : Reference) (level : ℕ) (edges : List Edge) : Type 0 where
  pub edge : Edge
  pub listed : IsIn edge edges
  pub begins : edge.source ≡ place_of source
  pub ends : edge.sink ≡ place_of sink
  pub name : edge.name ≡ source.access.name
  pub of_level : edge.level ≡ Some level

pub edge_of : (t : ProgramTree) (source sink : Reference) (level : ℕ) (vector : List Direction) (ps : List (Reference × Reference)) (edges : List Edge) → EdgesOfPairs t ps edges → IsIn (source, sink) ps → IsCarriedPair t source sink level vector → HasEdge source sink level edges
edge_of t source sink level vector ps edges are among c =
    let its = edges_of_pair t (source, sink) ps edges are among in
    let view : View = view_of t source sink in
    let vectors = its.are.vectors in
    let chosen = chosen_in (IsPossible view) vector (all_vectors (length view.loops)) vectors its.are.possible (in_all (length view.loops) vector c.long) c.possible in
    let left = to_filter (λ w. list_all is_same (take (owner_level source) w)) vector vectors chosen c.within in
    let inside = within_iteration (owner_level source) vectors in
    let there = to_filter (λ w. is_of (Some level) (carriage_from 1 w)) vector inside left c.carries in
    let the = the_edge t source sink (Some level) (vectors_of (Some level) inside) in
    let low = c.from in
    let high = c.to in
    let at_level : IsIn the (edge_at (facts_of t) source sink view (Some level) (vectors_of (Some level) inside)) =
    subst (λ (b : Bool). IsIn the (if b then the ∷ [] else [])) (sym (some_in vector (vectors_of (Some level) inside) there)) (inl refl) in
    let of_all = in_left the (flat_map (λ l. edge_at (facts_of t) source sink view (Some l) (vectors_of (Some l) inside)) (range_with_len 1 (length view.loops))) (independent_edge (facts_of t) source sink view inside)
    (to_flat (λ (l : ℕ). edge_at (facts_of t) source sink view (Some l) (vectors_of (Some l) inside)) level the (range_with_len 1 (length view.loops)) (range_in level 1 (length view.loops) low (omega (arith, high))) at_level) in
    let own : its.own ≡ divided (facts_of t) source sink view inside = its.are.divided ∙ ap (λ (b : Bool). if b then divided (facts_of t) source sink view inside else []) c.owner in
    record { edge = the; listed = its.listed the (subst (λ (es : List Edge). IsIn the es) (sym own) of_all); begins = refl; ends = refl; name = refl; of_level = refl }
