-- A pair of references has its dependences among those of the program, and a possible vector stands in one of them.
use Rattle.std.proofs.Common.{◌≡◌, ℕ, zero, suc, ◌+◌, ◌≤◌, ◌<◌, List, [], ◌∷◌, ◌++◌, length, take, map, filter, cond, Bool, true, false, refl, sym, ap, ◌∙◌, subst, inl, inr, arith, Option, Some, None, if◌then◌else◌}
use Rattle.std.specs.Prelude.{◌==◌}
use Rattle.std.specs.List.{list_all, flat_map, range_with_len}
use Rattle.std.proofs.lemmas.Bool.Decides.{nat_tests}
use Rattle.ped_flow.specs.ped_base.specs.Lists.{has_some}
use Rattle.ped_graph.specs.ped_views.specs.declared.directions.Direction.{Direction}
use Rattle.ped_graph.specs.ped_views.specs.declared.directions.Direction.TheVariants.{Before, Same, After}
use Rattle.ped_graph.specs.ped_views.specs.Views.{View}
use Rattle.ped_graph.specs.ped_views.specs.Vectors.{all_vectors, AreThose, IsPossible}
use Rattle.ped_flow.specs.ped_tree.specs.Tree.{ProgramTree}
use Rattle.ped_graph.specs.ped_refs.specs.References.{Reference, is_pair, comes_before, pairs}
use Rattle.ped_graph.specs.ped_edges.specs.Edges.{Edge}
use Rattle.ped_graph.specs.Owners.{have_same_owner, owner_level, is_same, within_iteration}
use Rattle.ped_graph.specs.Dependences.{carriage_from, is_of, vectors_of, kind_of, place_of, distances_of, Facts, facts_of, view_of, edge_at, independent_edge, divided, PairEdges, EdgesOfPairs}
use Rattle.ped_graph.specs.Marks.{mark_of}
use Rattle.ped_laws.specs.Acts.Orders.{IsIn}
use Rattle.ped_laws.proofs.ActLaws.Lists.{in_left, in_right}

in_mapped : {X Y : Type 0} (f : X → Y) (x : X) (xs : List X) → IsIn x xs → IsIn (f x) (map f xs)
in_mapped f x [] i = absurd i
in_mapped f x (z ∷ xs) (inl e) = inl (ap f e)
in_mapped f x (z ∷ xs) (inr i) = inr (in_mapped f x xs i)

in_flat : {X Y : Type 0} (f : X → List Y) (x : X) (y : Y) (xs : List X) → IsIn x xs → IsIn y (f x) → IsIn y (flat_map f xs)
in_flat f x y [] i j = absurd i
in_flat f x y (z ∷ xs) (inl e) j = in_left y (f z) (flat_map f xs) (subst (λ (w : _). IsIn y (f w)) e j)
in_flat f x y (z ∷ xs) (inr i) j = in_right y (f z) (flat_map f xs) (in_flat f x y xs i j)

in_filtered : {X : Type 0} (p : X → Bool) (x : X) (xs : List X) → IsIn x xs → p x ≡ true → IsIn x (filter p xs)
in_filtered p x [] i h = absurd i
in_filtered p x (z ∷ xs) (inl e) h = subst (λ (b : Bool). IsIn x (cond b (z ∷ filter p xs) (filter p xs))) (sym h ∙ ap p e) (inl e)
in_filtered p x (z ∷ xs) (inr i) h = go (p z) (in_filtered p x xs i h)
  where
    go : (b : Bool) → IsIn x (filter p xs) → IsIn x (cond b (z ∷ filter p xs) (filter p xs))
    go true j = inr j
    go false j = j

-- two references that make a pair are among the pairs
pub is_listed : (refs : List Reference) (source sink : Reference) → IsIn source refs → IsIn sink refs → is_pair source sink ≡ true → IsIn (source, sink) (pairs refs)
is_listed refs source sink i j h =
    in_flat (λ (r : Reference). map (λ (s : Reference). (r, s)) (filter (is_pair r) refs)) source (source, sink) refs i
    (in_mapped (λ (s : Reference). (source, s)) sink (filter (is_pair source) refs) (in_filtered (is_pair source) sink refs j h))

-- the dependences of a pair are among those of the program
pub record HasItsEdges (t : ProgramTree) (p : Reference × Reference) (edges : List Edge) : Type 0 where
  pub own : List Edge
  pub are : PairEdges t p.0 p.1 own
  pub listed : (e : Edge) → IsIn e own → IsIn e edges

pub edges_of_pair : (t : ProgramTree) (p : Reference × Reference) (ps : List (Reference × Reference)) (edges : List Edge) → EdgesOfPairs t ps edges → IsIn p ps → HasItsEdges t p edges
edges_of_pair t p [] edges h i = absurd i
edges_of_pair t p (q ∷ ps) edges h (inl e) =
    let its : PairEdges t p.0 p.1 h.0 = subst (λ (z : Reference × Reference). PairEdges t z.0 z.1 h.0) (sym e) h.3 in
    record { own = h.0; are = its; listed = λ x j. subst (λ (es : List Edge). IsIn x es) (sym h.2) (in_left x h.0 h.1 j) }
edges_of_pair t p (q ∷ ps) edges h (inr i) =
    let more = edges_of_pair t p ps h.1 h.4 i in
    record { own = more.own; are = more.are; listed = λ x j. subst (λ (es : List Edge). IsIn x es) (sym h.2) (in_right x h.0 h.1 (more.listed x j)) }

-- each vector of the right length is among all of them
pub in_all : (n : ℕ) (v : List Direction) → length v ≡ n → IsIn v (all_vectors n)
in_all zero [] e = inl refl
in_all zero (d ∷ v) e = absurd (omega (arith, e))
in_all (suc n) [] e = absurd (omega (arith, e))
in_all (suc n) (d ∷ v) e = go d (in_all n v (omega (arith, e)))
  where
    go : (d : Direction) → IsIn v (all_vectors n) → IsIn (d ∷ v) (all_vectors (suc n))
    go Before i = in_left (Before ∷ v) (map (λ w. Before ∷ w) (all_vectors n) ++ map (λ w. Same ∷ w) (all_vectors n)) (map (λ w. After ∷ w) (all_vectors n)) (in_left (Before ∷ v) (map (λ w. Before ∷ w) (all_vectors n)) (map (λ w. Same ∷ w) (all_vectors n)) (in_mapped (λ (w : List Direction). Before ∷ w) v (all_vectors n) i))
    go Same i = in_left (Same ∷ v) (map (λ w. Before ∷ w) (all_vectors n) ++ map (λ w. Same ∷ w) (all_vectors n)) (map (λ w. After ∷ w) (all_vectors n)) (in_right (Same ∷ v) (map (λ w. Before ∷ w) (all_vectors n)) (map (λ w. Same ∷ w) (all_vectors n)) (in_mapped (λ (w : List Direction). Same ∷ w) v (all_vectors n) i))
    go After i = in_right (After ∷ v) (map (λ w. Before ∷ w) (all_vectors n) ++ map (λ w. Same ∷ w) (all_vectors n)) (map (λ w. After ∷ w) (all_vectors n)) (in_mapped (λ (w : List Direction). After ∷ w) v (all_vectors n) i)

-- an item that has the property is chosen
chosen_in : {X : Type 0} (P : X → Type 0) (x : X) (xs chosen : List X) → AreThose P xs chosen → IsIn x xs → P x → IsIn x chosen
chosen_in P x [] chosen h i p = absurd i
chosen_in P x (z ∷ xs) chosen (inl h) (inl e) p = subst (λ (c : List _). IsIn x c) (sym h.1.1) (inl e)
chosen_in P x (z ∷ xs) chosen (inl h) (inr i) p = subst (λ (c : List _). IsIn x c) (sym h.1.1) (inr (chosen_in P x xs h.1.0 h.1.2 i p))
chosen_in P x (z ∷ xs) chosen (inr h) (inl e) p = absurd (h.0 (subst P e p))
chosen_in P x (z ∷ xs) chosen (inr h) (inr i) p = chosen_in P x xs chosen h.1 i p

some_in : {X : Type 0} (x : X) (xs : List X) → IsIn x xs → has_some xs ≡ true
some_in x [] i = absurd i
some_in x (z ∷ xs) i = refl

in_range : (k from count : ℕ) → from ≤ k → k < from + count → IsIn k (range_with_len from count)
in_range k from zero h l = absurd (omega (arith, h, l))
in_range k from (suc count) h l = go (k == from) refl (λ e. in_range k (from + 1) count e (omega (arith, h, l)))
  where
    equal : (k == from) ≡ true → k ≡ from
    equal e = grind (arith, nat_tests)

    other : (k == from) ≡ false → from + 1 ≤ k
    other e = grind (arith, nat_tests)

    go : (b : Bool) → (k == from) ≡ b → (from + 1 ≤ k → IsIn k (range_with_len (from + 1) count)) → IsIn k (from ∷ range_with_len (from + 1) count)
    go true e more = inl (equal e)
    go false e more = inr (more (other e))

-- the dependence of a level with these vectors
abbrev edge_with : Facts → Reference → Reference → View → Option ℕ → List (List Direction) → Edge
edge_with facts source sink v level vectors = record {
  source = place_of source;
  sink = place_of sink;
  name = source.access.name;
  kind = kind_of source sink;
  level = level;
  vectors = vectors;
  distances = distances_of v;
  mark = mark_of facts.constants facts.guards source sink v level;
}

edge_there : (facts : Facts) (source sink : Reference) (v : View) (level : Option ℕ) (vectors : List (List Direction)) (x : List Direction) → IsIn x vectors
    → IsIn (edge_with facts source sink v level vectors) (edge_at facts source sink v level vectors)
edge_there facts source sink v level vectors x i =
    let e : List Edge = edge_with facts source sink v level vectors ∷ [] in
    subst (λ (b : Bool). IsIn (edge_with facts source sink v level vectors) (if b then e else [])) (sym (some_in x vectors i)) (inl refl)

-- the level is that of one of so many loops; or the source comes before the sink
abbrev pub IsLevel : Reference → Reference → ℕ → Option ℕ → Type 0
IsLevel source sink count (Some level) = (1 ≤ level) × (level ≤ count)
IsLevel source sink count None = comes_before source sink ≡ true

module _ (facts : Facts) (source sink : Reference) (v : View) (vectors : List (List Direction)) (x : List Direction) (listed : IsIn x vectors) where
  -- the dependence of the level that carries a vector
  edge_of_level : (level : Option ℕ) → is_of level (carriage_from 1 x) ≡ true → IsLevel source sink (length v.loops) level
      → IsIn (edge_with facts source sink v level (vectors_of level vectors)) (divided facts source sink v vectors)
  edge_of_level (Some level) h l =
      in_left (edge_with facts source sink v (Some level) (vectors_of (Some level) vectors)) (flat_map (λ k. edge_at facts source sink v (Some k) (vectors_of (Some k) vectors)) (range_with_len 1 (length v.loops))) (independent_edge facts source sink v vectors)
      (in_flat (λ (k : ℕ). edge_at facts source sink v (Some k) (vectors_of (Some k) vectors)) level (edge_with facts source sink v (Some level) (vectors_of (Some level) vectors)) (range_with_len 1 (length v.loops))
      (in_range level 1 (length v.loops) l.0 (omega (arith, l.1)))
      (edge_there facts source sink v (Some level) (vectors_of (Some level) vectors) x (in_filtered (λ w. is_of (Some level) (carriage_from 1 w)) x vectors listed h)))
  edge_of_level None h l =
      in_right (edge_with facts source sink v None (vectors_of None vectors)) (flat_map (λ k. edge_at facts source sink v (Some k) (vectors_of (Some k) vectors)) (range_with_len 1 (length v.loops))) (independent_edge facts source sink v vectors)
      (subst (λ (b : Bool). IsIn (edge_with facts source sink v None (vectors_of None vectors)) (if b then edge_at facts source sink v None (vectors_of None vectors) else [])) (sym l)
      (edge_there facts source sink v None (vectors_of None vectors) x (in_filtered (λ w. is_of None (carriage_from 1 w)) x vectors listed h)))

-- a dependence of the program between these references, of this level, that holds this vector
pub record IsBetween (source sink : Reference) (level : Option ℕ) (x : List Direction) (edges : List Edge) : Type 0 where
  pub edge : Edge
  pub listed : IsIn edge edges
  pub from : edge.source ≡ (source.statement, source.number)
  pub to : edge.sink ≡ (sink.statement, sink.number)
  pub of_level : edge.level ≡ level
  pub contains : IsIn x edge.vectors

-- a vector of a pair of references that no position excludes, and that has `=` down to the level of their owner, stands in the dependence of the level that carries it, among those of any pairs of which this is one
pub edge_between : (t : ProgramTree) (source sink : Reference) (ps : List (Reference × Reference)) (edges : List Edge) (x : List Direction) (level : Option ℕ) → EdgesOfPairs t ps edges → IsIn (source, sink) ps
    → have_same_owner source sink ≡ true → list_all is_same (take (owner_level source) x) ≡ true → IsPossible (view_of t source sink) x → length x ≡ length (view_of t source sink).loops
    → is_of level (carriage_from 1 x) ≡ true → IsLevel source sink (length (view_of t source sink).loops) level → IsBetween source sink level x edges
edge_between t source sink ps edges x level are among owner within possible long carries l =
    let its = edges_of_pair t (source, sink) ps edges are among in
    let v : View = view_of t source sink in
    let vectors : List (List Direction) = its.are.vectors in
    let chosen : IsIn x vectors = chosen_in (IsPossible v) x (all_vectors (length v.loops)) vectors its.are.possible (in_all (length v.loops) x long) possible in
    let left : IsIn x (within_iteration (owner_level source) vectors) = in_filtered (λ w. list_all is_same (take (owner_level source) w)) x vectors chosen within in
    let left_vectors : List (List Direction) = within_iteration (owner_level source) vectors in
    let there = edge_of_level (facts_of t) source sink v left_vectors x left level carries l in
    let own : its.own ≡ divided (facts_of t) source sink v left_vectors = its.are.divided ∙ ap (λ (b : Bool). if b then divided (facts_of t) source sink v left_vectors else []) owner in
    record {
      edge = edge_with (facts_of t) source sink v level (vectors_of level left_vectors);
      listed = its.listed (edge_with (facts_of t) source sink v level (vectors_of level left_vectors)) (subst (λ (es : List Edge). IsIn (edge_with (facts_of t) source sink v level (vectors_of level left_vectors)) es) (sym own) there);
      from = refl;
      to = refl;
      of_level = refl;
      contains = in_filtered (λ w. is_of level (carriage_from 1 w)) x left_vectors left carries;
    }
