-- A proven dependence of a program is that of a pair of references whose tests leave no doubt.
use Rattle.std.proofs.Common.{◌≡◌, ℕ, zero, suc, List, [], ◌∷◌, ◌++◌, length, take, map, filter, cond, Bool, true, false, refl, sym, ap, ◌∙◌, subst, inl, inr, Option, Some, None, if◌then◌else◌}
use Rattle.std.specs.Prelude.{◌==◌}
use Rattle.std.specs.List.{list_all, flat_map, range_with_len}
use Rattle.ped_laws.specs.ped_flow.specs.ped_base.specs.Lists.{has_some}
use Rattle.ped_laws.specs.ped_graph.specs.ped_views.specs.declared.directions.Direction.{Direction}
use Rattle.ped_laws.specs.ped_graph.specs.ped_views.specs.declared.directions.Direction.TheVariants.{Before, Same, After}
use Rattle.ped_laws.specs.ped_graph.specs.ped_views.specs.Views.{View}
use Rattle.ped_laws.specs.ped_graph.specs.ped_views.specs.Vectors.{all_vectors, AreThose, IsPossible}
use Rattle.ped_laws.specs.ped_flow.specs.ped_tree.specs.Tree.{Head, ProgramTree}
use Rattle.ped_laws.specs.ped_flow.specs.ped_tree.specs.Nests.{Loop, common_nest}
use Rattle.ped_laws.specs.ped_flow.specs.ped_affine.specs.Ranges.{Setting, Around, loop_range, inside, ranges_inside, nest_ranges}
use Rattle.ped_laws.specs.ped_flow.specs.ped_affine.specs.PairViews.{heads_of}
use Rattle.ped_laws.specs.ped_graph.specs.ped_refs.specs.References.{Reference, references, is_pair, comes_before, pairs}
use Rattle.ped_laws.specs.ped_graph.specs.ped_edges.specs.Edges.{Edge, proven}
use Rattle.ped_laws.specs.ped_graph.specs.Owners.{have_same_owner, owner_level, is_same, within_iteration}
use Rattle.ped_laws.specs.ped_graph.specs.Marks.{mark_by, mark_of}
use Rattle.ped_laws.specs.ped_graph.specs.Dependences.{Carriage, carried, independent, backward, carriage_from, is_of, vectors_of, kind_of, place_of, distances_of, Facts, facts_of, setting_in, view_of, edge_at, independent_edge, divided, edges_by, PairEdges, EdgesOfPairs, AreEdges}
use Rattle.ped_laws.specs.Acts.Orders.{IsIn}
use Rattle.ped_laws.proofs.ActLaws.Lists.{in_parts}
use Rattle.ped_laws.specs.ped_graph.specs.ped_refs.specs.References.{outermost}
use Rattle.ped_rows.proofs.FirmPairs.{IsForward, IsFirmPair}

-- where items of lists come from
pub of_mapped : {X Y : Type 0} (f : X → Y) (y : Y) (xs : List X) → IsIn y (map f xs) → (x : X) × IsIn x xs × (y ≡ f x)
of_mapped f y [] i = absurd i
of_mapped f y (z ∷ xs) (inl e) = (z, inl refl, e)
of_mapped f y (z ∷ xs) (inr i) = let r = of_mapped f y xs i in (r.0, inr r.1, r.2)

pub of_flat : {X Y : Type 0} (f : X → List Y) (y : Y) (xs : List X) → IsIn y (flat_map f xs) → (x : X) × IsIn x xs × IsIn y (f x)
of_flat f y [] i = absurd i
of_flat f y (z ∷ xs) i = elim (in_parts y (f z) (flat_map f xs) i) [
  | inl j ↦ (z, inl refl, j)
  | inr j ↦ let r = of_flat f y xs j in (r.0, inr r.1, r.2)
]

pub of_filtered : {X : Type 0} (p : X → Bool) (x : X) (xs : List X) → IsIn x (filter p xs) → IsIn x xs × (p x ≡ true)
of_filtered p x [] i = absurd i
of_filtered p x (z ∷ xs) i = go (p z) refl (of_filtered p x xs) i
  where
    go : (b : Bool) → p z ≡ b → (IsIn x (filter p xs) → IsIn x xs × (p x ≡ true)) → IsIn x (cond b (z ∷ filter p xs) (filter p xs)) → IsIn x (z ∷ xs) × (p x ≡ true)
    go true h rest (inl e) = (inl e, ap p e ∙ h)
    go true h rest (inr j) = let r = rest j in (inr r.0, r.1)
    go false h rest j = let r = rest j in (inr r.0, r.1)

-- a pair of references is of two of them
pub pair_is : (refs : List Reference) (p : Reference × Reference) → IsIn p (pairs refs) → IsIn p.0 refs × IsIn p.1 refs × (is_pair p.0 p.1 ≡ true)
pair_is refs p i =
    let outer = of_flat (λ (r : Reference). map (λ (s : Reference). (r, s)) (filter (is_pair r) refs)) p refs i in
    let inner = of_mapped (λ (s : Reference). (outer.0, s)) p (filter (is_pair outer.0) refs) outer.2 in
    let kept = of_filtered (is_pair outer.0) inner.0 refs inner.1 in
    let same : (outer.0, inner.0) ≡ p = sym inner.2 in
    subst (λ (q : Reference × Reference). IsIn q.0 refs × IsIn q.1 refs × (is_pair q.0 q.1 ≡ true)) same (outer.1, kept.0, kept.1)

-- an item that is chosen has the property
chosen_has : {X : Type 0} (P : X → Type 0) (x : X) (xs chosen : List X) → AreThose P xs chosen → IsIn x chosen → IsIn x xs × P x
chosen_has P x [] chosen h i = absurd (subst (λ (c : List _). IsIn x c) h i)
chosen_has P x (z ∷ xs) chosen (inl h) i = go (chosen_has P x xs h.1.0 h.1.2) (subst (λ (c : List _). IsIn x c) h.1.1 i)
  where
    go : (IsIn x h.1.0 → IsIn x xs × P x) → IsIn x (z ∷ h.1.0) → IsIn x (z ∷ xs) × P x
    go rest (inl e) = (inl e, subst P (sym e) h.0)
    go rest (inr j) = let r = rest j in (inr r.0, r.1)
chosen_has P x (z ∷ xs) chosen (inr h) i = let r = chosen_has P x xs chosen h.1 i in (inr r.0, r.1)

-- all vectors have one length
all_long : (n : ℕ) (v : List Direction) → IsIn v (all_vectors n) → length v ≡ n
all_long zero v (inl e) = ap length e
all_long zero v (inr i) = absurd i
all_long (suc n) v i =
    elim (in_parts v (map (λ w. Before ∷ w) (all_vectors n) ++ map (λ w. Same ∷ w) (all_vectors n)) (map (λ w. After ∷ w) (all_vectors n)) i) [
      | inl j ↦ elim (in_parts v (map (λ w. Before ∷ w) (all_vectors n)) (map (λ w. Same ∷ w) (all_vectors n)) j) [ inl k ↦ one Before (all_long n) k | inr k ↦ one Same (all_long n) k ]
      | inr j ↦ one After (all_long n) j
    ]
  where
    one : (d : Direction) → ((w : List Direction) → IsIn w (all_vectors n) → length w ≡ n) → IsIn v (map (λ w. d ∷ w) (all_vectors n)) → length v ≡ suc n
    one d rest k = let r = of_mapped (λ (w : List Direction). d ∷ w) v (all_vectors n) k in ap length r.2 ∙ ap suc (rest r.0 r.1)

-- the pair that a dependence of the program is of
record IsOfSome (t : ProgramTree) (e : Edge) (ps : List (Reference × Reference)) : Type 0 where
  pair : Reference × Reference
  listed : IsIn pair ps
  own : List Edge
  are : PairEdges t pair.0 pair.1 own
  among : IsIn e own

of_some : (t : ProgramTree) (e : Edge) (ps : List (Reference × Reference)) (edges : List Edge) → EdgesOfPairs t ps edges → IsIn e edges → IsOfSome t e ps
of_some t e [] edges h i = absurd (subst (λ (es : List Edge). IsIn e es) h i)
of_some t e (p ∷ ps) edges h i = elim (in_parts e h.0 h.1 (subst (λ (es : List Edge). IsIn e es) h.2 i)) [
  | inl j ↦ record { pair = p; listed = inl refl; own = h.0; are = h.3; among = j }
  | inr j ↦ let r = of_some t e ps h.1 h.4 j in record { pair = r.pair; listed = inr r.listed; own = r.own; are = r.are; among = r.among }
]

-- the dependence of a level with these vectors
abbrev edge_with : Facts → Reference → Reference → View → Option ℕ → List (List Direction) → Edge
edge_with facts source sink v level vectors = record {
  source = place_of source;
  sink = place_of sink;
  name = source.access.name;
  kind = kind_of source sink;
  level = level;
  vectors = vectors;
  distances = distances_of v;
  mark = mark_of facts.constants facts.guards source sink v level;
}

edge_is : (facts : Facts) (source sink : Reference) (v : View) (level : Option ℕ) (vectors : List (List Direction)) (e : Edge) → IsIn e (edge_at facts source sink v level vectors) → e ≡ edge_with facts source sink v level vectors
edge_is facts source sink v level vectors e i = go (has_some vectors) i
  where
    go : (b : Bool) → IsIn e (if b then edge_with facts source sink v level vectors ∷ [] else []) → e ≡ edge_with facts source sink v level vectors
    go true (inl h) = h
    go true (inr j) = absurd j
    go false j = absurd j

-- a dependence of a pair is that of a level; one that is independent of loops has its source first
record IsAtLevel (facts : Facts) (source sink : Reference) (v : View) (vectors : List (List Direction)) (e : Edge) : Type 0 where
  level : Option ℕ
  is : e ≡ edge_with facts source sink v level (vectors_of level vectors)
  before : level ≡ None → comes_before source sink ≡ true

-- the dependence that the loop of a level carries
abbrev carrying : Facts → Reference → Reference → View → List (List Direction) → ℕ → List Edge
carrying facts source sink v vectors k = edge_at facts source sink v (Some k) (vectors_of (Some k) vectors)

at_level : (facts : Facts) (source sink : Reference) (v : View) (vectors : List (List Direction)) (e : Edge) → IsIn e (divided facts source sink v vectors) → IsAtLevel facts source sink v vectors e
at_level facts source sink v vectors e i = elim (in_parts e (flat_map (carrying facts source sink v vectors) (range_with_len 1 (length v.loops))) (independent_edge facts source sink v vectors) i) [
  | inl j ↦
      let r = of_flat (carrying facts source sink v vectors) e (range_with_len 1 (length v.loops)) j in
      record { level = Some r.0; is = edge_is facts source sink v (Some r.0) (vectors_of (Some r.0) vectors) e r.2; before = λ h. absurd (no_level r.0 h) }
  | inr j ↦ go (comes_before source sink) refl j
]
  where
    no_level : (k : ℕ) → Some k ≡ None → ⊥
    no_level k h = cc

    go : (b : Bool) → comes_before source sink ≡ b → IsIn e (if b then edge_at facts source sink v None (vectors_of None vectors) else []) → IsAtLevel facts source sink v vectors e
    go true h j = record { level = None; is = edge_is facts source sink v None (vectors_of None vectors) e j; before = λ n. h }
    go false h j = absurd j

-- a vector of a level leads from the source to the sink
forward : (source sink : Reference) (level : Option ℕ) (vector : List Direction) → (level ≡ None → comes_before source sink ≡ true) → is_of level (carriage_from 1 vector) ≡ true → IsForward source sink vector
forward source sink level vector before h = go level (carriage_from 1 vector) refl before h
  where
    go : (l : Option ℕ) (c : Carriage) → carriage_from 1 vector ≡ c → (l ≡ None → comes_before source sink ≡ true) → is_of l c ≡ true → IsForward source sink vector
    go (Some k) (carried m) e b h = inl (m, e)
    go (Some k) independent e b h = absurd cc
    go (Some k) backward e b h = absurd cc
    go None (carried m) e b h = absurd cc
    go None independent e b h = inr (e, b refl)
    go None backward e b h = absurd cc

-- what is marked proven is proven
mark_says : (a b : Bool) → mark_by a b ≡ proven → a ≡ true
mark_says true b h = refl
mark_says false true h = absurd cc
mark_says false false h = absurd cc

-- a view has as many common loops as there are
ranges_long : (s : Setting) (around : Around) (hs : List Head) → length (ranges_inside s around hs) ≡ length hs
ranges_long s around [] = refl
ranges_long s around (h ∷ hs) = ap suc (ranges_long s (inside around h (loop_range s around h)) hs)

heads_long : (nest : List Loop) → length (heads_of nest) ≡ length nest
heads_long [] = refl
heads_long (l ∷ ls) = ap suc (heads_long ls)

taken_common : {X : Type 0} (ls ms : List Loop) (xs : List X) → length xs ≡ length ls → length (take (length (common_nest ls ms)) xs) ≡ length (common_nest ls ms)
taken_common [] ms xs e = refl
taken_common (l ∷ ls) [] xs e = refl
taken_common (l ∷ ls) (m ∷ ms) [] e = absurd cc
taken_common (l ∷ ls) (m ∷ ms) (x ∷ xs) e = go (taken_common ls ms xs tail) (l.number == m.number)
  where
    tail : length xs ≡ length ls
    tail = cc

    go : length (take (length (common_nest ls ms)) xs) ≡ length (common_nest ls ms) → (b : Bool) → length (take (length (if b then l ∷ common_nest ls ms else [])) (x ∷ xs)) ≡ length (if b then l ∷ common_nest ls ms else [])
    go rest true = ap suc rest
    go rest false = refl

pub common_long : (t : ProgramTree) (source sink : Reference) → length (view_of t source sink).loops ≡ length (common_nest source.nest sink.nest)
common_long t source sink =
    taken_common source.nest sink.nest (nest_ranges (setting_in t (outermost source)) (heads_of source.nest))
    (ranges_long (setting_in t (outermost source)) [] (heads_of source.nest) ∙ heads_long source.nest)

-- the pair of references of a proven dependence
pub record IsOfPair (t : ProgramTree) (e : Edge) (vector : List Direction) : Type 0 where
  pub source : Reference
  pub sink : Reference
  pub firm : IsFirmPair t source sink vector
  pub from : e.source ≡ place_of source
  pub to : e.sink ≡ place_of sink
  pub name : e.name ≡ source.access.name

pub firm_pair : (t : ProgramTree) (edges : List Edge) (e : Edge) (vector : List Direction) → AreEdges t edges → IsIn e edges → e.mark ≡ proven → IsIn vector e.vectors → IsOfPair t e vector
firm_pair t edges e vector are among mark contains =
    let o = of_some t e (pairs (references t)) edges are among in
    let p = pair_is (references t) o.pair o.listed in
    let vectors : List (List Direction) = o.are.vectors in
    let own : IsIn e (edges_by (facts_of t) o.pair.0 o.pair.1 (view_of t o.pair.0 o.pair.1) vectors) = subst (λ (es : List Edge). IsIn e es) o.are.divided o.among in
    go o.pair.0 o.pair.1 p.0 p.1 p.2 vectors o.are.possible (have_same_owner o.pair.0 o.pair.1) refl own
  where
    go : (source sink : Reference) → IsIn source (references t) → IsIn sink (references t) → is_pair source sink ≡ true
        → (vectors : List (List Direction)) → AreThose (IsPossible (view_of t source sink)) (all_vectors (length (view_of t source sink).loops)) vectors → (b : Bool) → have_same_owner source sink ≡ b
        → IsIn e (if b then divided (facts_of t) source sink (view_of t source sink) (within_iteration (owner_level source) vectors) else []) → IsOfPair t e vector
    go source sink i j paired vectors possible false owned own = absurd own
    go source sink i j paired vectors possible true owned own =
        let v : View = view_of t source sink in
        let l = at_level (facts_of t) source sink v (within_iteration (owner_level source) vectors) e own in
        let of_level = of_filtered (λ w. is_of l.level (carriage_from 1 w)) vector (within_iteration (owner_level source) vectors) (subst (λ (x : Edge). IsIn vector x.vectors) l.is contains) in
        let within = of_filtered (λ w. list_all is_same (take (owner_level source) w)) vector vectors of_level.0 in
        let chosen = chosen_has (IsPossible v) vector (all_vectors (length v.loops)) vectors possible within.0 in
        record {
          source = source;
          sink = sink;
          firm = record {
            source_listed = i;
            sink_listed = j;
            paired = paired;
            owned = owned;
            proven = mark_says _ _ (sym (ap (λ (x : Edge). x.mark) l.is) ∙ mark);
            possible = chosen.1;
            long = all_long (length v.loops) vector chosen.0 ∙ common_long t source sink;
            within = within.1;
            forward = forward source sink l.level vector l.before of_level.1;
          };
          from = ap (λ (x : Edge). x.source) l.is;
          to = ap (λ (x : Edge). x.sink) l.is;
          name = ap (λ (x : Edge). x.name) l.is;
        }
