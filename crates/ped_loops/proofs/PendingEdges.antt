-- A pending dependence that a DO carries: its name is that of a reference in the DO, and isn't rejected there.
use Rattle.std.proofs.Common.{◌≡◌, ℕ, suc, ◌+◌, ◌-◌, ◌==◌, List, [], ◌∷◌, ◌++◌, map, filter, cond, length, Bool, true, false, ◌&&◌, Option, Some, None, refl, sym, ap, subst, ◌∙◌, inl, inr, arith, eqb-true, nat_le, if◌then◌else◌}
use Rattle.std.specs.Prelude.{slice_get, nat_lt}
use Rattle.std.specs.List.{flat_map, range_with_len}
use Rattle.std.proofs.lemmas.Bool.{and_parts, both_ways, ltb-true, leb-true}
use Rattle.ped_base.specs.Lists.{has_some, is_among}
use Rattle.ped_tree.specs.Tree.{ProgramTree}
use Rattle.ped_tree.specs.Nests.{Loop, common_nest}
use Rattle.ped_tree.specs.Numbering.{statements_count}
use Rattle.ped_rules.specs.Carried.{level_at, is_carried_by}
use Rattle.ped_rules.proofs.CarriedEdges.{in_body}
use Rattle.ped_rules.specs.ped_views.specs.declared.directions.Direction.{Direction}
use Rattle.ped_rules.specs.ped_views.specs.Views.{View}
use Rattle.ped_rules.specs.ped_flow.specs.PlainBounds.{nest_round}
use Rattle.ped_rules.specs.ped_flow.specs.Questions.{LoopOf}
use Rattle.ped_refs.specs.References.{Reference, comes_before, is_pair, pairs, references}
use Rattle.ped_rules.specs.ped_laws.specs.Acts.Orders.{IsIn}
use Rattle.ped_rules.specs.ped_laws.proofs.ActLaws.Lists.{in_parts}
use Rattle.ped_edges.specs.Edges.{Edge}
use Rattle.ped_rules.specs.ped_graph.specs.Marks.{rejects, is_rejected, is_proven, mark_by, mark_of}
use Rattle.ped_rules.specs.ped_graph.specs.DependencePane.{is_level, is_in_body, extent_of}
use Rattle.ped_rules.specs.ped_graph.specs.Dependences.{Facts, kind_of, distances_of, place_of, edge_at, independent_edge, divided, edges_by, vectors_of, view_of, facts_of, EdgesOfPairs, AreEdges}
use Rattle.ped_rules.specs.ped_graph.specs.Owners.{have_same_owner, owner_level, within_iteration}
use Rattle.ped_loops.specs.Rejecting.{is_pending}
use Rattle.ped_loops.proofs.LoopsOfReferences.{IsUnder, under_loop}

in_flat : {X Y : Type 0} (f : X → List Y) (y : Y) (xs : List X) → IsIn y (flat_map f xs) → (x : X) × IsIn x xs × IsIn y (f x)
in_flat f y [] i = absurd i
in_flat f y (x ∷ xs) i = elim (in_parts y (f x) (flat_map f xs) i) [
  | inl j ↦ (x, inl refl, j)
  | inr j ↦ (let r = in_flat f y xs j in (r.0, inr r.1, r.2))
]

in_mapped : {X Y : Type 0} (f : X → Y) (y : Y) (xs : List X) → IsIn y (map f xs) → (x : X) × IsIn x xs × (y ≡ f x)
in_mapped f y [] i = absurd i
in_mapped f y (x ∷ xs) (inl e) = (x, inl refl, e)
in_mapped f y (x ∷ xs) (inr i) = let r = in_mapped f y xs i in (r.0, inr r.1, r.2)

in_filtered : {X : Type 0} (p : X → Bool) (y : X) (xs : List X) → IsIn y (filter p xs) → IsIn y xs
in_filtered p y [] i = absurd i
in_filtered p y (x ∷ xs) i = by (p x) i (λ j. in_filtered p y xs j)
  where
    by : (b : Bool) → IsIn y (cond b (x ∷ filter p xs) (filter p xs)) → (IsIn y (filter p xs) → IsIn y xs) → IsIn y (x ∷ xs)
    by true (inl e) rest = inl e
    by true (inr j) rest = inr (rest j)
    by false j rest = inr (rest j)

none_in : {X : Type 0} (b : Bool) (x : X) (xs : List X) → IsIn x (if b then xs else []) → IsIn x xs
none_in true x xs i = i
none_in false x xs i = absurd i

only : (b : Bool) (d e : Edge) → IsIn e (if b then d ∷ [] else []) → e ≡ d
only true d e (inl f) = f
only true d e (inr j) = absurd j
only false d e j = absurd j

-- two references and what a dependence has of them
record IsBetween (source sink : Reference) (e : Edge) : Type 0 where
  from : e.source.0 ≡ source.statement
  to : e.sink.0 ≡ sink.statement
  name : e.name ≡ source.access.name
  proven : Bool
  mark : e.mark ≡ mark_by proven (is_rejected source.access.name (common_nest source.nest sink.nest) e.level)

module _ (facts : Facts) (source sink : Reference) (v : View) where
  abbrev the_edge : Option ℕ → List (List Direction) → Edge
  the_edge level vectors = record {
    source = place_of source;
    sink = place_of sink;
    name = source.access.name;
    kind = kind_of source sink;
    level = level;
    vectors = vectors;
    distances = distances_of v;
    mark = mark_of facts.constants facts.guards source sink v level;
  }

  at_level : (level : Option ℕ) (vectors : List (List Direction)) (e : Edge) → IsIn e (edge_at facts source sink v level vectors) → IsBetween source sink e
  at_level level vectors e i =
      subst (λ (d : Edge). IsBetween source sink d) (sym (only (has_some vectors) (the_edge level vectors) e i))
      (record { from = refl; to = refl; name = refl; proven = is_proven facts.constants facts.guards source sink v; mark = refl })

  in_divided : (vectors : List (List Direction)) (e : Edge) → IsIn e (divided facts source sink v vectors) → IsBetween source sink e
  in_divided vectors e i =
      elim (in_parts e (flat_map carried_at (range_with_len 1 (length v.loops))) (independent_edge facts source sink v vectors) i) [
        | inl j ↦ (let r = in_flat carried_at e (range_with_len 1 (length v.loops)) j in at_level (Some r.0) (vectors_of (Some r.0) vectors) e r.2)
        | inr j ↦ at_level None (vectors_of None vectors) e (none_in (comes_before source sink) e (edge_at facts source sink v None (vectors_of None vectors)) j)
      ]
    where
      carried_at : ℕ → List Edge
      carried_at level = edge_at facts source sink v (Some level) (vectors_of (Some level) vectors)

  of_pair : (vectors : List (List Direction)) (e : Edge) → IsIn e (edges_by facts source sink v vectors) → IsBetween source sink e
  of_pair vectors e i =
      in_divided (within_iteration (owner_level source) vectors) e (none_in (have_same_owner source sink) e (divided facts source sink v (within_iteration (owner_level source) vectors)) i)

-- the pair of which a dependence is
record HasPair (ps : List (Reference × Reference)) (e : Edge) : Type 0 where
  source : Reference
  sink : Reference
  listed : IsIn (source, sink) ps
  between : IsBetween source sink e

pair_of : (t : ProgramTree) (ps : List (Reference × Reference)) (edges : List Edge) → EdgesOfPairs t ps edges → (e : Edge) → IsIn e edges → HasPair ps e
pair_of t [] edges is e i = absurd (subst (IsIn e) is i)
pair_of t (p ∷ ps) edges is e i = elim (in_parts e is.0 is.1 (subst (IsIn e) is.2 i)) [
  | inl j ↦ record { source = p.0; sink = p.1; listed = inl refl; between = of_pair (facts_of t) p.0 p.1 (view_of t p.0 p.1) is.3.vectors e (subst (IsIn e) is.3.divided j) }
  | inr j ↦ (let r = pair_of t ps is.1 is.4 e j in record { source = r.source; sink = r.sink; listed = inr r.listed; between = r.between })
]

-- both references of a pair are references
both_there : (refs : List Reference) (source sink : Reference) → IsIn (source, sink) (pairs refs) → IsIn source refs × IsIn sink refs
both_there refs source sink i =
    let r = in_flat (λ (a : Reference). map (λ (b : Reference). (a, b)) (filter (is_pair a) refs)) (source, sink) refs i in
    let q = in_mapped (λ (b : Reference). (r.0, b)) (source, sink) (filter (is_pair r.0) refs) r.2 in (
      subst (λ (a : Reference). IsIn a refs) (sym (ap (λ (z : Reference × Reference). z.0) q.2)) r.1,
      subst (λ (b : Reference). IsIn b refs) (sym (ap (λ (z : Reference × Reference). z.1) q.2)) (in_filtered (is_pair r.0) q.0 refs q.1),
    )

-- two nests with the same front share it, and the next DO where it is the same
common_front : (front : List Loop) (l : Loop) (a b : List Loop) → slice_get (common_nest (front ++ l ∷ a) (front ++ l ∷ b)) (length front) ≡ Some l
common_front [] l a b = ap (λ (same : Bool). slice_get (if same then l ∷ common_nest a b else []) 0) (itself l.number)
  where
    itself : (n : ℕ) → (n == n) ≡ true
    itself n = grind (arith, eqb-true)
common_front (f ∷ front) l a b = ap (λ (same : Bool). slice_get (if same then f ∷ common_nest (front ++ l ∷ a) (front ++ l ∷ b) else []) (suc (length front))) (itself f.number) ∙ common_front front l a b
  where
    itself : (n : ℕ) → (n == n) ≡ true
    itself n = grind (arith, eqb-true)

level_is : (n : ℕ) (o : Option ℕ) → is_level n o ≡ true → o ≡ Some n
level_is n None h = absurd (both_ways false refl h)
level_is n (Some k) h = ap Some (eqb-true k n h)

-- pending is neither proven nor rejected
not_rejected : (p r : Bool) → is_pending (mark_by p r) ≡ true → r ≡ false
not_rejected true r h = absurd (both_ways false refl h)
not_rejected false true h = absurd (both_ways false refl h)
not_rejected false false h = refl

-- a pending dependence that a DO carries is on a name that the DO doesn't reject
pub record IsOpen (t : ProgramTree) (s : ℕ) (loop : LoopOf t s) (x : List ℕ) : Type 0 where
  pub reference : Reference
  pub listed : IsIn reference (references t)
  pub name : x ≡ reference.access.name
  pub kept : is_among x loop.head.rejected ≡ false

pub open_pending : (t : ProgramTree) (edges : List Edge) → AreEdges t edges → (e : Edge) → IsIn e edges → (s : ℕ) (loop : LoopOf t s) → is_carried_by t s e ≡ true → is_pending e.mark ≡ true → IsOpen t s loop e.name
open_pending t edges are e i s loop carries pending =
    let p = pair_of t (pairs (references t)) edges are e i in
    let b = p.between in
    let there = both_there (references t) p.source p.sink p.listed in
    let parts = and_parts (is_level (level_at t s) e.level) (is_in_body s (extent_of t s) e.source.0 && is_in_body s (extent_of t s) e.sink.0) carries in
    let ends = and_parts (is_in_body s (extent_of t s) e.source.0) (is_in_body s (extent_of t s) e.sink.0) parts.1 in
    let u = under p.source there.0 e.source.0 b.from ends.0 in
    let w = under p.sink there.1 e.sink.0 b.to ends.1 in
    let level = level_is (level_at t s) e.level parts.0 in
    let unrejected = not_rejected b.proven (is_rejected p.source.access.name (common_nest p.source.nest p.sink.nest) e.level) (ap is_pending (sym b.mark) ∙ pending) in
    let common : slice_get (common_nest p.source.nest p.sink.nest) (length (nest_round t s)) ≡ Some (record { number = s; head = loop.head }) =
    (λ z. slice_get (common_nest (u.is z) (w.is z)) (length (nest_round t s))) ∙ common_front (nest_round t s) (record { number = s; head = loop.head }) u.inner w.inner in
    let less : level_at t s - 1 ≡ length (nest_round t s) = omega arith in
    record {
      reference = p.source;
      listed = there.0;
      name = b.name;
      kept =
          ap (λ (y : List ℕ). is_among y loop.head.rejected) b.name
          ∙ ap (rejects p.source.access.name) (sym common)
          ∙ ap (λ (k : ℕ). rejects p.source.access.name (slice_get (common_nest p.source.nest p.sink.nest) k)) (sym less)
          ∙ ap (is_rejected p.source.access.name (common_nest p.source.nest p.sink.nest)) (sym level)
          ∙ unrejected;
    }
  where
    under : (r : Reference) → IsIn r (references t) → (k : ℕ) → k ≡ r.statement → is_in_body s (extent_of t s) k ≡ true → IsUnder [] (nest_round t s) s loop.head r
    under r i k e inside =
        let both = and_parts (nat_lt s r.statement) (nat_le r.statement (s + statements_count loop.body)) (sym (in_body t s loop.head loop.body r.statement loop.is) ∙ subst (λ (n : ℕ). is_in_body s (extent_of t s) n ≡ true) e inside) in
        under_loop t s loop r i (ltb-true s r.statement both.0) (leb-true r.statement (s + statements_count loop.body) both.1)
