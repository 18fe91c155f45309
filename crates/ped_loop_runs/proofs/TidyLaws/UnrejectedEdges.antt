-- The dependences of a program without C$PED REJECT: none is marked as rejected.
use Rattle.std.proofs.Common.{◌≡◌, ℕ, suc, zero, ◌+◌, ◌-◌, ◌==◌, List, [], ◌∷◌, ◌++◌, map, filter, length, Bool, true, false, ◌||◌, Option, Some, None, refl, sym, ap, subst, ◌∙◌, inl, inr, if◌then◌else◌}
use Rattle.std.specs.Prelude.{slice_get}
use Rattle.std.specs.List.{list_any, flat_map, range_with_len}
use Rattle.std.proofs.lemmas.List.Folds.{list_any-append}
use Rattle.ped_bodies.specs.ped_flow.specs.ped_base.specs.Lists.{has_some, is_among}
use Rattle.ped_bodies.specs.ped_flow.specs.ped_tree.specs.Tree.{Head, StmtTree, StmtTrees, Assign, If, Do, Print, Read, Stop, Comment, no_stmts, more_stmts, ProgramTree}
use Rattle.ped_bodies.specs.ped_flow.specs.ped_tree.specs.Numbering.{statement_count, statements_count}
use Rattle.ped_bodies.specs.ped_flow.specs.ped_tree.specs.Accesses.{Access, own_accesses, constant_names}
use Rattle.ped_bodies.specs.ped_flow.specs.ped_tree.specs.Nests.{Loop, indices_of, common_nest}
use Rattle.ped_bodies.specs.ped_views.specs.declared.directions.Direction.{Direction}
use Rattle.ped_bodies.specs.ped_views.specs.Views.{View}
use Rattle.ped_bodies.specs.ped_refs.specs.References.{Reference, numbered_accesses, statement_references, statements_references, references, comes_before, is_pair, pairs}
use Rattle.ped_bodies.specs.ped_edges.specs.Edges.{rejected, Edge}
use Rattle.ped_bodies.specs.ped_graph.specs.Marks.{rejects, is_rejected, is_proven, mark_by, mark_of}
use Rattle.ped_bodies.specs.ped_graph.specs.Owners.{have_same_owner, owner_level, within_iteration}
use Rattle.ped_bodies.specs.ped_graph.specs.Dependences.{Facts, kind_of, distances_of, place_of, vectors_of, edge_at, independent_edge, divided, edges_by, view_of, facts_of, EdgesOfPairs, AreEdges}
use Rattle.ped_bodies.specs.ped_flow.proofs.Truths.{untrue, or_none}
use Rattle.ped_bodies.specs.ped_laws.specs.Acts.Orders.{IsIn}
use Rattle.ped_bodies.specs.ped_laws.proofs.ActLaws.Lists.{in_parts}
use Rattle.ped_loop_runs.specs.Unrejected.{has_rejection, some_rejection}
use Rattle.ped_loop_runs.specs.TrueRejections.{IsTrueOn}

in_flat : {X Y : Type 0} (f : X → List Y) (y : Y) (xs : List X) → IsIn y (flat_map f xs) → (x : X) × IsIn x xs × IsIn y (f x)
in_flat f y [] i = absurd i
in_flat f y (x ∷ xs) i = elim (in_parts y (f x) (flat_map f xs) i) [
  | inl j ↦ (x, inl refl, j)
  | inr j ↦ (let r = in_flat f y xs j in (r.0, inr r.1, r.2))
]

in_mapped : {X Y : Type 0} (f : X → Y) (y : Y) (xs : List X) → IsIn y (map f xs) → (x : X) × IsIn x xs × (y ≡ f x)
in_mapped f y [] i = absurd i
in_mapped f y (x ∷ xs) (inl e) = (x, inl refl, e)
in_mapped f y (x ∷ xs) (inr i) = let r = in_mapped f y xs i in (r.0, inr r.1, r.2)

-- some DO of a nest rejects a name
abbrev some_rejects : List Loop → Bool
some_rejects nest = list_any (λ l. has_some l.head.rejected) nest

numbered_nest : (n k : ℕ) (nest : List Loop) (accesses : List Access) (r : Reference) → IsIn r (numbered_accesses n k nest accesses) → r.nest ≡ nest
numbered_nest n k nest [] r i = absurd i
numbered_nest n k nest (a ∷ rest) r (inl e) = ap (λ (q : Reference). q.nest) e
numbered_nest n k nest (a ∷ rest) r (inr i) = numbered_nest n (suc k) nest rest r i

module _ (constants : List (List ℕ)) where
  own : (nest : List Loop) (n : ℕ) (s : StmtTree) (r : Reference) → some_rejects nest ≡ false → IsIn r (numbered_accesses n 1 nest (own_accesses constants (indices_of nest) s)) → some_rejects r.nest ≡ false
  own nest n s r e i = ap some_rejects (numbered_nest n 1 nest (own_accesses constants (indices_of nest) s) r i) ∙ e

  deeper : (nest : List Loop) (n : ℕ) (h : Head) → some_rejects nest ≡ false → has_some h.rejected ≡ false → some_rejects (nest ++ (record { number = n; head = h }) ∷ []) ≡ false
  deeper nest n h e f = list_any-append (λ (l : Loop). has_some l.head.rejected) nest ((record { number = n; head = h }) ∷ []) ∙ (λ i. e i || (f i || false))

  -- each reference in statements without REJECT stands in such DO loops alone
  mutual
    one_plain : (nest : List Loop) (n : ℕ) (s : StmtTree) (r : Reference) → some_rejects nest ≡ false → has_rejection s ≡ false → IsIn r (statement_references constants nest n s) → some_rejects r.nest ≡ false
    one_plain nest n (Assign left right) r e f i = own nest n (Assign left right) r e i
    one_plain nest n (If c a b) r e f i =
        let p = or_none (some_rejection a) (some_rejection b) f in
        let first = numbered_accesses n 1 nest (own_accesses constants (indices_of nest) (If c a b)) in
        let of_a = statements_references constants nest (n + 1) a in
        let of_b = statements_references constants nest (n + 1 + statements_count a) b in
        elim (in_parts r (first ++ of_a) of_b i) [
          | inl j ↦ elim (in_parts r first of_a j) [ inl k ↦ own nest n (If c a b) r e k | inr k ↦ all_plain nest (n + 1) a r e p.0 k ]
          | inr j ↦ all_plain nest (n + 1 + statements_count a) b r e p.1 j
        ]
    one_plain nest n (Do h body) r e f i =
        let p = or_none (has_some h.rejected) (some_rejection body) f in
        let first = numbered_accesses n 1 nest (own_accesses constants (indices_of nest) (Do h body)) in
        elim (in_parts r first (statements_references constants (nest ++ (record { number = n; head = h }) ∷ []) (n + 1) body) i) [
          | inl k ↦ own nest n (Do h body) r e k
          | inr k ↦ all_plain (nest ++ (record { number = n; head = h }) ∷ []) (n + 1) body r (deeper nest n h e p.0) p.1 k
        ]
    one_plain nest n (Print items) r e f i = own nest n (Print items) r e i
    one_plain nest n (Read items) r e f i = own nest n (Read items) r e i
    one_plain nest n Stop r e f i = absurd i
    one_plain nest n (Comment text) r e f i = absurd i

    all_plain : (nest : List Loop) (n : ℕ) (ss : StmtTrees) (r : Reference) → some_rejects nest ≡ false → some_rejection ss ≡ false → IsIn r (statements_references constants nest n ss) → some_rejects r.nest ≡ false
    all_plain nest n no_stmts r e f i = absurd i
    all_plain nest n (more_stmts s rest) r e f i =
        let p = or_none (has_rejection s) (some_rejection rest) f in
        elim (in_parts r (statement_references constants nest n s) (statements_references constants nest (n + statement_count s) rest) i) [
          | inl k ↦ one_plain nest n s r e p.0 k
          | inr k ↦ all_plain nest (n + statement_count s) rest r e p.1 k
        ]

references_plain : (t : ProgramTree) (r : Reference) → some_rejection t.body ≡ false → IsIn r (references t) → some_rejects r.nest ≡ false
references_plain t r f i = all_plain (constant_names t.decls) [] 1 t.body r refl f i

common_plain : (ls ms : List Loop) → some_rejects ls ≡ false → some_rejects (common_nest ls ms) ≡ false
common_plain [] ms e = refl
common_plain (l ∷ ls) [] e = refl
common_plain (l ∷ ls) (m ∷ ms) e = let p = or_none (has_some l.head.rejected) (some_rejects ls) e in go (l.number == m.number) p.0 (common_plain ls ms p.1)
  where
    go : (b : Bool) → has_some l.head.rejected ≡ false → some_rejects (common_nest ls ms) ≡ false → some_rejects (if b then l ∷ common_nest ls ms else []) ≡ false
    go true f g = λ i. f i || g i
    go false f g = refl

none_among : (x : List ℕ) (names : List (List ℕ)) → has_some names ≡ false → is_among x names ≡ false
none_among x [] e = refl
none_among x (y ∷ ys) e = untrue (sym e)

none_rejects : (x : List ℕ) (nest : List Loop) (k : ℕ) → some_rejects nest ≡ false → rejects x (slice_get nest k) ≡ false
none_rejects x [] k e = refl
none_rejects x (l ∷ ls) zero e = none_among x l.head.rejected (or_none (has_some l.head.rejected) (some_rejects ls) e).0
none_rejects x (l ∷ ls) (suc k) e = none_rejects x ls k (or_none (has_some l.head.rejected) (some_rejects ls) e).1

unrejected_by : (x : List ℕ) (nest : List Loop) (level : Option ℕ) → some_rejects nest ≡ false → is_rejected x nest level ≡ false
unrejected_by x nest None e = refl
unrejected_by x nest (Some k) e = none_rejects x nest (k - 1) e

unmarked : (proven rejection : Bool) → rejection ≡ false → mark_by proven rejection ≡ rejected → ⊥
unmarked true rejection e f = cc
unmarked false true e f = untrue (sym e)
unmarked false false e f = cc

only : (b : Bool) (d e : Edge) → IsIn e (if b then d ∷ [] else []) → e ≡ d
only true d e (inl f) = f
only true d e (inr j) = absurd j
only false d e j = absurd j

none_in : {X : Type 0} (b : Bool) (x : X) (xs : List X) → IsIn x (if b then xs else []) → IsIn x xs
none_in true x xs i = i
none_in false x xs i = absurd i

module _ (facts : Facts) (source sink : Reference) (v : View) (plain : some_rejects source.nest ≡ false) where
  abbrev the_edge : Option ℕ → List (List Direction) → Edge
  the_edge level vectors = record {
    source = place_of source;
    sink = place_of sink;
    name = source.access.name;
    kind = kind_of source sink;
    level = level;
    vectors = vectors;
    distances = distances_of v;
    mark = mark_of facts.constants facts.guards source sink v level;
  }

  at_level : (level : Option ℕ) (vectors : List (List Direction)) (e : Edge) → IsIn e (edge_at facts source sink v level vectors) → e.mark ≡ rejected → ⊥
  at_level level vectors e i marked =
      unmarked (is_proven facts.constants facts.guards source sink v) (is_rejected source.access.name (common_nest source.nest sink.nest) level)
      (unrejected_by source.access.name (common_nest source.nest sink.nest) level (common_plain source.nest sink.nest plain))
      (sym (ap (λ (d : Edge). d.mark) (only (has_some vectors) (the_edge level vectors) e i)) ∙ marked)

  in_divided : (vectors : List (List Direction)) (e : Edge) → IsIn e (divided facts source sink v vectors) → e.mark ≡ rejected → ⊥
  in_divided vectors e i marked =
      elim (in_parts e (flat_map carried_at (range_with_len 1 (length v.loops))) (independent_edge facts source sink v vectors) i) [
        | inl j ↦ (let r = in_flat carried_at e (range_with_len 1 (length v.loops)) j in at_level (Some r.0) (vectors_of (Some r.0) vectors) e r.2 marked)
        | inr j ↦ at_level None (vectors_of None vectors) e (none_in (comes_before source sink) e (edge_at facts source sink v None (vectors_of None vectors)) j) marked
      ]
    where
      carried_at : ℕ → List Edge
      carried_at level = edge_at facts source sink v (Some level) (vectors_of (Some level) vectors)

  of_pair : (vectors : List (List Direction)) (e : Edge) → IsIn e (edges_by facts source sink v vectors) → e.mark ≡ rejected → ⊥
  of_pair vectors e i =
      in_divided (within_iteration (owner_level source) vectors) e (none_in (have_same_owner source sink) e (divided facts source sink v (within_iteration (owner_level source) vectors)) i)

-- no dependence of pairs of references is marked as rejected, where no C$PED REJECT stands in the program
pub pairs_unrejected : (t : ProgramTree) (ps : List (Reference × Reference)) (edges : List Edge) → some_rejection t.body ≡ false → ((p : Reference × Reference) → IsIn p ps → IsIn p.0 (references t)) → EdgesOfPairs t ps edges
    → (e : Edge) → IsIn e edges → e.mark ≡ rejected → ⊥
pairs_unrejected t [] edges none there is e i marked = absurd (subst (IsIn e) is i)
pairs_unrejected t (p ∷ ps) edges none there is e i marked = elim (in_parts e is.0 is.1 (subst (IsIn e) is.2 i)) [
  | inl j ↦ of_pair (facts_of t) p.0 p.1 (view_of t p.0 p.1) (references_plain t p.0 none (there p (inl refl))) is.3.vectors e (subst (IsIn e) is.3.divided j) marked
  | inr j ↦ pairs_unrejected t ps is.1 none (λ q k. there q (inr k)) is.4 e j marked
]

-- the source of a pair is a reference
source_there : (refs : List Reference) (p : Reference × Reference) → IsIn p (pairs refs) → IsIn p.0 refs
source_there refs p i =
    let r = in_flat (λ (source : Reference). map (λ (sink : Reference). (source, sink)) (filter (is_pair source) refs)) p refs i in
    let q = in_mapped (λ (sink : Reference). (r.0, sink)) p (filter (is_pair r.0) refs) r.2 in
    subst (λ (a : Reference). IsIn a refs) (sym (ap (λ (z : Reference × Reference). z.0) q.2)) r.1

pub edges_unrejected : (t : ProgramTree) (edges : List Edge) → some_rejection t.body ≡ false → AreEdges t edges → (e : Edge) → IsIn e edges → e.mark ≡ rejected → ⊥
edges_unrejected t edges none are = pairs_unrejected t (pairs (references t)) edges none (λ p i. source_there (references t) p i) are

-- so what such lines say is true on all data
pub unrejected_true : (t : ProgramTree) (data_bytes : List ℕ) → some_rejection t.body ≡ false → IsTrueOn t data_bytes
unrejected_true t data_bytes none edges are a b come meets c marked = edges_unrejected t edges none are c.edge c.listed marked
