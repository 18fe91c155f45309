-- Dependences of the new program that lead from the second body to the first one: those that the code finds are those that forbid `fuse`.
use Rattle.std.proofs.Common.{◌≡◌, ℕ, ◌+◌, ◌<◌, ◌≤◌, nat_le, nat_lt, List, [], ◌∷◌, ◌++◌, filter, cond, All, Bool, true, false, not, ◌&&◌, Some, None, refl, sym, ap, subst, ◌∙◌, arith, if◌then◌else◌}
use Rattle.std.proofs.lemmas.Bool.{ltb-true, leb-true, lt-ltb, le-leb}
use Rattle.std.proofs.lemmas.List.Elements.{All-nil, All-cons, All-head, All-tail, All-append}
use Rattle.ped_tree.specs.Tree.{Var, Head, StmtTrees, ProgramTree}
use Rattle.ped_tree.specs.Numbering.{statements_count}
use Rattle.ped_tree.specs.Views.{stmt_trees}
use Rattle.ped_rules.specs.Carried.{level_at}
use Rattle.ped_rules.proofs.CarriedEdges.{in_body}
use Rattle.ped_rules.specs.ped_steps.specs.Causes.{IsFirstForbidding}
use Rattle.ped_rules.specs.ped_steps.specs.Replacing.{followed}
use Rattle.ped_rules.specs.ped_steps.proofs.RunLaws.FilledGaps.{counted}
use Rattle.ped_rules.specs.ped_steps.proofs.RunLaws.SubstitutedShapes.{counts_kept}
use Rattle.ped_symbolic.specs.Substitution.{statements_substituted}
use Rattle.ped_refs.specs.References.{Reference, references, pairs}
use Rattle.ped_rules.specs.ped_graph.specs.DependencePane.{is_level, is_in_body, extent_of}
use Rattle.ped_rules.specs.ped_graph.specs.Dependences.{EdgesOfPairs}
use Rattle.ped_edges.specs.Edges.{Edge, is_rejected}
use Rattle.ped_edges.specs.CodeEdges.{edge_of, HasAtMostSixLoops}
use Rattle.ped_edges.specs.declared.edges.Edge.{Edge as CodeEdge}
use Rattle.ped_base.specs.Lists.{is_same_text}
use Rattle.ped_splits.specs.declared.neighbours.Pair.{Pair}
use Rattle.ped_splits.specs.Neighbours.{Neighbour, joined_head, renamed_body, fused, next_number}
use Rattle.ped_splits.specs.Fusing.{goes_back, AreBack, forbids_fusion, with_present_numbers}
use Rattle.ped_splits.specs.CodePairs.{IsPair}
use Rattle.ped_splits.specs.CodeFusing.{is_back, bodies_of, forbids_at, IsFirstBack}
use Rattle.ped_splits.proofs.SameTrees.{both_of, both_so}
use Rattle.ped_splits.proofs.EdgePlaces.{IsBetween, all_between}
use Rattle.ped_splits.proofs.GapPlaces.{fused_loop, fused_level}

-- the second body has as many statements with the variable of the first
pub renamed_count : (h k : Head) (body : StmtTrees) → statements_count (renamed_body h k body) ≡ statements_count body
renamed_count h k body = by (is_same_text h.variable k.variable)
  where
    by : (b : Bool) → statements_count (if b then body else statements_substituted k.variable (Var h.variable) body) ≡ statements_count body
    by true = refl
    by false = counts_kept k.variable (Var h.variable) body

-- a test that is passed twice
both_passed : (l a b r : Bool) → a ≡ true → b ≡ true → ((l && (a && b)) && r) ≡ (l && r)
both_passed true true true r p q = refl
both_passed false true true r p q = refl
both_passed l false b r p q = absurd cc
both_passed l true false r p q = absurd cc

module _ {t : ProgramTree} {s : ℕ} (x : Neighbour t s) where
  abbrev u : ProgramTree
  u = fused x

  abbrev new_body : StmtTrees
  new_body = followed x.own_body (followed x.between (renamed_body x.own x.next x.next_body))

  new_count : statements_count new_body ≡ statements_count x.own_body + statements_count x.next_body
  new_count =
      let first = counted x.own_body (followed x.between (renamed_body x.own x.next x.next_body)) in
      let second = counted x.between (renamed_body x.own x.next x.next_body) in
      let third = renamed_count x.own x.next x.next_body in
      let none = x.comments in
      omega (arith, first, second, third, none)

  inside : (k : ℕ) → s < k → k ≤ s + statements_count x.own_body + statements_count x.next_body → is_in_body s (extent_of u s) k ≡ true
  inside k low high =
      in_body u s (joined_head x.own x.next) new_body k (fused_loop x)
      ∙ both_so (nat_lt s k) (nat_le k (s + statements_count new_body)) (lt-ltb s k low) (le-leb k (s + statements_count new_body) (let e = new_count in omega (arith, high, e)))

  -- both references of a pair that goes back stand in the one DO
  module _ (p : Reference × Reference) (back : goes_back x p ≡ true) where
    abbrev m : ℕ
    m = next_number x

    bounds : ((m ≤ p.0.statement) × (p.0.statement < m + statements_count x.next_body)) × ((s < p.1.statement) × (p.1.statement < m))
    bounds =
        let two = both_of (nat_le m p.0.statement && nat_lt p.0.statement (m + statements_count x.next_body)) (nat_lt s p.1.statement && nat_lt p.1.statement m) back in
        let source = both_of (nat_le m p.0.statement) (nat_lt p.0.statement (m + statements_count x.next_body)) two.0 in
        let sink = both_of (nat_lt s p.1.statement) (nat_lt p.1.statement m) two.1 in
        ((leb-true m p.0.statement source.0, ltb-true p.0.statement (m + statements_count x.next_body) source.1), (ltb-true s p.1.statement sink.0, ltb-true p.1.statement m sink.1))

    source_inside : is_in_body s (extent_of u s) p.0.statement ≡ true
    source_inside = let a = bounds.0.0 in let b = bounds.0.1 in inside p.0.statement (omega (arith, a)) (omega (arith, b))

    sink_inside : is_in_body s (extent_of u s) p.1.statement ≡ true
    sink_inside = let a = bounds.1.0 in let b = bounds.1.1 in inside p.1.statement (omega (arith, a)) (omega (arith, b))

    -- so a dependence between them forbids by its level alone
    same_test : (e : Edge) → IsBetween p.0 p.1 e → forbids_fusion x e ≡ forbids_at (level_at t s) e
    same_test e between =
        both_passed (is_level (level_at u s) e.level) (is_in_body s (extent_of u s) e.source.0) (is_in_body s (extent_of u s) e.sink.0) (not (is_rejected e.mark))
        (ap (λ (z : ℕ × ℕ). is_in_body s (extent_of u s) z.0) between.from ∙ source_inside)
        (ap (λ (z : ℕ × ℕ). is_in_body s (extent_of u s) z.0) between.to ∙ sink_inside)
        ∙ ap (λ (l : ℕ). is_level l e.level && not (is_rejected e.mark)) (sym (fused_level x))

    all_same : (es : List Edge) → All (IsBetween p.0 p.1) es → All (λ e. forbids_fusion x e ≡ forbids_at (level_at t s) e) es
    all_same [] h = All-nil (λ e. forbids_fusion x e ≡ forbids_at (level_at t s) e)
    all_same (e ∷ es) h =
        All-cons (λ f. forbids_fusion x f ≡ forbids_at (level_at t s) f) e es (same_test e (All-head (IsBetween p.0 p.1) e es h)) (all_same es (All-tail (IsBetween p.0 p.1) e es h))

  abbrev Same : Edge → Type 0
  Same e = forbids_fusion x e ≡ forbids_at (level_at t s) e

  same_among : (ps : List (Reference × Reference)) (edges : List Edge) → EdgesOfPairs u (filter (goes_back x) ps) edges → All Same edges
  same_among [] edges are = subst (λ (es : List Edge). All Same es) (sym are) (All-nil Same)
  same_among (p ∷ ps) edges are = by (goes_back x p) refl are (λ es others. same_among ps es others)
    where
      by : (b : Bool) → goes_back x p ≡ b → EdgesOfPairs u (cond b (p ∷ filter (goes_back x) ps) (filter (goes_back x) ps)) edges → ((es : List Edge) → EdgesOfPairs u (filter (goes_back x) ps) es → All Same es) → All Same edges
      by true back (first, rest, is, pair, others) more =
          subst (λ (es : List Edge). All Same es) (sym is) (All-append Same first rest (all_same p back first (all_between u p.0 p.1 first pair)) (more rest others))
      by false back others more = more edges others

  -- the first that the one test finds is the first that the other one finds
  module _ (test other : Edge → Bool) where
    front_same : (front behind : List Edge) → All (λ e. test e ≡ other e) (front ++ behind) → All (λ e. other e ≡ false) front → All (λ e. test e ≡ false) front
    front_same [] behind h k = All-nil (λ e. test e ≡ false)
    front_same (e ∷ front) behind h k =
        All-cons (λ f. test f ≡ false) e front (All-head (λ f. test f ≡ other f) e (front ++ behind) h ∙ All-head (λ f. other f ≡ false) e front k)
        (front_same front behind (All-tail (λ f. test f ≡ other f) e (front ++ behind) h) (All-tail (λ f. other f ≡ false) e front k))

    at_seam : (front behind : List Edge) (e : Edge) → All (λ f. test f ≡ other f) (front ++ e ∷ behind) → test e ≡ other e
    at_seam [] behind e h = All-head (λ f. test f ≡ other f) e behind h
    at_seam (f ∷ front) behind e h = at_seam front behind e (All-tail (λ g. test g ≡ other g) f (front ++ e ∷ behind) h)

    first_same : (edges : List Edge) (e : Edge) → All (λ f. test f ≡ other f) edges → IsFirstForbidding other edges e → IsFirstForbidding test edges e
    first_same edges e h (front, behind, is, forbids, before) =
        let all = subst (λ (es : List Edge). All (λ f. test f ≡ other f) es) is h in
        (front, behind, is, at_seam front behind e all ∙ forbids, front_same front (e ∷ behind) all before)

    none_same : (edges : List Edge) → All (λ f. test f ≡ other f) edges → All (λ f. other f ≡ false) edges → All (λ f. test f ≡ false) edges
    none_same [] h k = All-nil (λ f. test f ≡ false)
    none_same (e ∷ edges) h k =
        All-cons (λ f. test f ≡ false) e edges (All-head (λ f. test f ≡ other f) e edges h ∙ All-head (λ f. other f ≡ false) e edges k)
        (none_same edges (All-tail (λ f. test f ≡ other f) e edges h) (All-tail (λ f. other f ≡ false) e edges k))

module _ (t : ProgramTree) (p : Pair) (is : IsPair t p) (level : ℕ) (at : level ≡ level_at t p.number) where
  own_count : statements_count (stmt_trees p.own.now.body.items) ≡ statements_count is.neighbour.own_body
  own_count = ap statements_count (sym is.own_body)

  next_count : statements_count (stmt_trees p.next.now.body.items) ≡ statements_count is.neighbour.next_body
  next_count = ap statements_count (sym is.next_body)

  same_back : is_back (bodies_of p level) ≡ goes_back is.neighbour
  same_back = λ i. λ (q : Reference × Reference).
      (nat_le (p.number + 1 + own_count i) q.0.statement && nat_lt q.0.statement (p.number + 1 + own_count i + next_count i))
      && (nat_lt p.number q.1.statement && nat_lt q.1.statement (p.number + 1 + own_count i))

  abbrev v : ProgramTree
  v = fused is.neighbour

  to_back : (edges : List Edge) → EdgesOfPairs v (filter (is_back (bodies_of p level)) (pairs (references v))) edges → AreBack is.neighbour edges
  to_back edges = subst (λ (test : Reference × Reference → Bool). EdgesOfPairs v (filter test (pairs (references v))) edges) same_back

  from_back : (edges : List Edge) → AreBack is.neighbour edges → EdgesOfPairs v (filter (is_back (bodies_of p level)) (pairs (references v))) edges
  from_back edges = subst (λ (test : Reference × Reference → Bool). EdgesOfPairs v (filter test (pairs (references v))) edges) (sym same_back)

  same_all : (edges : List Edge) → AreBack is.neighbour edges → All (λ e. forbids_fusion is.neighbour e ≡ forbids_at level e) edges
  same_all edges are =
      subst (λ (l : ℕ). All (λ e. forbids_fusion is.neighbour e ≡ forbids_at l e) edges) (sym at) (same_among is.neighbour (pairs (references v)) edges are)

  -- the first that the code finds forbids the step
  pub some_back : (f : CodeEdge) → IsFirstBack v (bodies_of p level) (pairs (references v)) (Some f)
      → (edges : List Edge) × AreBack is.neighbour edges × (e : Edge) × IsFirstForbidding (forbids_fusion is.neighbour) edges e × (edge_of f ≡ with_present_numbers (next_number is.neighbour) e)
  some_back f (edges, are, (e, first, same, short)) =
      let back = to_back edges are in (
        edges,
        back,
        e,
        first_same is.neighbour (forbids_fusion is.neighbour) (forbids_at level) edges e (same_all edges back) first,
        same ∙ ap (λ (n : ℕ). with_present_numbers (p.number + 1 + n) e) own_count,
      )

  pub short_back : (f : CodeEdge) → IsFirstBack v (bodies_of p level) (pairs (references v)) (Some f) → HasAtMostSixLoops f
  short_back f (edges, are, (e, first, same, short)) = short

  -- where it finds none, none does
  pub no_back : IsFirstBack v (bodies_of p level) (pairs (references v)) None → (edges : List Edge) → AreBack is.neighbour edges → All (λ e. forbids_fusion is.neighbour e ≡ false) edges
  no_back none edges are = none_same is.neighbour (forbids_fusion is.neighbour) (forbids_at level) edges (same_all edges are) (none edges (from_back edges are))
