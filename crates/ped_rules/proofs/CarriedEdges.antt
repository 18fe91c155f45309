-- Dependences that pass a test are kept in their order; so the first that is kept is the first that passes it.
use Rattle.std.proofs.Common.{◌≡◌, ℕ, ◌+◌, nat_le, List, [], ◌∷◌, map, filter, cond, Bool, true, false, ◌&&◌, All, Option, Some, None, MatchOption, refl, sym, ap, ◌∙◌, subst, arith}
use Rattle.std.specs.Prelude.{nat_lt}
use Rattle.std.proofs.lemmas.Bool.Decides.{nat_tests}
use Rattle.std.proofs.lemmas.List.Elements.{All-nil, All-cons, All-head, All-filter}
use Rattle.ped_tree.specs.Tree.{Head, StmtTrees, ProgramTree}
use Rattle.ped_tree.specs.Numbering.{statements_count}
use Rattle.ped_edges.specs.Edges.{Edge}
use Rattle.ped_edges.specs.CodeEdges.{edge_of, HasAtMostSixLoops}
use Rattle.ped_edges.specs.declared.edges.Edge.{Edge as CodeEdge}
use Rattle.ped_loop_runs.specs.ped_graph.specs.DependencePane.{extent_by, extent_of, is_in_body}
use Rattle.ped_loop_runs.specs.ped_graph.proofs.OnePane.{one_edges}
use Rattle.ped_loop_runs.specs.ped_flow.specs.Questions.{IsLoop}
use Rattle.ped_loop_runs.specs.ped_steps.specs.Causes.{IsFirstForbidding}
use Rattle.ped_rules.specs.Carried.{IsFirstOf}
use Rattle.ped_rules.specs.CodeCarried.{AreThose}

-- one more item, kept or not
kept_mapped : {X Y : Type 0} (f : X → Y) (x : X) (xs : List X) (ys : List Y) (keeps : Bool) → map f xs ≡ ys → map f (cond keeps (x ∷ xs) xs) ≡ cond keeps (f x ∷ ys) ys
kept_mapped f x xs ys true e = ap (λ (zs : List _). f x ∷ zs) e
kept_mapped f x xs ys false e = e

-- to keep items by what they stand for is to keep what they stand for
filter_mapped : {X Y : Type 0} (f : X → Y) (p : Y → Bool) (xs : List X) → map f (filter (λ x. p (f x)) xs) ≡ filter p (map f xs)
filter_mapped f p [] = refl
filter_mapped f p (x ∷ xs) = kept_mapped f x (filter (λ y. p (f y)) xs) (filter p (map f xs)) (p (f x)) (filter_mapped f p xs)

module _ {X : Type 0} (p q : X → Bool) where
  kept_twice : (x : X) (xs ys : List X) (a b : Bool) → q x ≡ b → filter q xs ≡ ys → filter q (cond a (x ∷ xs) xs) ≡ cond (a && b) (x ∷ ys) ys
  kept_twice x xs ys true b e h = (λ i. cond (e i) (x ∷ h i) (h i))
  kept_twice x xs ys false b e h = h

  -- two tests one behind the other
  filter_both : (xs : List X) → filter q (filter p xs) ≡ filter (λ x. p x && q x) xs
  filter_both [] = refl
  filter_both (x ∷ xs) = kept_twice x (filter p xs) (filter (λ y. p y && q y) xs) (p x) (q x) refl (filter_both xs)

module _ (t : ProgramTree) where
  -- dependences that pass one test, and of those the ones that pass another
  pub both_tests : (p q : Edge → Bool) (found kept : List CodeEdge) → AreThose t p found → kept ≡ filter (λ e. q (edge_of e)) found → AreThose t (λ e. p e && q e) kept
  both_tests p q found kept those is = record {
    all = those.all;
    are = those.are;
    those = ap (λ (es : List CodeEdge). map edge_of es) is ∙ filter_mapped edge_of q found ∙ ap (filter q) those.those ∙ filter_both p q those.all;
    short = subst (λ (es : List CodeEdge). All HasAtMostSixLoops es) (sym is) (All-filter (λ e. q (edge_of e)) HasAtMostSixLoops found those.short);
  }

module _ (test : Edge → Bool) where
  head_is : (e f : Edge) (es fs : List Edge) → e ∷ es ≡ f ∷ fs → e ≡ f
  head_is e f es fs h = cc

  nothing_first : (e : Edge) (es : List Edge) → ◌≡◌ {A = List Edge} [] (e ∷ es) → ⊥
  nothing_first e es h = cc

  first_by : (all : List Edge) (e : Edge) (rest : List Edge) → filter test all ≡ e ∷ rest → IsFirstForbidding test all e
  first_by [] e rest h = absurd (nothing_first e rest h)
  first_by (a ∷ all) e rest h = by (test a) refl (first_by all e rest)
    where
      by : (b : Bool) → test a ≡ b → (filter test all ≡ e ∷ rest → IsFirstForbidding test all e) → IsFirstForbidding test (a ∷ all) e
      by true is next =
          let here : a ∷ filter test all ≡ e ∷ rest = sym (ap (λ (b : Bool). cond b (a ∷ filter test all) (filter test all)) is) ∙ h in
          subst (λ (z : Edge). IsFirstForbidding test (a ∷ all) z) (head_is a e (filter test all) rest here) ([], all, refl, is, All-nil (λ f. test f ≡ false))
      by false is next =
          let behind = next (sym (ap (λ (b : Bool). cond b (a ∷ filter test all) (filter test all)) is) ∙ h) in
          (a ∷ behind.0, behind.1, ap (λ (es : List Edge). a ∷ es) behind.2, behind.3, All-cons (λ f. test f ≡ false) a behind.0 is behind.4)

  none_by : (all : List Edge) → filter test all ≡ [] → All (λ e. test e ≡ false) all
  none_by [] h = All-nil (λ f. test f ≡ false)
  none_by (a ∷ all) h = by (test a) refl (none_by all)
    where
      by : (b : Bool) → test a ≡ b → (filter test all ≡ [] → All (λ e. test e ≡ false) all) → All (λ e. test e ≡ false) (a ∷ all)
      by true is next = absurd (nothing_first a (filter test all) (sym h ∙ ap (λ (b : Bool). cond b (a ∷ filter test all) (filter test all)) is))
      by false is next = All-cons (λ f. test f ≡ false) a all is (next (sym (ap (λ (b : Bool). cond b (a ∷ filter test all) (filter test all)) is) ∙ h))

module _ (t : ProgramTree) (test : Edge → Bool) (found : List CodeEdge) (those : AreThose t test found) where
  pub first_found : (e : CodeEdge) (rest : List CodeEdge) → found ≡ e ∷ rest → IsFirstOf t test (Some e)
  first_found e rest is =
      let here = sym those.those ∙ ap (λ (es : List CodeEdge). map edge_of es) is in
      let short = subst (λ (es : List CodeEdge). All HasAtMostSixLoops es) is those.short in
      ((those.all, those.are, first_by test those.all (edge_of e) (map edge_of rest) here), All-head HasAtMostSixLoops e rest short)

  pub none_found : found ≡ [] → IsFirstOf t test None
  none_found is = λ edges are.
      subst (λ (es : List Edge). All (λ e. test e ≡ false) es) (one_edges t those.all edges those.are are)
      (none_by test those.all (sym those.those ∙ ap (λ (es : List CodeEdge). map edge_of es) is))

-- the first of the dependences that are kept
pub found_first : (t : ProgramTree) (test : Edge → Bool) (found : List CodeEdge) (r : Option CodeEdge) → AreThose t test found
    → MatchOption r (found ≡ []) (λ e. (rest : List CodeEdge) × (found ≡ e ∷ rest)) → IsFirstOf t test r
found_first t test found None those is = none_found t test found those is
found_first t test found (Some e) those is = first_found t test found those e is.0 is.1

-- a statement in the body of a DO, by how many statements the body has
pub in_body : (t : ProgramTree) (s : ℕ) (h : Head) (body : StmtTrees) (k : ℕ) → IsLoop t s h body → is_in_body s (extent_of t s) k ≡ (nat_lt s k && nat_le k (s + statements_count body))
in_body t s h body k is = ap (λ o. is_in_body s (extent_by o) k) is ∙ by (statements_count body)
  where
    by : (n : ℕ) → (nat_lt s k && nat_lt k (s + (n + 1))) ≡ (nat_lt s k && nat_le k (s + n))
    by n = grind (arith, nat_tests)
