-- Where evidence has no line, a step with evidence is the plain one.
use Rattle.std.proofs.Common.{◌≡◌, ℕ, List, [], ◌∷◌, ◌++◌, All, Bool, true, false, ◌&&◌, ◌||◌, not, Option, Some, None, refl, sym, ap, ◌∙◌, subst, inl, inr}
use Rattle.std.specs.Prelude.{slice_get}
use Rattle.std.specs.List.{list_any}
use Rattle.std.proofs.lemmas.List.Elements.{All-nil, All-cons, All-head, All-tail}
use Rattle.ped_base.specs.Lists.{has_some}
use Rattle.ped_tree.specs.Tree.{ProgramTree}
use Rattle.ped_edges.specs.Edges.{Edge}
use Rattle.ped_rules.specs.ped_views.specs.declared.directions.Direction.{Direction}
use Rattle.ped_rules.specs.ped_graph.specs.Dependences.{AreEdges}
use Rattle.ped_rules.specs.ped_laws.specs.Acts.Orders.{IsIn}
use Rattle.ped_rules.specs.ped_steps.specs.Causes.{Rules, Cause, rule, dependence, IsFirstForbidding, IsFirstCause}
use Rattle.ped_rules.specs.Carried.{level_at, is_after, has_after, carried, crossing}
use Rattle.ped_rules.specs.Paralleling.{StandsAgainstParallel, paralleling}
use Rattle.ped_loops.specs.Reversing.{StandsAgainstReversal, reversing}
use Rattle.ped_loops.specs.Interchanging.{StandsAgainstInterchange, interchanging}
use Rattle.ped_loops.specs.ByEvidence.{is_open, carried_open, has_open_after, crossing_open, paralleling_by, reversing_by, interchanging_by, IsSameStep}
use Rattle.ped_loops.proofs.SomeVectors.{has_vectors}

-- two tests say the same of each dependence of a program
abbrev SameTests : ProgramTree → (Edge → Bool) → (Edge → Bool) → Type 0
SameTests t p q = (edges : List Edge) → AreEdges t edges → (e : Edge) → IsIn e edges → p e ≡ q e

none_likewise : (p q : Edge → Bool) (edges : List Edge) → ((e : Edge) → IsIn e edges → p e ≡ q e) → All (λ e. p e ≡ false) edges → All (λ e. q e ≡ false) edges
none_likewise p q [] same all = All-nil (λ e. q e ≡ false)
none_likewise p q (e ∷ es) same all =
    All-cons (λ f. q f ≡ false) e es (sym (same e (inl refl)) ∙ All-head (λ f. p f ≡ false) e es all) (none_likewise p q es (λ f i. same f (inr i)) (All-tail (λ f. p f ≡ false) e es all))

in_front : (e f : Edge) (front behind : List Edge) → IsIn e front → IsIn e (front ++ f ∷ behind)
in_front e f [] behind i = absurd i
in_front e f (x ∷ front) behind (inl same) = inl same
in_front e f (x ∷ front) behind (inr i) = inr (in_front e f front behind i)

itself : (f : Edge) (front behind : List Edge) → IsIn f (front ++ f ∷ behind)
itself f [] behind = inl refl
itself f (x ∷ front) behind = inr (itself f front behind)

module _ (t : ProgramTree) (stands : Rules) (p q : Edge → Bool) (same : SameTests t p q) where
  -- so they give a step the same first cause
  same_cause : (c : Option Cause) → IsFirstCause t stands p c → IsFirstCause t stands q c
  same_cause (Some (rule r n)) h = h
  same_cause (Some (dependence e)) h =
      let front = h.3.0 in
      let behind = h.3.1 in
      let there : (f : Edge) → IsIn f (front ++ e ∷ behind) → p f ≡ q f = λ f i. same h.1 h.2 f (subst (IsIn f) (sym h.3.2) i) in
      (h.0, h.1, h.2, (front, behind, h.3.2, sym (there e (itself e front behind)) ∙ h.3.3, none_likewise p q front (λ f i. there f (in_front f e front behind i)) h.3.4))
  same_cause None h = (h.0, λ edges are. none_likewise p q edges (same edges are) (h.1 edges are))

any_true : (vs : List (List Direction)) → list_any (λ v. true) vs ≡ has_some vs
any_true [] = refl
any_true (v ∷ vs) = refl

and_true : (b : Bool) → (b && true) ≡ b
and_true true = refl
and_true false = refl

module _ (s : ℕ) (t : ProgramTree) where
  -- each dependence has a vector, so each is open
  same_carried : SameTests t (carried_open t s []) (carried t s)
  same_carried edges are e i = ap (λ (b : Bool). carried t s e && b) (any_true e.vectors ∙ has_vectors t edges are e i) ∙ and_true (carried t s e)

  after_any : (level : ℕ) (vs : List (List Direction)) → list_any (λ v. is_after (slice_get v level) && true) vs ≡ list_any (λ v. is_after (slice_get v level)) vs
  after_any level [] = refl
  after_any level (v ∷ vs) = λ i. and_true (is_after (slice_get v level)) i || after_any level vs i

  same_crossing : SameTests t (crossing_open t s []) (crossing t s)
  same_crossing edges are e i = ap (λ (b : Bool). carried t s e && b) (after_any (level_at t s) e.vectors)

  back : (p q : Edge → Bool) → SameTests t p q → SameTests t q p
  back p q same edges are e i = sym (same edges are e i)

pub parallel_without : (s : ℕ) → IsSameStep (paralleling_by s []) (paralleling s)
parallel_without s = record {
  statement = refl;
  kind = refl;
  cause = λ t. same_cause t (StandsAgainstParallel s t) (carried_open t s []) (carried t s) (same_carried s t);
  cause_back = λ t. same_cause t (StandsAgainstParallel s t) (carried t s) (carried_open t s []) (back s t (carried_open t s []) (carried t s) (same_carried s t));
  makes = λ t new keep h. h;
  makes_back = λ t new keep h. h;
  asks = λ t data_bytes h. h;
  asks_back = λ t data_bytes h. h;
}

pub reverse_without : (s : ℕ) → IsSameStep (reversing_by s []) (reversing s)
reverse_without s = record {
  statement = refl;
  kind = refl;
  cause = λ t. same_cause t (StandsAgainstReversal s t) (carried_open t s []) (carried t s) (same_carried s t);
  cause_back = λ t. same_cause t (StandsAgainstReversal s t) (carried t s) (carried_open t s []) (back s t (carried_open t s []) (carried t s) (same_carried s t));
  makes = λ t new keep h. h;
  makes_back = λ t new keep h. h;
  asks = λ t data_bytes h. h;
  asks_back = λ t data_bytes h. h;
}

pub interchange_without : (s : ℕ) → IsSameStep (interchanging_by s []) (interchanging s)
interchange_without s = record {
  statement = refl;
  kind = refl;
  cause = λ t. same_cause t (StandsAgainstInterchange s t) (crossing_open t s []) (crossing t s) (same_crossing s t);
  cause_back = λ t. same_cause t (StandsAgainstInterchange s t) (crossing t s) (crossing_open t s []) (back s t (crossing_open t s []) (crossing t s) (same_crossing s t));
  makes = λ t new keep h. h;
  makes_back = λ t new keep h. h;
  asks = λ t data_bytes h. h;
  asks_back = λ t data_bytes h. h;
}
