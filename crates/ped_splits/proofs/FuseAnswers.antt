-- What `fuse` answers, by what its code has found.
use Rattle.std.proofs.Common.{◌≡◌, inl, inr, ℕ, ◌+◌, ◌≤◌, nat_le, nat_lt, List, filter, All, ◌&&◌, ◌||◌, Bool, true, false, Some, None, Ok, Err, refl, sym, ap, subst, ◌∙◌, arith}
use Rattle.std.proofs.lemmas.Bool.{both_ways}
use Rattle.ped_tree.specs.Tree.{Do, Head, StmtTrees, more_stmts, ProgramTree}
use Rattle.ped_tree.specs.Numbering.{statements_count}
use Rattle.ped_tree.specs.Views.{stmt_trees, head_of}
use Rattle.ped_rules.specs.Carried.{level_at, carried}
use Rattle.ped_rules.specs.Steps.{Answers}
use Rattle.ped_rules.specs.ped_steps.specs.declared.causes.Refused.{Refused}
use Rattle.ped_rules.specs.ped_steps.specs.declared.causes.Refused.TheVariants as variant
use Rattle.ped_rules.specs.ped_steps.specs.declared.changes.Change.{Change}
use Rattle.ped_rules.specs.ped_steps.specs.declared.rules.Rule.{Rule}
use Rattle.ped_rules.specs.ped_steps.specs.Causes.{NoRule, IsFirstRule}
use Rattle.ped_rules.specs.ped_steps.specs.Changes.{IsChange}
use Rattle.ped_rules.specs.ped_steps.specs.Replacing.{followed, alone}
use Rattle.ped_rules.specs.ped_steps.specs.Runs.Gaps.{filled}
use Rattle.ped_rules.specs.ped_steps.proofs.RunLaws.FilledGaps.{counted, count_filled, number_room}
use Rattle.ped_rules.specs.ped_flow.specs.Questions.{IsLoop}
use Rattle.ped_rules.specs.ped_graph.specs.Dependences.{EdgesOfPairs}
use Rattle.ped_edges.specs.Edges.{Edge}
use Rattle.ped_edges.specs.declared.edges.Edge.{Edge as CodeEdge}
use Rattle.ped_refs.specs.References.{Reference, references, pairs}
use Rattle.ped_splits.specs.declared.neighbours.Pair.{Pair}
use Rattle.ped_splits.specs.Neighbours.{Neighbour, AreAlike, renamed_body, joined_loop, fused, next_number, kept_without}
use Rattle.ped_splits.specs.Fusing.{Match, WhereEither, StandsAgainstFusion, fusing}
use Rattle.ped_splits.specs.CodePairs.{IsPair, TwoLoops}
use Rattle.ped_splits.specs.CodeFusing.{bodies_of, IsFirstBack}
use Rattle.ped_splits.proofs.Here.{fails_there, passes_there}
use Rattle.ped_splits.proofs.FoundPairs.{one_two}
use Rattle.ped_splits.proofs.GapPlaces.{own_loop}
use Rattle.ped_splits.proofs.NeighbourFound.{Found, one_neighbour}
use Rattle.ped_splits.proofs.FuseOne.{fused_at}
use Rattle.ped_splits.proofs.FusedBack.{some_back, short_back, no_back, renamed_count}

module _ (s : ℕ) (t : ProgramTree) where
  pub refused : (r : Rule) (n : ℕ) (found : Refused) → found ≡ variant.Rule r n → IsFirstRule (StandsAgainstFusion s t) r n → Answers (fusing s) t (Err found)
  refused r n found is first = subst (λ (e : Refused). Answers (fusing s) t (Err e)) (sym is) (first, tt)

left_fails : (a b : Bool) → (a || b) ≡ false → a ≡ false
left_fails true b h = absurd cc
left_fails false b h = refl

right_fails : (a b : Bool) → (a || b) ≡ false → b ≡ false
right_fails true b h = absurd cc
right_fails false b h = h

-- the two that the code has found
module _ (t : ProgramTree) (p : Pair) (is : IsPair t p) where
  pub loop_of_pair : IsLoop t p.number (head_of p.own.now) (stmt_trees p.own.now.body.items)
  loop_of_pair = subst (λ (h : Head). IsLoop t p.number h (stmt_trees p.own.now.body.items)) is.own (subst (λ (b : StmtTrees). IsLoop t p.number is.neighbour.own b) is.own_body (own_loop is.neighbour))

  abbrev pub match_of : AreAlike (head_of p.own.now) (head_of p.next.now) (stmt_trees p.next.now.body.items) → Match t p.number
  match_of a = record {
    neighbour = is.neighbour;
    alike = subst (λ (h : Head). AreAlike h is.neighbour.next is.neighbour.next_body) (sym is.own)
        (subst (λ (k : Head). AreAlike (head_of p.own.now) k is.neighbour.next_body) (sym is.next)
        (subst (λ (b : StmtTrees). AreAlike (head_of p.own.now) (head_of p.next.now) b) (sym is.next_body) a));
  }

  -- the next DO of the program is that of the pair
  next_is : (y : Neighbour t p.number) → (y.next ≡ head_of p.next.now) × (y.next_body ≡ stmt_trees p.next.now.body.items)
  next_is y =
      let same = one_two t p.number y is.neighbour in
      (ap (λ (w : TwoLoops). w.next) same ∙ is.next, ap (λ (w : TwoLoops). w.next_body) same ∙ is.next_body)

  own_is : (y : Neighbour t p.number) → y.own ≡ head_of p.own.now
  own_is y = ap (λ (w : TwoLoops). w.own) (one_two t p.number y is.neighbour) ∙ is.own

  -- a DO that comes next and isn't alike is none that is
  pub no_match : (AreAlike (head_of p.own.now) (head_of p.next.now) (stmt_trees p.next.now.body.items) → ⊥) → Match t p.number → ⊥
  no_match unlike m =
      let n = next_is m.neighbour in
      unlike (subst (λ (h : Head). AreAlike h (head_of p.next.now) (stmt_trees p.next.now.body.items)) (own_is m.neighbour)
      (subst (λ (k : Head). AreAlike m.neighbour.own k (stmt_trees p.next.now.body.items)) n.0
      (subst (λ (b : StmtTrees). AreAlike m.neighbour.own m.neighbour.next b) n.1 m.alike)))

  module _ (test : Head → StmtTrees → Bool) where
    -- a test that one of the two passes
    own_passes : test (head_of p.own.now) (stmt_trees p.own.now.body.items) ≡ true → WhereEither t p.number test p.number
    own_passes holds = inl (passes_there t p.number (head_of p.own.now) (stmt_trees p.own.now.body.items) loop_of_pair test holds)

    next_passes : test (head_of p.next.now) (stmt_trees p.next.now.body.items) ≡ true → WhereEither t p.number test p.number
    next_passes holds = inr (is.neighbour, (λ i. test (is.next i) (is.next_body i)) ∙ holds, refl)

    pub one_passes : (test (head_of p.own.now) (stmt_trees p.own.now.body.items) || test (head_of p.next.now) (stmt_trees p.next.now.body.items)) ≡ true → WhereEither t p.number test p.number
    one_passes = by (test (head_of p.own.now) (stmt_trees p.own.now.body.items)) refl
      where
        by : (b : Bool) → test (head_of p.own.now) (stmt_trees p.own.now.body.items) ≡ b → (b || test (head_of p.next.now) (stmt_trees p.next.now.body.items)) ≡ true → WhereEither t p.number test p.number
        by true is h = own_passes is
        by false is h = next_passes h

    -- and that none of them passes
    pub none_passes : (test (head_of p.own.now) (stmt_trees p.own.now.body.items) || test (head_of p.next.now) (stmt_trees p.next.now.body.items)) ≡ false → (n : ℕ) → WhereEither t p.number test n → ⊥
    none_passes none n (inl w) =
        fails_there t p.number (head_of p.own.now) (stmt_trees p.own.now.body.items) loop_of_pair test
        (left_fails (test (head_of p.own.now) (stmt_trees p.own.now.body.items)) (test (head_of p.next.now) (stmt_trees p.next.now.body.items)) none) n w
    none_passes none n (inr (y, holds, at)) =
        let same = next_is y in
        both_ways (test y.next y.next_body)
        ((λ i. test (same.0 i) (same.1 i)) ∙ right_fails (test (head_of p.own.now) (stmt_trees p.own.now.body.items)) (test (head_of p.next.now) (stmt_trees p.next.now.body.items)) none) holds

  pub number_of_next : p.number + 1 + statements_count (stmt_trees p.own.now.body.items) ≡ next_number is.neighbour
  number_of_next = ap (λ (b : StmtTrees). p.number + 1 + statements_count b) (sym is.own_body)

  -- how many statements there are
  pub pair_fits : p.number + 1 + statements_count (stmt_trees p.own.now.body.items) + statements_count (stmt_trees p.next.now.body.items) ≤ statements_count t.body
  pair_fits =
      let x = is.neighbour in
      let two = more_stmts (Do x.own x.own_body) (followed x.between (alone (Do x.next x.next_body))) in
      let whole : statements_count t.body ≡ statements_count (filled x.gap two) = ap statements_count x.stands in
      let room = number_room x.gap two 1 in
      let at = x.numbered in
      let behind = counted x.between (alone (Do x.next x.next_body)) in
      let own : statements_count x.own_body ≡ statements_count (stmt_trees p.own.now.body.items) = ap statements_count is.own_body in
      let next : statements_count x.next_body ≡ statements_count (stmt_trees p.next.now.body.items) = ap statements_count is.next_body in
      omega (arith, whole, room, at, behind, own, next)

  pub fused_count : statements_count (fused is.neighbour).body + 1 ≡ statements_count t.body
  fused_count =
      let x = is.neighbour in
      let two = more_stmts (Do x.own x.own_body) (followed x.between (alone (Do x.next x.next_body))) in
      let whole : statements_count t.body ≡ statements_count (filled x.gap two) = ap statements_count x.stands in
      let both = count_filled two (joined_loop x) x.gap in
      let behind = counted x.between (alone (Do x.next x.next_body)) in
      let first = counted x.own_body (followed x.between (renamed_body x.own x.next x.next_body)) in
      let second = counted x.between (renamed_body x.own x.next x.next_body) in
      let third = renamed_count x.own x.next x.next_body in
      omega (arith, whole, both, behind, first, second, third)

-- where no DO comes next, only the first is asked
module _ (t : ProgramTree) (s : ℕ) (none : Neighbour t s → ⊥) (h : Head) (body : StmtTrees) (is : IsLoop t s h body) (test : Head → StmtTrees → Bool) where
  pub alone_passes : test h body ≡ true → WhereEither t s test s
  alone_passes holds = inl (passes_there t s h body is test holds)

  pub alone_fails : test h body ≡ false → (n : ℕ) → WhereEither t s test n → ⊥
  alone_fails fails n (inl w) = fails_there t s h body is test fails n w
  alone_fails fails n (inr w) = none w.0

pub nobody_next : (t : ProgramTree) (s : ℕ) → (Neighbour t s → ⊥) → Match t s → ⊥
nobody_next t s none m = none m.neighbour

-- no dependence that leads back forbids the step, by what is found
abbrev Unforbidden : ProgramTree → (s : ℕ) → List Edge → Found → Type 0
Unforbidden t s edges f =
    let m = s + 1 + statements_count f.own_body in
    EdgesOfPairs (fused_at t f)
    (filter (λ (q : Reference × Reference). (nat_le m q.0.statement && nat_lt q.0.statement (m + statements_count f.next_body)) && (nat_lt s q.1.statement && nat_lt q.1.statement m)) (pairs (references (fused_at t f)))) edges
    → All (λ e. carried (fused_at t f) s e ≡ false) edges

-- where no rule stands: a dependence forbids the step, or none does
module _ (t : ProgramTree) (p : Pair) (is : IsPair t p) (level : ℕ) (at : level ≡ level_at t p.number) (m : AreAlike (head_of p.own.now) (head_of p.next.now) (stmt_trees p.next.now.body.items))
    (nothing : NoRule (StandsAgainstFusion p.number t)) where
  pub forbidden : (f : CodeEdge) (found : Refused) → found ≡ variant.Dependence f → IsFirstBack (fused is.neighbour) (bodies_of p level) (pairs (references (fused is.neighbour))) (Some f) → Answers (fusing p.number) t (Err found)
  forbidden f found same back =
      let some = some_back t p is level at f back in
      subst (λ (e : Refused). Answers (fusing p.number) t (Err e)) (sym same) ((nothing, match_of t p is m, some.0, some.1, some.2, some.3, some.4), short_back t p is level at f back)

  pub accepted : (change : Change) → IsChange (fused is.neighbour) (kept_without (next_number is.neighbour) t) change
      → IsFirstBack (fused is.neighbour) (bodies_of p level) (pairs (references (fused is.neighbour))) None → Answers (fusing p.number) t (Ok change)
  accepted change made back = (
    (nothing, λ a edges are. subst (Unforbidden t p.number edges) (one_neighbour t p.number is.neighbour a.neighbour) (no_back t p is level at back edges) are),
    fused is.neighbour,
    kept_without (next_number is.neighbour) t,
    (match_of t p is m, refl, refl),
    made,
  )
