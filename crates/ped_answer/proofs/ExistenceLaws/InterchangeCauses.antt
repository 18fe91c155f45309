-- `interchange` has a first cause against it in a program, or none.
use Rattle.std.proofs.Common.{◌≡◌, ◌⊎◌, ℕ, ◌+◌, inl, inr, refl, sym, Bool, Option, Some, None, MatchOption, subst, arith}
use Rattle.ped_tree.specs.Tree.{ExprTree, Head, StmtTrees, ProgramTree}
use Rattle.ped_session.specs.ped_flow.specs.PlainBounds.{IsPlain}
use Rattle.ped_session.specs.ped_flow.specs.Questions.{LoopOf}
use Rattle.ped_session.specs.ped_symbols.specs.Kinds.{table_of}
use Rattle.ped_session.specs.ped_steps.specs.declared.rules.Rule.TheVariants.{NoLoop, NotPerfect, ParallelState, HasPrivate, IndexEscapes, BoundNotPlain, BoundsShape, StepShape, Range, Limit}
use Rattle.ped_session.specs.ped_steps.specs.Causes.{Cause, IsFirstCause}
use Rattle.ped_session.specs.ped_rules.specs.ped_edges.specs.Edges.{Edge}
use Rattle.ped_session.specs.ped_rules.specs.KeepMaps.{all_but}
use Rattle.ped_session.specs.ped_rules.specs.OnlyLoops.{only_loop, either}
use Rattle.ped_session.specs.ped_rules.specs.Rules.{WhereNoLoop, WhereEscape, WhereUnplain, WhereLimit, HasUnplain, isnt_perfect, is_parallel, has_private}
use Rattle.ped_session.specs.ped_rules.specs.Chains.{WhereLoop}
use Rattle.ped_session.specs.ped_rules.proofs.Decided.{loop_decided}
use Rattle.ped_session.specs.ped_rules.specs.Rules.{IsBoundOf}
use Rattle.ped_session.specs.ped_transformations.specs.ped_loops.specs.Interchanging.{IsBoundOfEither, MakesInterchanged, StandsAgainstInterchange, interchanged, is_tied}
use Rattle.ped_session.specs.ped_transformations.specs.ped_loops.proofs.InterchangeRules as rules
use Rattle.ped_session.specs.ped_rules.proofs.HeadLaws.PlainDecided.{plain_decided}
use Rattle.ped_answer.specs.Existence.Deciding.{Decided}
use Rattle.ped_answer.proofs.ExistenceLaws.ChainCauses.{Settled, found_link, found_last, settled_no_loop, one_loop, settled_where, settled_escape, settled_limit, some_cause}

module _ (t : ProgramTree) (s : ℕ) where
  abbrev Asked : ℕ → ExprTree → Type 0
  Asked = IsBoundOfEither t s

  -- a bound of this DO, or of the one DO in its body
  abbrev Bound : ℕ → Head → StmtTrees → ExprTree → Type 0
  Bound n h body e = ((n ≡ s) × IsBoundOf h e) ⊎ ((n ≡ s + 1) × MatchOption (only_loop body) ⊥ (λ g. IsBoundOf g.0 e))

  module _ (l : LoopOf t s) where
    asked_at : (n : ℕ) (e : ExprTree) → IsBoundOfEither t s n e → Bound n l.head l.body e
    asked_at n e asked =
        let same = one_loop t s asked.0 l in
        subst (λ (h : Head). Bound n h l.body e) same.0 (subst (λ (body : StmtTrees). Bound n asked.0.head body e) same.1 asked.1)

    -- one of the two bounds of a DO isn't plain, or both are
    bounds_decided : (k : ℕ) (h : Head) → ((e : ExprTree) → IsBoundOf h e → IsBoundOfEither t s k e) → ((e : ExprTree) → IsBoundOfEither t s k e → IsBoundOf h e) → Decided (HasUnplain t Asked k)
    bounds_decided k h to from = by (plain_decided (table_of t).constants t k h.first) (plain_decided (table_of t).constants t k h.last)
      where
        by : Decided (IsPlain (table_of t).constants t k h.first) → Decided (IsPlain (table_of t).constants t k h.last) → Decided (HasUnplain t Asked k)
        by (inr n) d = inl (h.first, to h.first (inl refl), n)
        by (inl p) (inr n) = inl (h.last, to h.last (inr refl), n)
        by (inl p) (inl q) = inr (λ x. elim (from x.0 x.1) [
          | inl e ↦ x.2 (subst (IsPlain (table_of t).constants t k) (sym e) p)
          | inr e ↦ x.2 (subst (IsPlain (table_of t).constants t k) (sym e) q)
        ])

    outer_decided : Decided (HasUnplain t Asked s)
    outer_decided = bounds_decided s l.head (λ e b. (l, inl (refl, b))) from
      where
        from : (e : ExprTree) → IsBoundOfEither t s s e → IsBoundOf l.head e
        from e asked = elim (asked_at s e asked) [
          | inl p ↦ p.1
          | inr p ↦ (let wrong = p.0 in absurd (omega (arith, wrong)))
        ]

    inner_decided : (o : Option (Head × StmtTrees)) → only_loop l.body ≡ o → Decided (HasUnplain t Asked (s + 1))
    inner_decided None only = inr (λ x. elim (asked_at (s + 1) x.0 x.1) [
      | inl p ↦ (let wrong = p.0 in absurd (omega (arith, wrong)))
      | inr p ↦ subst (λ (o : Option (Head × StmtTrees)). MatchOption o ⊥ (λ g. IsBoundOf g.0 x.0)) only p.1
    ])
    inner_decided (Some g) only = bounds_decided (s + 1) g.0 (λ e b. (l, inr (refl, subst (λ (o : Option (Head × StmtTrees)). MatchOption o ⊥ (λ f. IsBoundOf f.0 e)) (sym only) b))) from
      where
        from : (e : ExprTree) → IsBoundOfEither t s (s + 1) e → IsBoundOf g.0 e
        from e asked = elim (asked_at (s + 1) e asked) [
          | inl p ↦ (let wrong = p.0 in absurd (omega (arith, wrong)))
          | inr p ↦ subst (λ (o : Option (Head × StmtTrees)). MatchOption o ⊥ (λ f. IsBoundOf f.0 e)) only p.1
        ]

    -- a bound that isn't plain is one of the two
    one_of_both : (k : ℕ) → HasUnplain t Asked k → (k ≡ s) ⊎ (k ≡ s + 1)
    one_of_both k x = elim (asked_at k x.0 x.1) [
      | inl p ↦ inl p.0
      | inr p ↦ inr p.0
    ]

    unplain_at : Decided (HasUnplain t Asked s) → Decided (HasUnplain t Asked (s + 1)) → Settled (WhereUnplain t s Asked)
    unplain_at (inl u) d = (
      Some s,
      (
        l,
        (
          u,
          λ k x. elim (one_of_both k x) [
            | inl e ↦ omega (arith, e)
            | inr e ↦ omega (arith, e)
          ],
        ),
      ),
    )
    unplain_at (inr n) (inl u) = (
      Some (s + 1),
      (
        l,
        (
          u,
          λ k x. elim (one_of_both k x) [
            | inl e ↦ absurd (n (subst (HasUnplain t Asked) e x))
            | inr e ↦ omega (arith, e)
          ],
        ),
      ),
    )
    unplain_at (inr n) (inr m) = (
      None,
      λ k p. elim (one_of_both k p.1.0) [
        | inl e ↦ n (subst (HasUnplain t Asked) e p.1.0)
        | inr e ↦ m (subst (HasUnplain t Asked) e p.1.0)
      ],
    )

  settled_unplain : Settled (WhereUnplain t s Asked)
  settled_unplain = by (loop_decided t s)
    where
      by : Decided (LoopOf t s) → Settled (WhereUnplain t s Asked)
      by (inl l) = unplain_at l (outer_decided l) (inner_decided l (only_loop l.body) refl)
      by (inr n) = (None, λ m p. n p.0)

  pub interchange_cause : (forbids : Edge → Bool) → (c : Option Cause) × IsFirstCause t (StandsAgainstInterchange s t) forbids c
  interchange_cause forbids = some_cause t (StandsAgainstInterchange s t) forbids
      (found_link NoLoop (WhereNoLoop t s) (rules.perfect s t) (rules.perfect_chain s t) (settled_no_loop t s)
      (found_link NotPerfect (WhereLoop t s isnt_perfect) (rules.state s t) (rules.state_chain s t) (settled_where t s isnt_perfect)
      (found_link ParallelState (WhereLoop t s (either is_parallel)) (rules.list s t) (rules.list_chain s t) (settled_where t s (either is_parallel))
      (found_link HasPrivate (WhereLoop t s (either has_private)) (rules.escape s t) (rules.escape_chain s t) (settled_where t s (either has_private))
      (found_link IndexEscapes (WhereEscape t s) (rules.bound s t) (rules.bound_chain s t) (settled_escape t s)
      (found_link BoundNotPlain (WhereUnplain t s Asked) (rules.shape s t) (rules.shape_chain s t) settled_unplain
      (found_link BoundsShape (WhereLoop t s is_tied) (rules.unit s t) (rules.unit_chain s t) (settled_where t s is_tied)
      (found_link StepShape (WhereLoop t s (rules.units s t)) (rules.range s t) (rules.range_chain s t) (settled_where t s (rules.units s t))
      (found_link Range (WhereLoop t s (rules.far s t)) (rules.limit s t) (rules.limit_chain s t) (settled_where t s (rules.far s t))
      (found_last Limit (WhereLimit (MakesInterchanged s) t s) (settled_limit t s (MakesInterchanged s) (rules.one_made s t) (λ l. (interchanged t s, all_but s (s + 1) t, (refl, refl))))))))))))))
