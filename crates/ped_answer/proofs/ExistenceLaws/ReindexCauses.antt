-- `skew`, `strip` and `peel` have a first cause against them in a program, or none.
use Rattle.std.proofs.Common.{◌≡◌, ◌⊎◌, ℕ, ℤ, inl, inr, sym, ap, ◌∙◌, Bool, true, false, List, Option, Some, None, refl}
use Rattle.std.proofs.lemmas.Bool.{both_ways}
use Rattle.ped_tree.specs.Tree.{ProgramTree}
use Rattle.ped_session.specs.ped_flow.specs.PlainBounds.{IsPlain}
use Rattle.ped_session.specs.ped_flow.specs.Questions.{LoopOf}
use Rattle.ped_session.specs.ped_symbols.specs.Kinds.{table_of}
use Rattle.ped_session.specs.ped_symbols.specs.NameRefusals.{IsValid}
use Rattle.ped_session.specs.ped_transformations.specs.ped_reindex.specs.Skewing.{has_bad_factor, skewed, MakesSkewed, skew_leaves, StandsAgainstSkewing}
use Rattle.ped_session.specs.ped_transformations.specs.ped_reindex.specs.Stripping.{has_bad_size, strip_variable, stripped, MakesStripped, IsItsLimit, strip_leaves, StandsAgainstStripping}
use Rattle.ped_session.specs.ped_transformations.specs.ped_reindex.specs.Peeling.{Peeled, peeled_of, peeled, peel_kept, MakesPeeled, StandsAgainstPeeling}
use Rattle.ped_session.specs.ped_rules.proofs.HeadLaws.PlainDecided.{plain_decided}
use Rattle.ped_session.specs.ped_transformations.specs.ped_reindex.proofs.SkewRules as skew
use Rattle.ped_session.specs.ped_transformations.specs.ped_reindex.proofs.StripRules as strip
use Rattle.ped_session.specs.ped_transformations.specs.ped_reindex.proofs.PeelRules as peel
use Rattle.ped_session.specs.ped_steps.specs.declared.rules.Rule.TheVariants.{NoLoop, NotPerfect, ParallelState, HasPrivate, IndexEscapes, BoundNotPlain, StepShape, Range, NotConstant, Limit, BadFactor}
use Rattle.ped_session.specs.ped_steps.specs.Causes.{Cause, IsFirstCause, none_forbids}
use Rattle.ped_session.specs.ped_steps.specs.Replacing.{all_kept}
use Rattle.ped_session.specs.ped_rules.specs.Chains.{WhereLoop, Unless}
use Rattle.ped_session.specs.ped_rules.specs.KeepMaps.{moved_by}
use Rattle.ped_session.specs.ped_rules.specs.OnlyLoops.{either}
use Rattle.ped_session.specs.ped_rules.specs.Rules.{WhereNoLoop, isnt_perfect, is_parallel, has_private, WhereEscape, WhereUnplain, WhereLimit}
use Rattle.ped_session.specs.ped_rules.proofs.Decided.{loop_decided, valid_decided, limit_stands}
use Rattle.ped_answer.specs.Existence.Deciding.{Decided}
use Rattle.ped_answer.proofs.ExistenceLaws.ChainCauses.{Settled, found_link, found_last, settled_no_loop, one_loop, settled_where, settled_escape, settled_limit, some_cause}

-- a rule that isn't asked where a number isn't allowed
settled_unless : (bad : Bool) (P : ℕ → Type 0) → Settled P → Settled (Unless bad P)
settled_unless bad P settled = by bad refl settled
  where
    by : (b : Bool) → bad ≡ b → Settled P → Settled (Unless bad P)
    by true is s = (None, λ n p. both_ways bad p.0 is)
    by false is (Some n, p) = (Some n, (is, p))
    by false is (None, none) = (None, λ n p. none n p.1)

module _ (t : ProgramTree) (s : ℕ) where
  -- a new program that some DO loops don't have
  settled_made : (Makes : ProgramTree → ProgramTree → List (ℕ × ℕ) → Type 0)
      → ((new other : ProgramTree) (keep more : List (ℕ × ℕ)) → Makes t new keep → Makes t other more → (new ≡ other) × (keep ≡ more))
      → (LoopOf t s → ((new : ProgramTree) × (keep : List (ℕ × ℕ)) × Makes t new keep) ⊎ ((new : ProgramTree) (keep : List (ℕ × ℕ)) → Makes t new keep → ⊥)) → Settled (WhereLimit Makes t s)
  settled_made Makes one some = by (loop_decided t s)
    where
      valid_or : (l : LoopOf t s) (new : ProgramTree) (keep : List (ℕ × ℕ)) → Makes t new keep → IsValid new ⊎ (IsValid new → ⊥) → Settled (WhereLimit Makes t s)
      valid_or l new keep makes (inl valid) = (None, λ n h. h.1 new keep makes valid)
      valid_or l new keep makes (inr invalid) = (Some s, limit_stands Makes t s l one new keep makes invalid)

      on : (l : LoopOf t s) → ((new : ProgramTree) × (keep : List (ℕ × ℕ)) × Makes t new keep) ⊎ ((new : ProgramTree) (keep : List (ℕ × ℕ)) → Makes t new keep → ⊥) → Settled (WhereLimit Makes t s)
      on l (inl made) = valid_or l made.0 made.1 made.2 (valid_decided made.0)
      on l (inr none) = (Some s, (l, (λ new keep makes valid. none new keep makes), refl))

      by : LoopOf t s ⊎ (LoopOf t s → ⊥) → Settled (WhereLimit Makes t s)
      by (inl l) = on l (some l)
      by (inr n) = (None, λ m p. n p.0)

  module _ (f : ℤ) where
    pub skew_cause : (c : Option Cause) × IsFirstCause t (StandsAgainstSkewing s f t) none_forbids c
    skew_cause = some_cause t (StandsAgainstSkewing s f t) none_forbids
        (found_link NoLoop (WhereNoLoop t s) (skew.perfect s f t) (skew.perfect_chain s f t) (settled_no_loop t s)
        (found_link NotPerfect (WhereLoop t s isnt_perfect) (skew.state s f t) (skew.state_chain s f t) (settled_where t s isnt_perfect)
        (found_link ParallelState (WhereLoop t s (either is_parallel)) (skew.escape s f t) (skew.escape_chain s f t) (settled_where t s (either is_parallel))
        (found_link IndexEscapes (WhereEscape t s) (skew.range s f t) (skew.range_chain s f t) (settled_escape t s)
        (found_link Range (Unless (skew.bad s f t) (skew.Leaving s f t)) (skew.limit s f t) (skew.limit_chain s f t) (settled_unless (skew.bad s f t) (skew.Leaving s f t) (settled_where t s (skew_leaves t s f)))
        (found_link Limit (Unless (skew.bad s f t) (skew.Limited s f t)) (skew.factor s f t) (skew.factor_chain s f t)
        (settled_unless (skew.bad s f t) (skew.Limited s f t) (settled_limit t s (MakesSkewed s f) (skew.one_made s f t) (λ l. (skewed t s f, all_kept t, (refl, refl)))))
        (found_last BadFactor (WhereLoop t s (has_bad_factor f)) (settled_where t s (has_bad_factor f)))))))))

  module _ (k : ℤ) where
    -- the limit is plain, or it isn't
    settled_plain : Settled (WhereUnplain t s (IsItsLimit t s))
    settled_plain = by (loop_decided t s)
      where
        on : (l : LoopOf t s) → Decided (IsPlain (table_of t).constants t s l.head.last) → Settled (WhereUnplain t s (IsItsLimit t s))
        on l (inr unplain) = (Some s, strip.unplain_there s k t l.head l.body l.is unplain)
        on l (inl plain) = (None, strip.no_unplain s k t l.head l.body l.is plain)

        by : LoopOf t s ⊎ (LoopOf t s → ⊥) → Settled (WhereUnplain t s (IsItsLimit t s))
        by (inl l) = on l (plain_decided (table_of t).constants t s l.head.last)
        by (inr n) = (None, λ m p. n p.0)

    some_strips : (o : Option (List ℕ)) → strip_variable t ≡ o → ((new : ProgramTree) × (keep : List (ℕ × ℕ)) × MakesStripped s k t new keep) ⊎ ((new : ProgramTree) (keep : List (ℕ × ℕ)) → MakesStripped s k t new keep → ⊥)
    some_strips (Some w) e = inl (stripped t s k w, moved_by s 1 t, (w, e, refl, refl))
    some_strips None e = inr (λ new keep made. let f : None ≡ Some made.0 = sym e ∙ made.1 in absurd cc)

    pub strip_cause : (c : Option Cause) × IsFirstCause t (StandsAgainstStripping s k t) none_forbids c
    strip_cause = some_cause t (StandsAgainstStripping s k t) none_forbids
        (found_link NoLoop (WhereNoLoop t s) (strip.state s k t) (strip.state_chain s k t) (settled_no_loop t s)
        (found_link ParallelState (WhereLoop t s is_parallel) (strip.shared s k t) (strip.shared_chain s k t) (settled_where t s is_parallel)
        (found_link HasPrivate (WhereLoop t s has_private) (strip.escape s k t) (strip.escape_chain s k t) (settled_where t s has_private)
        (found_link IndexEscapes (WhereEscape t s) (strip.plain s k t) (strip.plain_chain s k t) (settled_escape t s)
        (found_link BoundNotPlain (WhereUnplain t s (IsItsLimit t s)) (strip.shape s k t) (strip.shape_chain s k t) settled_plain
        (found_link StepShape (WhereLoop t s (strip.other_step s k t)) (strip.range s k t) (strip.range_chain s k t) (settled_where t s (strip.other_step s k t))
        (found_link Range (Unless (strip.bad s k t) (strip.Leaving s k t)) (strip.limit s k t) (strip.limit_chain s k t) (settled_unless (strip.bad s k t) (strip.Leaving s k t) (settled_where t s (strip_leaves t s k)))
        (found_link Limit (Unless (strip.bad s k t) (strip.Limited s k t)) (strip.size s k t) (strip.size_chain s k t)
        (settled_unless (strip.bad s k t) (strip.Limited s k t) (settled_made (MakesStripped s k) (strip.one_made s k t) (λ l. some_strips (strip_variable t) refl)))
        (found_last BadFactor (WhereLoop t s (has_bad_size k)) (settled_where t s (has_bad_size k)))))))))))

  module _ (last : Bool) where
    some_peeled : (l : LoopOf t s) (o : Option Peeled) → peeled_of last (table_of t).constants l.head ≡ o → ((new : ProgramTree) × (keep : List (ℕ × ℕ)) × MakesPeeled s last t new keep) ⊎ ((new : ProgramTree) (keep : List (ℕ × ℕ)) → MakesPeeled s last t new keep → ⊥)
    some_peeled l (Some p) e = inl (peeled t s last p, peel_kept t s last l.body, (l, p, e, refl, refl))
    some_peeled l None e = inr (λ new keep made. let f : None ≡ Some made.1 = sym e ∙ ap (peeled_of last (table_of t).constants) (one_loop t s l made.0).0 ∙ made.2 in absurd cc)

    pub peel_cause : (c : Option Cause) × IsFirstCause t (StandsAgainstPeeling s last t) none_forbids c
    peel_cause = some_cause t (StandsAgainstPeeling s last t) none_forbids
        (found_link NoLoop (WhereNoLoop t s) (peel.state s last t) (peel.state_chain s last t) (settled_no_loop t s)
        (found_link ParallelState (WhereLoop t s is_parallel) (peel.shared s last t) (peel.shared_chain s last t) (settled_where t s is_parallel)
        (found_link HasPrivate (WhereLoop t s has_private) (peel.escape s last t) (peel.escape_chain s last t) (settled_where t s has_private)
        (found_link IndexEscapes (WhereEscape t s) (peel.range s last t) (peel.range_chain s last t) (settled_escape t s)
        (found_link Range (WhereLoop t s (peel.far s last t)) (peel.constant s last t) (peel.constant_chain s last t) (settled_where t s (peel.far s last t))
        (found_link NotConstant (WhereLoop t s (peel.variable s last t)) (peel.limit s last t) (peel.limit_chain s last t) (settled_where t s (peel.variable s last t))
        (found_last Limit (WhereLimit (MakesPeeled s last) t s) (settled_made (MakesPeeled s last) (peel.one_made s last t) (λ l. some_peeled l (peeled_of last (table_of t).constants l.head) refl)))))))))
