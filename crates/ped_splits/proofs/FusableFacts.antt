-- What the step shows of two DO loops that become one, where no rule stands against it.
use Rattle.std.proofs.Common.{◌≡◌, ℕ, List, [], ◌∷◌, Bool, false, None, refl, inl, inr, arith}
use Rattle.ped_base.specs.Lists.{has_some}
use Rattle.ped_tree.specs.Tree.{ExprTree, Head, StmtTrees, ProgramTree}
use Rattle.ped_rules.proofs.HeadLaws.PlainDecided.{OrNot, plain_decided}
use Rattle.ped_rules.specs.Rules.{IsBoundOf}
use Rattle.ped_rules.proofs.Chains.{not_this, not_those}
use Rattle.ped_rules.proofs.Decided.{some_loop, limit_valid}
use Rattle.ped_rules.specs.Rules.{WhereNoLoop, is_parallel, has_private, WhereUnplain}
use Rattle.ped_rules.specs.Chains.{no_rules}
use Rattle.ped_rules.specs.ped_steps.specs.Tidy.{IsTidy}
use Rattle.ped_rules.specs.ped_steps.specs.Causes.{NoRule}
use Rattle.ped_rules.specs.ped_steps.specs.declared.rules.Rule.TheVariants.{NoLoop, ParallelState, HasPrivate, IndexEscapes, BoundNotPlain, NoNeighbour, Limit}
use Rattle.ped_rules.specs.ped_flow.specs.PlainBounds.{IsPlain}
use Rattle.ped_rules.specs.ped_flow.specs.Questions.{LoopOf, IsBrokenBy, IsShown, IsLiveAfter, IsContained}
use Rattle.ped_rules.specs.ped_eval.specs.Outcomes.{setting_of}
use Rattle.ped_rules.specs.ped_symbols.specs.NameRefusals.{IsValid}
use Rattle.ped_splits.specs.Distributing.{IsItsBound}
use Rattle.ped_splits.specs.Neighbours.{fused, next_number, kept_without}
use Rattle.ped_rules.specs.KeepMaps.{opened_at}
use Rattle.ped_splits.specs.Fusing.{Match, MakesFused, WhereEither, IsBrokenInFusion, IsShownInFusion, WhereFusionEscapes, WhereNoMatch, WhereFusedLimit, StandsAgainstFusion, IsFusionCause}
use Rattle.ped_splits.proofs.AlikeDecided.{match_decided}
use Rattle.ped_splits.proofs.Contained.{least}
use Rattle.ped_splits.proofs.CoverFacts.{MayFuse}
use Rattle.ped_splits.proofs.FuseFacts.{IsFusable}
use Rattle.ped_splits.proofs.FuseOne.{one_made}
use Rattle.ped_splits.proofs.FuseRules as rules
use Rattle.ped_splits.proofs.Here.{false_by}
use Rattle.ped_splits.proofs.NeighbourLoops.{own_loop}

none_in : (xs : List (List ℕ)) → has_some xs ≡ false → xs ≡ []
none_in [] e = refl
none_in (x ∷ xs) e = absurd cc

-- no read breaks it, and the program's end shows none of its variables: so it is contained
contained_by : (u : ProgramTree) (l : ℕ) → ((n : ℕ) → IsBrokenBy u l n → ⊥) → (IsShown u l → ⊥) → IsContained u l
contained_by u l unbroken unshown x index = ((λ n read. unbroken n (record { scalar = x; index = index; read = inl read })), dead)
  where
    dead : IsLiveAfter u l x → ⊥
    dead (inl read) = unbroken read.0 (record { scalar = x; index = index; read = inr read.1 })
    dead (inr shown) = unshown (record { scalar = x; index = index; shown = shown })

module _ (t : ProgramTree) (s : ℕ) (none : NoRule (StandsAgainstFusion s t)) where
  none_but_loop : NoRule (rules.state s t)
  none_but_loop = not_those NoLoop (WhereNoLoop t s) (rules.state s t) none

  none_but_state : NoRule (rules.shared s t)
  none_but_state = not_those ParallelState (WhereEither t s is_parallel) (rules.shared s t) none_but_loop

  none_but_shared : NoRule (rules.escape s t)
  none_but_shared = not_those HasPrivate (WhereEither t s has_private) (rules.escape s t) none_but_state

  none_but_escape : NoRule (rules.plain s t)
  none_but_escape = not_those IndexEscapes (WhereFusionEscapes t s) (rules.plain s t) none_but_shared

  none_but_plain : NoRule (rules.alone_rule s t)
  none_but_plain = not_those BoundNotPlain (WhereUnplain t s (IsItsBound t s)) (rules.alone_rule s t) none_but_escape

  none_but_alone : NoRule (rules.limit s t)
  none_but_alone = not_those NoNeighbour (WhereNoMatch t s) (rules.limit s t) none_but_plain

  pub its_loop : LoopOf t s
  its_loop = some_loop t s (not_this NoLoop (WhereNoLoop t s) (rules.state s t) none)

  -- a DO comes next that is alike
  pub its_match : Match t s
  its_match = by (match_decided t s)
    where
      by : OrNot (Match t s) → Match t s
      by (inl m) = m
      by (inr n) = absurd (not_this NoNeighbour (WhereNoMatch t s) (rules.limit s t) none_but_plain s (its_loop, n, refl))

  unescaped : (n : ℕ) → WhereFusionEscapes t s n → ⊥
  unescaped = not_this IndexEscapes (WhereFusionEscapes t s) (rules.plain s t) none_but_shared

  unbroken : (n : ℕ) → IsBrokenInFusion t s n → ⊥
  unbroken = least (IsBrokenInFusion t s) (λ n first. unescaped n (its_loop, inl first))

  unshown : IsShownInFusion t s → ⊥
  unshown shown = unescaped s (its_loop, inr (unbroken, shown, refl))

  -- the program that the step makes is valid
  pub is_valid : (m : Match t s) → IsValid (fused m.neighbour)
  is_valid m =
      limit_valid (MakesFused s) t s its_loop (one_made s t) (λ n h. not_this Limit (WhereFusedLimit t s) no_rules none_but_alone n (m, h)) (fused m.neighbour) (kept_without (next_number m.neighbour) t) (m, refl, refl)

  module _ (m : Match t s) where
    -- neither DO passes these tests
    own_fails : (test : Head → StmtTrees → Bool) → ((n : ℕ) → WhereEither t s test n → ⊥) → test m.neighbour.own m.neighbour.own_body ≡ false
    own_fails test fails = false_by (test m.neighbour.own m.neighbour.own_body) (λ holds. fails s (inl (own_loop t s m.neighbour, holds, refl)))

    next_fails : (test : Head → StmtTrees → Bool) → ((n : ℕ) → WhereEither t s test n → ⊥) → test m.neighbour.next m.neighbour.next_body ≡ false
    next_fails test fails = false_by (test m.neighbour.next m.neighbour.next_body) (λ holds. fails s (inr (m.neighbour, holds, refl)))

    no_state : (n : ℕ) → WhereEither t s is_parallel n → ⊥
    no_state = not_this ParallelState (WhereEither t s is_parallel) (rules.shared s t) none_but_loop

    no_private : (n : ℕ) → WhereEither t s has_private n → ⊥
    no_private = not_this HasPrivate (WhereEither t s has_private) (rules.escape s t) none_but_state

    its_bounds : (e : ExprTree) → IsBoundOf m.neighbour.own e → IsPlain (setting_of t).constants t s e
    its_bounds e bound = by (plain_decided (setting_of t).constants t s e)
      where
        by : OrNot (IsPlain (setting_of t).constants t s e) → IsPlain (setting_of t).constants t s e
        by (inl p) = p
        by (inr not) =
            absurd (not_this BoundNotPlain (WhereUnplain t s (IsItsBound t s)) (rules.alone_rule s t) none_but_escape s
            (own_loop t s m.neighbour, ((e, (refl, own_loop t s m.neighbour, bound), not), λ n p. let at : n ≡ s = p.1.0 in omega (arith, at))))

-- two DO loops that no rule forbids to become one
pub no_rule_forbids : (t : ProgramTree) (s : ℕ) (m : Match t s) → IsValid t → NoRule (StandsAgainstFusion s t) → MayFuse t s m
no_rule_forbids t s m valid none = record {
  valid = valid;
  new_valid = is_valid t s none m;
  own_serial = own_fails t s none m is_parallel (no_state t s none m);
  next_serial = next_fails t s none m is_parallel (no_state t s none m);
  own_unprivate = none_in m.neighbour.own.private (own_fails t s none m has_private (no_private t s none m));
  next_unprivate = none_in m.neighbour.next.private (next_fails t s none m has_private (no_private t s none m));
  new_contained =
      contained_by (fused m.neighbour) s (λ n b. unbroken t s none (opened_at (next_number m.neighbour) n) (inr (inr (m, n, b, refl)))) (λ shown. unshown t s none (inr (inr (m, shown))));
  plain = its_bounds t s none m;
}

-- both are contained
pub both_contained : (t : ProgramTree) (s : ℕ) (m : Match t s) → NoRule (StandsAgainstFusion s t) → IsContained t s × IsContained t (next_number m.neighbour)
both_contained t s m none = (
  contained_by t s (λ n b. unbroken t s none n (inl b)) (λ shown. unshown t s none (inl shown)),
  contained_by t (next_number m.neighbour) (λ n b. unbroken t s none n (inr (inl (m.neighbour, b)))) (λ shown. unshown t s none (inr (inl (m.neighbour, shown)))),
)

-- two DO loops of a tidy program that no rule and no dependence forbids to become one
pub is_fusable : (t : ProgramTree) (s : ℕ) (m : Match t s) → IsValid t → IsTidy t → IsFusionCause s t None → IsFusable t s m
is_fusable t s m valid tidy none = record {
  valid = valid;
  new_valid = is_valid t s none.0 m;
  tidy = tidy;
  own_serial = own_fails t s none.0 m is_parallel (no_state t s none.0 m);
  next_serial = next_fails t s none.0 m is_parallel (no_state t s none.0 m);
  own_unprivate = none_in m.neighbour.own.private (own_fails t s none.0 m has_private (no_private t s none.0 m));
  next_unprivate = none_in m.neighbour.next.private (next_fails t s none.0 m has_private (no_private t s none.0 m));
  own_contained = (both_contained t s m none.0).0;
  next_contained = (both_contained t s m none.0).1;
  new_contained =
      contained_by (fused m.neighbour) s (λ n b. unbroken t s none.0 (opened_at (next_number m.neighbour) n) (inr (inr (m, n, b, refl)))) (λ shown. unshown t s none.0 (inr (inr (m, shown))));
  plain = its_bounds t s none.0 m;
  unforbidden = none.1 m;
}
