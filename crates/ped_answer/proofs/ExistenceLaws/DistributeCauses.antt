-- `distribute` has a first cause against it in a program, or none.
use Rattle.std.proofs.Common.{◌≡◌, ◌⊎◌, ℕ, ◌<◌, ◌≤◌, inl, inr, refl, subst, length, List, Option, Some, None, arith}
use Rattle.std.proofs.lemmas.Bool.{cases_lt}
use Rattle.ped_tree.specs.Tree.{ExprTree, ProgramTree}
use Rattle.ped_session.specs.ped_flow.specs.PlainBounds.{IsPlain}
use Rattle.ped_session.specs.ped_flow.specs.Questions.{LoopOf}
use Rattle.ped_session.specs.ped_symbols.specs.Kinds.{table_of}
use Rattle.ped_session.specs.ped_steps.specs.declared.rules.Rule.TheVariants.{NoLoop, ParallelState, IndexEscapes, BoundNotPlain, OneBlock, Limit}
use Rattle.ped_session.specs.ped_steps.specs.Causes.{Cause, IsFirstCause, none_forbids}
use Rattle.ped_session.specs.ped_rules.specs.Chains.{WhereLoop}
use Rattle.ped_session.specs.ped_rules.specs.Rules.{WhereNoLoop, is_parallel, WhereEscape, WhereUnplain, WhereLimit}
use Rattle.ped_session.specs.ped_rules.proofs.Decided.{loop_decided}
use Rattle.ped_session.specs.ped_rules.specs.Rules.{IsBoundOf}
use Rattle.ped_session.specs.ped_rules.proofs.HeadLaws.PlainDecided.{plain_decided}
use Rattle.ped_session.specs.ped_transformations.specs.ped_splits.specs.PiBlocks.{ArePiBlocks}
use Rattle.ped_session.specs.ped_transformations.specs.ped_splits.specs.Distributing.{distributed, MakesDistributed, IsItsBound, WhereOnePiBlock, StandsAgainstDistribution}
use Rattle.ped_session.specs.ped_transformations.specs.ped_splits.proofs.OnePiBlocks.{one_found}
use Rattle.ped_session.specs.ped_transformations.specs.ped_splits.proofs.DistributeRules as rules
use Rattle.ped_session.specs.ped_transformations.specs.ped_splits.proofs.Existence.Closures.{pi_blocks_exist}
use Rattle.ped_answer.specs.Existence.Deciding.{Decided}
use Rattle.ped_answer.proofs.ExistenceLaws.ChainCauses.{Settled, found_link, found_last, settled_no_loop, settled_where, settled_escape, settled_limit, some_cause}

module _ (t : ProgramTree) (s : ℕ) where
  -- a bound isn't plain, or both are
  pub settled_plain : Settled (WhereUnplain t s (IsItsBound t s))
  settled_plain = by (loop_decided t s)
    where
      stands : (l : LoopOf t s) (e : ExprTree) → IsBoundOf l.head e → (IsPlain (table_of t).constants t s e → ⊥) → Settled (WhereUnplain t s (IsItsBound t s))
      stands l e bound n = (Some s, (l, ((e, (refl, l, bound), n), λ k p. let at : k ≡ s = p.1.0 in omega (arith, at))))

      both : (l : LoopOf t s) → Decided (IsPlain (table_of t).constants t s l.head.first) → Decided (IsPlain (table_of t).constants t s l.head.last) → Settled (WhereUnplain t s (IsItsBound t s))
      both l (inr n) d = stands l l.head.first (inl refl) n
      both l (inl p) (inr n) = stands l l.head.last (inr refl) n
      both l (inl p) (inl q) = (None, rules.no_unplain s t l.head l.body l.is p q)

      by : Decided (LoopOf t s) → Settled (WhereUnplain t s (IsItsBound t s))
      by (inl l) = both l (plain_decided (table_of t).constants t s l.head.first) (plain_decided (table_of t).constants t s l.head.last)
      by (inr n) = (None, λ m p. n p.0)

  -- the blocks are fewer than two, or not
  settled_single : Settled (WhereOnePiBlock t s)
  settled_single = by (loop_decided t s)
    where
      on : (l : LoopOf t s) (found : List (List ℕ)) → ArePiBlocks t s l.head l.body found → (length found < 2) ⊎ (2 ≤ length found) → Settled (WhereOnePiBlock t s)
      on l found are (inl few) = (Some s, (l, found, are, few, refl))
      on l found are (inr many) = (None, λ m p. let same = one_found t s p.0 l p.1 found p.2 are in let few : length found < 2 = subst (λ (bs : List (List ℕ)). length bs < 2) same p.3 in absurd (omega (arith, few, many)))

      by : Decided (LoopOf t s) → Settled (WhereOnePiBlock t s)
      by (inl l) = let found = pi_blocks_exist t s l.head l.body in on l found.0 found.1 (cases_lt (length found.0) 2)
      by (inr n) = (None, λ m p. n p.0)

  pub distribute_cause : (c : Option Cause) × IsFirstCause t (StandsAgainstDistribution s t) none_forbids c
  distribute_cause = some_cause t (StandsAgainstDistribution s t) none_forbids
      (found_link NoLoop (WhereNoLoop t s) (rules.state s t) (rules.state_chain s t) (settled_no_loop t s)
      (found_link ParallelState (WhereLoop t s is_parallel) (rules.escape s t) (rules.escape_chain s t) (settled_where t s is_parallel)
      (found_link IndexEscapes (WhereEscape t s) (rules.plain s t) (rules.plain_chain s t) (settled_escape t s)
      (found_link BoundNotPlain (WhereUnplain t s (IsItsBound t s)) (rules.single s t) (rules.single_chain s t) settled_plain
      (found_link OneBlock (WhereOnePiBlock t s) (rules.limit s t) (rules.limit_chain s t) settled_single
      (found_last Limit (WhereLimit (MakesDistributed s) t s)
      (settled_limit t s (MakesDistributed s) (rules.one_made s t) (λ l. let found = pi_blocks_exist t s l.head l.body in (distributed t s found.0, rules.kept s t l.body found.0, (l, found.0, found.1, refl, refl))))))))))
