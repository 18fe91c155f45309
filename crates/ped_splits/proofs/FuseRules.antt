-- The rules that stand against `fuse`, one behind the other: each names one statement.
use Rattle.std.proofs.Common.{◌≡◌, ℕ, inl, inr, Bool, sym, ◌∙◌, arith}
use Rattle.ped_tree.specs.Tree.{Head, StmtTrees, ProgramTree}
use Rattle.ped_rules.specs.ped_steps.specs.declared.rules.Rule.TheVariants.{NoLoop, ParallelState, HasPrivate, IndexEscapes, BoundNotPlain, NoNeighbour, Limit}
use Rattle.ped_rules.specs.ped_steps.specs.Causes.{Rules}
use Rattle.ped_rules.specs.Chains.{no_rules, also}
use Rattle.ped_rules.specs.Rules.{WhereNoLoop, is_parallel, has_private, WhereUnplain}
use Rattle.ped_rules.proofs.Chains.{IsChain, IsOne, chain_end, chain_link}
use Rattle.ped_rules.proofs.OneEach.{one_first, no_loop_one, unplain_one}
use Rattle.ped_splits.specs.Distributing.{IsItsBound}
use Rattle.ped_splits.specs.Fusing.{WhereEither, IsBrokenInFusion, WhereFusionEscapes, WhereNoMatch, WhereFusedLimit, StandsAgainstFusion}

module _ (s : ℕ) (t : ProgramTree) where
  abbrev pub limit : Rules
  limit = also Limit (WhereFusedLimit t s) no_rules

  abbrev pub alone_rule : Rules
  alone_rule = also NoNeighbour (WhereNoMatch t s) limit

  abbrev pub plain : Rules
  plain = also BoundNotPlain (WhereUnplain t s (IsItsBound t s)) alone_rule

  abbrev pub escape : Rules
  escape = also IndexEscapes (WhereFusionEscapes t s) plain

  abbrev pub shared : Rules
  shared = also HasPrivate (WhereEither t s has_private) escape

  abbrev pub state : Rules
  state = also ParallelState (WhereEither t s is_parallel) shared

  named : (test : Head → StmtTrees → Bool) (n : ℕ) → WhereEither t s test n → n ≡ s
  named test n (inl p) = p.2
  named test n (inr p) = p.2

  either_one : (test : Head → StmtTrees → Bool) → IsOne (WhereEither t s test)
  either_one test m n a b = named test m a ∙ sym (named test n b)

  escape_one : IsOne (WhereFusionEscapes t s)
  escape_one m n (l, inl a) (k, inl b) = one_first (IsBrokenInFusion t s) m n a b
  escape_one m n (l, inl a) (k, inr b) = absurd (b.0 m a.0)
  escape_one m n (l, inr a) (k, inl b) = absurd (a.0 n b.0)
  escape_one m n (l, inr a) (k, inr b) = a.2 ∙ sym b.2

  no_match_one : IsOne (WhereNoMatch t s)
  no_match_one m n a b = a.2 ∙ sym b.2

  limit_one : IsOne (WhereFusedLimit t s)
  limit_one m n a b = a.1.2 ∙ sym b.1.2

  pub limit_chain : IsChain 10 limit
  limit_chain = chain_link Limit (WhereFusedLimit t s) no_rules 10 (omega arith) limit_one (chain_end 15)

  pub alone_chain : IsChain 6 alone_rule
  alone_chain = chain_link NoNeighbour (WhereNoMatch t s) limit 6 (omega arith) no_match_one limit_chain

  pub plain_chain : IsChain 5 plain
  plain_chain = chain_link BoundNotPlain (WhereUnplain t s (IsItsBound t s)) alone_rule 5 (omega arith) (unplain_one t s (IsItsBound t s)) alone_chain

  pub escape_chain : IsChain 4 escape
  escape_chain = chain_link IndexEscapes (WhereFusionEscapes t s) plain 4 (omega arith) escape_one plain_chain

  pub shared_chain : IsChain 3 shared
  shared_chain = chain_link HasPrivate (WhereEither t s has_private) escape 3 (omega arith) (either_one has_private) escape_chain

  pub state_chain : IsChain 1 state
  state_chain = chain_link ParallelState (WhereEither t s is_parallel) shared 1 (omega arith) (either_one is_parallel) shared_chain

  pub chain : IsChain 0 (StandsAgainstFusion s t)
  chain = chain_link NoLoop (WhereNoLoop t s) state 0 (omega arith) (no_loop_one t s) state_chain
