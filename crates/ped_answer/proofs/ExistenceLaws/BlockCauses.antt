-- `inline` has a first cause against it in a program, or none.
use Rattle.std.proofs.Common.{◌⊎◌, ℕ, inl, inr, Option, Some, None, refl}
use Rattle.ped_tree.specs.Tree.{StmtTrees, ProgramTree}
use Rattle.ped_session.specs.ped_symbols.specs.NameRefusals.{IsValid}
use Rattle.ped_session.specs.ped_steps.specs.declared.rules.Rule.TheVariants.{Limit, NoCall}
use Rattle.ped_session.specs.ped_steps.specs.Causes.{Cause, IsFirstCause, none_forbids}
use Rattle.ped_session.specs.ped_rules.proofs.Decided.{valid_decided}
use Rattle.ped_session.specs.ped_transformations.specs.ped_inline.specs.Blocks.{IsBlock}
use Rattle.ped_session.specs.ped_transformations.specs.ped_inline.specs.Inlining.{inlined, WhereBlockLimit, WhereNoCall, StandsAgainstInlining}
use Rattle.ped_session.specs.ped_transformations.specs.ped_inline.proofs.InlineRules.{call, call_chain, block_decided}
use Rattle.ped_answer.proofs.ExistenceLaws.ChainCauses.{Settled, found_link, found_last, some_cause}

module _ (t : ProgramTree) (s : ℕ) where
  -- the statement is a marked block, or it isn't
  abbrev Decided : Type 0
  Decided = ((body : StmtTrees) × IsBlock t s body) ⊎ ((body : StmtTrees) → IsBlock t s body → ⊥)

  settled_no_call : Settled (WhereNoCall t s)
  settled_no_call = by (block_decided s t)
    where
      by : Decided → Settled (WhereNoCall t s)
      by (inl b) = (None, λ n p. p.0 b.0 b.1)
      by (inr none) = (Some s, (none, refl))

  settled_block_limit : Settled (WhereBlockLimit t s)
  settled_block_limit = by (block_decided s t) (valid_decided (inlined t s))
    where
      by : Decided → IsValid (inlined t s) ⊎ (IsValid (inlined t s) → ⊥) → Settled (WhereBlockLimit t s)
      by (inl b) (inl valid) = (None, λ n p. p.1 valid)
      by (inl b) (inr invalid) = (Some s, (b, invalid, refl))
      by (inr none) valid = (None, λ n p. none p.0.0 p.0.1)

  pub inlining_cause : (c : Option Cause) × IsFirstCause t (StandsAgainstInlining s t) none_forbids c
  inlining_cause = some_cause t (StandsAgainstInlining s t) none_forbids
      (found_link Limit (WhereBlockLimit t s) (call s t) (call_chain s t) settled_block_limit
      (found_last NoCall (WhereNoCall t s) settled_no_call))
