-- Each step on a scalar has a first cause against it in a program, or none.
use Rattle.std.proofs.Common.{◌≡◌, ◌⊎◌, ℕ, Bool, List, Option, Some, None, inl, inr, refl, sym, ◌∙◌}
use Rattle.ped_tree.specs.Tree.{ProgramTree}
use Rattle.ped_session.specs.ped_symbols.specs.NameRefusals.{IsValid}
use Rattle.ped_session.specs.ped_symbols.specs.Kinds.{table_of}
use Rattle.ped_session.specs.ped_flow.specs.Questions.{LoopOf}
use Rattle.ped_session.specs.ped_steps.specs.declared.rules.Rule.TheVariants.{NoLoop, ParallelState, Range, ExposedOrLive, NotScalar, NotConstant, Limit, AlreadyPrivate}
use Rattle.ped_session.specs.ped_steps.specs.Causes.{Cause, IsFirstCause, none_forbids}
use Rattle.ped_session.specs.ped_steps.specs.Replacing.{all_kept}
use Rattle.ped_session.specs.ped_rules.specs.Chains.{WhereLoop}
use Rattle.ped_session.specs.ped_rules.specs.Rules.{WhereNoLoop, is_parallel, isnt_constant, WhereLimit}
use Rattle.ped_session.specs.ped_rules.specs.Spans.{Values, Span, span_of}
use Rattle.ped_session.specs.ped_rules.proofs.Decided.{loop_decided, valid_decided}
use Rattle.ped_session.specs.ped_rules.specs.Scalars.{is_unfit}
use Rattle.ped_session.specs.ped_transformations.specs.ped_scalar.specs.Privatising.{privatised, IsScalarExposedOrLiveBy, WhereExposedOrLive, isnt_listed, MakesPrivatised, WhereUnlistedLimit, is_scalar_listed, StandsAgainstPrivatising}
use Rattle.ped_session.specs.ped_rules.specs.Scalars.{is_in_parallel}
use Rattle.ped_session.specs.ped_transformations.specs.ped_scalar.specs.Expanding.{array_name, IsScalarLostBy, SaysLive, IsExpanded, expanded, WhereLost, WhereArrayLimit, is_scalar_private_near, StandsAgainstExpanding}
use Rattle.ped_session.specs.ped_rules.specs.Scalars.{has_far_value}
use Rattle.ped_session.specs.ped_transformations.specs.ped_scalar.proofs.LiveSaid.{live_said}
use Rattle.ped_session.specs.ped_transformations.specs.ped_scalar.proofs.PrivatiseRules as private
use Rattle.ped_session.specs.ped_transformations.specs.ped_scalar.proofs.ExpandRules as expand
use Rattle.ped_answer.proofs.ExistenceLaws.ChainCauses.{Settled, found_link, found_last, settled_both, settled_no_loop, settled_there, settled_where, settled_limit, some_cause}
use Rattle.ped_answer.proofs.ExistenceLaws.LoopPaths.{exposed_or_live, lost}

some_name : (a : List ℕ) → Some a ≡ None → ⊥
some_name a e = cc

module _ (t : ProgramTree) (s : ℕ) (x : List ℕ) where
  settled_unlisted : Settled (WhereUnlistedLimit t s x)
  settled_unlisted =
      settled_both (WhereLoop t s (isnt_listed x)) (WhereLimit (MakesPrivatised s x) t s) (λ m n p q. p.2 ∙ sym q.2) (settled_where t s (isnt_listed x))
      (settled_limit t s (MakesPrivatised s x) (private.one_made s x t) (λ l. (privatised t s x, all_kept t, (refl, refl))))

  pub privatising_cause : (c : Option Cause) × IsFirstCause t (StandsAgainstPrivatising s x t) none_forbids c
  privatising_cause = some_cause t (StandsAgainstPrivatising s x t) none_forbids
      (found_link NoLoop (WhereNoLoop t s) (private.state s x t) (private.state_chain s x t) (settled_no_loop t s)
      (found_link ParallelState (WhereLoop t s (is_in_parallel t s)) (private.exposed s x t) (private.exposed_chain s x t) (settled_where t s (is_in_parallel t s))
      (found_link ExposedOrLive (WhereExposedOrLive t s x) (private.unfit s x t) (private.unfit_chain s x t) (settled_there t s (IsScalarExposedOrLiveBy t s x) (exposed_or_live t s x))
      (found_link NotScalar (WhereLoop t s (is_unfit t s x)) (private.limit s x t) (private.limit_chain s x t) (settled_where t s (is_unfit t s x))
      (found_link Limit (WhereUnlistedLimit t s x) (private.listed s x t) (private.listed_chain s x t) settled_unlisted
      (found_last AlreadyPrivate (WhereLoop t s (is_scalar_listed t x)) (settled_where t s (is_scalar_listed t x))))))))

  abbrev constants : Values
  constants = (table_of t).constants

  -- the new array's name and the new program, where there are any
  settled_new : (l : LoopOf t s) (v : Span) → span_of constants l.head ≡ Some v → (array : List ℕ) → array_name t ≡ Some array → (live : Bool) × SaysLive t s x live → Settled (WhereArrayLimit t s x)
  settled_new l v spans array fresh (live, says) = by (valid_decided (expanded t s x live array v))
    where
      made : IsExpanded t s x l.head (expanded t s x live array v)
      made = record { array = array; fresh = fresh; span = v; spans = spans; live = live; says = says; made = refl }

      by : IsValid (expanded t s x live array v) ⊎ (IsValid (expanded t s x live array v) → ⊥) → Settled (WhereArrayLimit t s x)
      by (inl valid) = (None, expand.no_limit s x t l (expanded t s x live array v) made valid)
      by (inr invalid) = (Some s, (l, inr (expanded t s x live array v, made, invalid), refl))

  settled_named : (l : LoopOf t s) (o : Option (List ℕ)) → array_name t ≡ o → (v : Option Span) → span_of constants l.head ≡ v → Settled (WhereArrayLimit t s x)
  settled_named l None e v spans = (Some s, (l, inl e, refl))
  settled_named l (Some array) e None spans = (None, expand.no_limit_unknown s x t l (λ none. some_name array (sym e ∙ none)) spans)
  settled_named l (Some array) e (Some v) spans = settled_new l v spans array e (live_said t s x)

  settled_array : Settled (WhereArrayLimit t s x)
  settled_array = by (loop_decided t s)
    where
      by : LoopOf t s ⊎ (LoopOf t s → ⊥) → Settled (WhereArrayLimit t s x)
      by (inl l) = settled_named l (array_name t) refl (span_of constants l.head) refl
      by (inr none) = (None, λ n h. none h.0)

  pub expanding_cause : (c : Option Cause) × IsFirstCause t (StandsAgainstExpanding s x t) none_forbids c
  expanding_cause = some_cause t (StandsAgainstExpanding s x t) none_forbids
      (found_link NoLoop (WhereNoLoop t s) (expand.state s x t) (expand.state_chain s x t) (settled_no_loop t s)
      (found_link ParallelState (WhereLoop t s is_parallel) (expand.range s x t) (expand.range_chain s x t) (settled_where t s is_parallel)
      (found_link Range (WhereLoop t s (has_far_value constants)) (expand.lost s x t) (expand.lost_chain s x t) (settled_where t s (has_far_value constants))
      (found_link ExposedOrLive (WhereLost t s x) (expand.unfit s x t) (expand.unfit_chain s x t) (settled_there t s (IsScalarLostBy t s x) (lost t s x))
      (found_link NotScalar (WhereLoop t s (is_unfit t s x)) (expand.constant s x t) (expand.constant_chain s x t) (settled_where t s (is_unfit t s x))
      (found_link NotConstant (WhereLoop t s (isnt_constant constants)) (expand.limit s x t) (expand.limit_chain s x t) (settled_where t s (isnt_constant constants))
      (found_link Limit (WhereArrayLimit t s x) (expand.near s x t) (expand.near_chain s x t) settled_array
      (found_last AlreadyPrivate (WhereLoop t s (is_scalar_private_near t s x)) (settled_where t s (is_scalar_private_near t s x))))))))))
