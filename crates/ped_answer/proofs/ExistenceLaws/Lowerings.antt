-- Sums in any order have a first cause against them, or none; so each list of sums is live or it isn't, and each program is lowered.
use Rattle.std.proofs.Common.{◌≡◌, ◌⊎◌, ◌≤◌, ℕ, ◌+◌, List, [], ◌∷◌, length, Bool, true, false, inl, inr, Option, Some, None, refl, sym, ap, ◌∙◌, subst, arith}
use Rattle.std.specs.Prelude.{nat_le}
use Rattle.std.specs.List.{range_with_len}
use Rattle.std.proofs.lemmas.Bool.{both_ways}
use Rattle.std.proofs.lemmas.Bool.Decides.{nat_tests}
use Rattle.ped_base.specs.Lists.{has_some}
use Rattle.ped_tree.specs.Tree.{Head, StmtTrees, ProgramTree}
use Rattle.ped_tree.specs.Numbering.{statements_count}
use Rattle.ped_session.specs.ped_symbols.specs.NameRefusals.{IsValid}
use Rattle.ped_session.specs.ped_symbols.specs.Kinds.{table_of}
use Rattle.ped_session.specs.ped_flow.specs.Questions.{LoopOf}
use Rattle.ped_session.specs.ped_steps.specs.declared.rules.Rule.{Rule}
use Rattle.ped_session.specs.ped_steps.specs.declared.rules.Rule.TheVariants.{NoLoop, ParallelState, IndexEscapes, Range, NotScalar, NotConstant, AlreadyPrivate, NotSum}
use Rattle.ped_session.specs.ped_steps.specs.RuleNames.{number_of}
use Rattle.ped_session.specs.ped_steps.specs.Causes.{Rules, Cause, IsFirstCause}
use Rattle.ped_session.specs.ped_rules.specs.Chains.{no_rules, also, WhereLoop}
use Rattle.ped_session.specs.ped_rules.specs.Rules.{WhereNoLoop, WhereEscape, isnt_constant}
use Rattle.ped_session.specs.ped_rules.proofs.Chains.{first_later, none_later}
use Rattle.ped_session.specs.ped_rules.proofs.Decided.{loop_decided, valid_decided}
use Rattle.ped_session.specs.ped_rules.specs.Scalars.{is_in_parallel}
use Rattle.ped_session.specs.ped_rules.specs.Scalars.{has_far_value}
use Rattle.ped_session.specs.ped_transformations.specs.ped_reduce.specs.Lists.{list_of}
use Rattle.ped_session.specs.ped_transformations.specs.ped_reduce.specs.Lowering.{Lowered, not_lowered, lowered_at}
use Rattle.ped_session.specs.ped_transformations.specs.ped_reduce.specs.Reducing.{first_beside_sums, has_unsummable, has_private_or_twice, WhereNoSum, also_against_sums, StandsAgainstSumming, carried_beside, is_in_live, IsLive, LowersOne, Lowers, IsLowered}
use Rattle.ped_session.specs.ped_transformations.specs.ped_reduce.proofs.SummingRules.{AreAbove, also_above, here_first}
use Rattle.ped_answer.proofs.AmongCauses.{first_among, none_among}
use Rattle.ped_answer.proofs.ExistenceLaws.ChainCauses.{Settled, Found, found_last, one_loop, settled_no_loop, settled_where, settled_escape, some_cause}

-- a rule and others with greater numbers
pub found_above : (r : Rule) (P : ℕ → Type 0) (others : Rules) → AreAbove (number_of r) others → Settled P → Found others → Found (also r P others)
found_above r P others above (Some n, p) rest = inl (r, n, here_first r P others n p above)
found_above r P others above (None, none) (inl (q, n, first)) = inl (q, n, first_later r P others none q n first)
found_above r P others above (None, none) (inr rest) = inr (none_later r P others none rest)

none_and_some : (n : ℕ) (o : Option ℕ) → o ≡ None → o ≡ Some n → ⊥
none_and_some n o none some = cc

no_rule_above : (k : ℕ) → AreAbove k no_rules
no_rule_above k q n h = absurd h

module _ (t : ProgramTree) (s : ℕ) (names : List (List ℕ)) where
  settled_no_sum : Settled (WhereNoSum t s names)
  settled_no_sum = by (loop_decided t s)
    where
      on : (l : LoopOf t s) (o : Option ℕ) → first_beside_sums t s (statements_count l.body + 1) names ≡ o → Settled (WhereNoSum t s names)
      on l (Some n) e = (Some n, (l, e))
      on l None e = (None, λ n p. none_and_some n (first_beside_sums t s (statements_count l.body + 1) names) e (ap (λ (body : StmtTrees). first_beside_sums t s (statements_count body + 1) names) (sym (one_loop t s p.0 l).1) ∙ p.1))

      by : LoopOf t s ⊎ (LoopOf t s → ⊥) → Settled (WhereNoSum t s names)
      by (inl l) = on l (first_beside_sums t s (statements_count l.body + 1) names) refl
      by (inr none) = (None, λ n p. none p.0)

  abbrev pub no_sum : Rules
  no_sum = also NotSum (WhereNoSum t s names) no_rules

  pub no_sum_found : Found no_sum
  no_sum_found = found_last NotSum (WhereNoSum t s names) settled_no_sum

  pub no_sum_above : AreAbove 17 no_sum
  no_sum_above = also_above NotSum (WhereNoSum t s names) no_rules 17 (omega arith) (no_rule_above 19)

  -- the rules against sums with numbers below 15, before others
  module _ (others : Rules) (above : AreAbove 14 others) where
    abbrev far : Head → StmtTrees → Bool
    far = has_far_value (table_of t).constants

    abbrev unsummable : Head → StmtTrees → Bool
    unsummable = has_unsummable t s names

    abbrev open_bound : Head → StmtTrees → Bool
    open_bound = isnt_constant (table_of t).constants

    abbrev constant : Rules
    constant = also NotConstant (WhereLoop t s open_bound) others

    abbrev scalar : Rules
    scalar = also NotScalar (WhereLoop t s unsummable) constant

    abbrev range : Rules
    range = also Range (WhereLoop t s far) scalar

    abbrev escape : Rules
    escape = also IndexEscapes (WhereEscape t s) range

    abbrev state : Rules
    state = also ParallelState (WhereLoop t s (is_in_parallel t s)) escape

    constant_above : AreAbove 13 constant
    constant_above = also_above NotConstant (WhereLoop t s open_bound) others 13 (omega arith) above

    scalar_above : AreAbove 9 scalar
    scalar_above = also_above NotScalar (WhereLoop t s unsummable) constant 9 (omega arith) constant_above

    range_above : AreAbove 5 range
    range_above = also_above Range (WhereLoop t s far) scalar 5 (omega arith) scalar_above

    escape_above : AreAbove 3 escape
    escape_above = also_above IndexEscapes (WhereEscape t s) range 3 (omega arith) range_above

    state_above : AreAbove 1 state
    state_above = also_above ParallelState (WhereLoop t s (is_in_parallel t s)) escape 1 (omega arith) escape_above

    pub found_against : Found others → Found (also_against_sums s names t others)
    found_against rest =
        found_above NoLoop (WhereNoLoop t s) state state_above (settled_no_loop t s)
        (found_above ParallelState (WhereLoop t s (is_in_parallel t s)) escape escape_above (settled_where t s (is_in_parallel t s))
        (found_above IndexEscapes (WhereEscape t s) range range_above (settled_escape t s)
        (found_above Range (WhereLoop t s far) scalar scalar_above (settled_where t s far)
        (found_above NotScalar (WhereLoop t s unsummable) constant constant_above (settled_where t s unsummable)
        (found_above NotConstant (WhereLoop t s open_bound) others above (settled_where t s open_bound) rest)))))

  abbrev private : Head → StmtTrees → Bool
  private = has_private_or_twice t s names

  -- sums in any order have a first cause against them, or none
  pub summing_cause : (c : Option Cause) × IsFirstCause t (StandsAgainstSumming s names t) (carried_beside t s names) c
  summing_cause = some_cause t (StandsAgainstSumming s names t) (carried_beside t s names)
      (found_against (also AlreadyPrivate (WhereLoop t s private) no_sum) (also_above AlreadyPrivate (WhereLoop t s private) no_sum 14 (omega arith) no_sum_above)
      (found_above AlreadyPrivate (WhereLoop t s private) no_sum no_sum_above (settled_where t s private) no_sum_found))

no_cause_and_some : (t : ProgramTree) (s : ℕ) (names : List (List ℕ)) (c : Cause)
    → IsFirstCause t (StandsAgainstSumming s names t) (carried_beside t s names) (Some c) → IsFirstCause t (StandsAgainstSumming s names t) (carried_beside t s names) None → ⊥
no_cause_and_some t s names c some none =
    none_among t (StandsAgainstSumming s names t) (carried_beside t s names) none c (first_among t (StandsAgainstSumming s names t) (carried_beside t s names) c some)

few_decided : (n : ℕ) → (n ≤ 8) ⊎ (n ≤ 8 → ⊥)
few_decided n = by (nat_le n 8) refl
  where
    by : (b : Bool) → nat_le n 8 ≡ b → (n ≤ 8) ⊎ (n ≤ 8 → ⊥)
    by true e = inl (grind (arith, nat_tests))
    by false e = inr (λ h. let t : nat_le n 8 ≡ true = grind (arith, nat_tests) in both_ways (nat_le n 8) e t)

none_is_some : (q : Lowered) (o : Option Lowered) → o ≡ None → o ≡ Some q → ⊥
none_is_some q o none some = cc

same_lowered : (p q : Lowered) → Some p ≡ Some q → p ≡ q
same_lowered p q e = cc

module _ (t : ProgramTree) (s : ℕ) (p : Lowered) where
  -- what is asked of a list of these names
  record IsLiveFor (names : List (List ℕ)) (q : Lowered) : Type 0 where
    some : has_some names ≡ true
    few : length names ≤ 8
    outside : is_in_live t p s ≡ false
    free : IsFirstCause t (StandsAgainstSumming s names t) (carried_beside t s names) None
    makes : lowered_at true p s names ≡ Some q
    valid : IsValid q.tree

  abbrev LiveOrNot : List (List ℕ) → Type 0
  LiveOrNot names = ((q : Lowered) × IsLiveFor names q) ⊎ ((q : Lowered) → IsLiveFor names q → ⊥)

  -- it is settled, point by point
  module _ (names : List (List ℕ)) where
    by_program : has_some names ≡ true → length names ≤ 8 → is_in_live t p s ≡ false → IsFirstCause t (StandsAgainstSumming s names t) (carried_beside t s names) None
        → (o : Option Lowered) → lowered_at true p s names ≡ o → LiveOrNot names
    by_program some few outside free None e = inr (λ q live. none_is_some q (lowered_at true p s names) e live.makes)
    by_program some few outside free (Some q) e = on (valid_decided q.tree)
      where
        on : IsValid q.tree ⊎ (IsValid q.tree → ⊥) → LiveOrNot names
        on (inl valid) = inl (q, record { some = some; few = few; outside = outside; free = free; makes = e; valid = valid })
        on (inr invalid) = inr (λ r live. invalid (subst (λ (x : Lowered). IsValid x.tree) (same_lowered r q (sym live.makes ∙ e)) live.valid))

    by_cause : has_some names ≡ true → length names ≤ 8 → is_in_live t p s ≡ false
        → (c : Option Cause) × IsFirstCause t (StandsAgainstSumming s names t) (carried_beside t s names) c → LiveOrNot names
    by_cause some few outside (Some c, is) = inr (λ q live. no_cause_and_some t s names c is live.free)
    by_cause some few outside (None, free) = by_program some few outside free (lowered_at true p s names) refl

    by_outside : has_some names ≡ true → length names ≤ 8 → (b : Bool) → is_in_live t p s ≡ b → LiveOrNot names
    by_outside some few true e = inr (λ q live. both_ways (is_in_live t p s) live.outside e)
    by_outside some few false e = by_cause some few e (summing_cause t s names)

    by_length : has_some names ≡ true → (length names ≤ 8) ⊎ (length names ≤ 8 → ⊥) → LiveOrNot names
    by_length some (inl few) = by_outside some few (is_in_live t p s) refl
    by_length some (inr many) = inr (λ q live. many live.few)

    by_names : (b : Bool) → has_some names ≡ b → LiveOrNot names
    by_names true e = by_length e (few_decided (length names))
    by_names false e = inr (λ q live. both_ways (has_some names) e live.some)

    live_or_not : LiveOrNot names
    live_or_not = by_names (has_some names) refl

  -- of the list of a DO
  its_list : (l : LoopOf t s) (q : Lowered) → IsLive t s p q → IsLiveFor (list_of l.body) q
  its_list l q live =
      let same : list_of live.loop.body ≡ list_of l.body = ap list_of (one_loop t s live.loop l).1 in
      record {
        some = ap has_some (sym same) ∙ live.some;
        few = subst (λ (names : List (List ℕ)). length names ≤ 8) same live.few;
        outside = live.outside;
        free = subst (λ (names : List (List ℕ)). IsFirstCause t (StandsAgainstSumming s names t) (carried_beside t s names) None) same live.free;
        makes = ap (lowered_at true p s) (sym same) ∙ live.makes;
        valid = live.valid;
      }

  pub one_lowers : (q : Lowered) × LowersOne t s p q
  one_lowers = by (loop_decided t s)
    where
      on : (l : LoopOf t s) → LiveOrNot (list_of l.body) → (q : Lowered) × LowersOne t s p q
      on l (inl (q, live)) = (q, inl (record { loop = l; some = live.some; few = live.few; outside = live.outside; free = live.free; makes = live.makes; valid = live.valid }))
      on l (inr none) = (p, inr (λ q live. none q (its_list l q live), refl))

      by : LoopOf t s ⊎ (LoopOf t s → ⊥) → (q : Lowered) × LowersOne t s p q
      by (inl l) = on l (live_or_not (list_of l.body))
      by (inr none) = (p, inr (λ q live. none live.loop, refl))

pub some_lowers : (t : ProgramTree) (ss : List ℕ) (p : Lowered) → (q : Lowered) × Lowers t ss p q
some_lowers t [] p = (p, refl)
some_lowers t (s ∷ ss) p =
    let next = one_lowers t s p in
    let rest = some_lowers t ss next.0 in
    (rest.0, (next.0, next.1, rest.1))

-- each program is lowered
pub some_lowered : (t : ProgramTree) → (q : Lowered) × IsLowered t q
some_lowered t = some_lowers t (range_with_len 1 (statements_count t.body)) (not_lowered t)
