-- `reduce` has a first cause against it in a program, or none.
use Rattle.std.proofs.Common.{◌≡◌, ◌⊎◌, ℕ, ◌-◌, List, Bool, true, false, inl, inr, Option, Some, None, refl, sym, ◌∙◌, subst, arith}
use Rattle.std.specs.List.{range_with_len}
use Rattle.std.proofs.lemmas.Bool.{both_ways}
use Rattle.ped_tree.specs.Tree.{Head, StmtTrees, ProgramTree}
use Rattle.ped_session.specs.ped_symbols.specs.NameRefusals.{IsValid}
use Rattle.ped_session.specs.ped_flow.specs.Questions.{LoopOf}
use Rattle.ped_session.specs.ped_steps.specs.declared.rules.Rule.TheVariants.{Limit, AlreadyPrivate}
use Rattle.ped_session.specs.ped_steps.specs.Causes.{Rules, Cause, IsFirstCause}
use Rattle.ped_session.specs.ped_steps.specs.Replacing.{all_kept}
use Rattle.ped_session.specs.ped_rules.specs.Chains.{also, WhereLoop}
use Rattle.ped_session.specs.ped_rules.specs.Rules.{WhereLimit}
use Rattle.ped_session.specs.ped_rules.proofs.Decided.{loop_decided, valid_decided}
use Rattle.ped_session.specs.ped_transformations.specs.ped_reduce.specs.Lists.{has_list}
use Rattle.ped_session.specs.ped_transformations.specs.ped_reduce.specs.Lowering.{Lowered, not_lowered, lowered_at}
use Rattle.ped_session.specs.ped_transformations.specs.ped_reduce.specs.Reducing.{carried_beside, is_in_live, Lowers, with_reduction, MakesReduction, IsUnlowerable, WhereReductionLimit, is_unlistable, StandsAgainstReducing}
use Rattle.ped_session.specs.ped_transformations.specs.ped_reduce.proofs.LoweringLaws.{one_behind}
use Rattle.ped_session.specs.ped_transformations.specs.ped_reduce.proofs.ReducingRules.{one_made}
use Rattle.ped_session.specs.ped_transformations.specs.ped_reduce.proofs.SummingRules.{AreAbove, also_above}
use Rattle.ped_answer.proofs.ExistenceLaws.ChainCauses.{Settled, one_loop, settled_where, settled_limit, some_cause}
use Rattle.ped_answer.proofs.ExistenceLaws.Lowerings.{found_above, no_sum, no_sum_found, no_sum_above, found_against, some_lowers}

none_is_some : (q : Lowered) (o : Option Lowered) → o ≡ None → o ≡ Some q → ⊥
none_is_some q o none some = cc

same_lowered : (p q : Lowered) → Some p ≡ Some q → p ≡ q
same_lowered p q e = cc

module _ (t : ProgramTree) (s : ℕ) (names : List (List ℕ)) where
  abbrev Unlowerable : Type 0
  Unlowerable = IsUnlowerable t s names ⊎ (IsUnlowerable t s names → ⊥)

  -- whether the program in which the list is lowered is valid is settled
  module _ (l : LoopOf t s) (new : has_list l.head l.body ≡ false) (p : Lowered) (lowers : Lowers t (range_with_len 1 (s - 1)) (not_lowered t) p) where
    same_before : (u : IsUnlowerable t s names) → u.before ≡ p
    same_before u = one_behind t (range_with_len 1 (s - 1)) (not_lowered t) u.before p u.lowers lowers

    by_program : is_in_live t p s ≡ false → (o : Option Lowered) → lowered_at true p s names ≡ o → Unlowerable
    by_program outside None e = inl (record { loop = l; new = new; before = p; lowers = lowers; outside = outside; invalid = λ q makes valid. none_is_some q (lowered_at true p s names) e makes })
    by_program outside (Some q) e = on (valid_decided q.tree)
      where
        on : IsValid q.tree ⊎ (IsValid q.tree → ⊥) → Unlowerable
        on (inl valid) = inr (λ u. u.invalid q (subst (λ (x : Lowered). lowered_at true x s names ≡ Some q) (sym (same_before u)) e) valid)
        on (inr invalid) = inl (record {
          loop = l;
          new = new;
          before = p;
          lowers = lowers;
          outside = outside;
          invalid = λ r makes valid. invalid (subst (λ (x : Lowered). IsValid x.tree) (same_lowered r q (sym makes ∙ e)) valid);
        })

    by_outside : (b : Bool) → is_in_live t p s ≡ b → Unlowerable
    by_outside true e = inr (λ u. both_ways (is_in_live t p s) (subst (λ (x : Lowered). is_in_live t x s ≡ false) (same_before u) u.outside) e)
    by_outside false e = by_program e (lowered_at true p s names) refl

  unlowerable_decided : Unlowerable
  unlowerable_decided = by (loop_decided t s)
    where
      on : (l : LoopOf t s) (b : Bool) → has_list l.head l.body ≡ b → Unlowerable
      on l true e = inr (λ u. both_ways (has_list l.head l.body) (let same = one_loop t s u.loop l in (λ i. has_list (sym same.0 i) (sym same.1 i)) ∙ u.new) e)
      on l false e = let p = some_lowers t (range_with_len 1 (s - 1)) (not_lowered t) in by_outside l e p.0 p.1 (is_in_live t p.0 s) refl

      by : LoopOf t s ⊎ (LoopOf t s → ⊥) → Unlowerable
      by (inl l) = on l (has_list l.head l.body) refl
      by (inr none) = inr (λ u. none u.loop)

  settled_reduction : Settled (WhereReductionLimit t s names)
  settled_reduction = by (settled_limit t s (MakesReduction s names) (one_made s names t) (λ l. (with_reduction t s names, all_kept t, (refl, refl)))) unlowerable_decided
    where
      no_limit : ((n : ℕ) → WhereLimit (MakesReduction s names) t s n → ⊥) → (IsUnlowerable t s names → ⊥) → (n : ℕ) → WhereReductionLimit t s names n → ⊥
      no_limit none lowerable n (inl h) = none n h
      no_limit none lowerable n (inr h) = lowerable h.0

      by : Settled (WhereLimit (MakesReduction s names) t s) → Unlowerable → Settled (WhereReductionLimit t s names)
      by (Some n, h) d = (Some n, inl h)
      by (None, none) (inl u) = (Some s, inr (u, refl))
      by (None, none) (inr lowerable) = (None, no_limit none lowerable)

  abbrev listed : Head → StmtTrees → Bool
  listed = is_unlistable t s names

  abbrev private : Rules
  private = also AlreadyPrivate (WhereLoop t s listed) (no_sum t s names)

  abbrev limit : Rules
  limit = also Limit (WhereReductionLimit t s names) private

  private_above : AreAbove 15 private
  private_above = also_above AlreadyPrivate (WhereLoop t s listed) (no_sum t s names) 15 (omega arith) (no_sum_above t s names)

  limit_above : AreAbove 14 limit
  limit_above = also_above Limit (WhereReductionLimit t s names) private 14 (omega arith) private_above

  pub reducing_cause : (c : Option Cause) × IsFirstCause t (StandsAgainstReducing s names t) (carried_beside t s names) c
  reducing_cause = some_cause t (StandsAgainstReducing s names t) (carried_beside t s names)
      (found_against t s names limit limit_above
      (found_above Limit (WhereReductionLimit t s names) private private_above settled_reduction
      (found_above AlreadyPrivate (WhereLoop t s listed) (no_sum t s names) (no_sum_above t s names) (settled_where t s listed) (no_sum_found t s names))))
