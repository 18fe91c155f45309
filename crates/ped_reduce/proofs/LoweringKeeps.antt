-- Lowering keeps the meaning of a program that may be trusted, list by list: sums are kept apart, in order, and then the DO becomes a PARALLEL DO.
use Rattle.std.proofs.Common.{◌≡◌, ℕ, zero, suc, ◌+◌, ◌-◌, List, [], ◌∷◌, ◌++◌, true, false, Option, Some, inl, inr, refl, sym, ap, subst, ◌∙◌, arith}
use Rattle.std.specs.Prelude.{option_map}
use Rattle.std.specs.List.{range_with_len}
use Rattle.ped_tree.specs.Tree.{StmtTree, ProgramTree}
use Rattle.ped_tree.specs.Numbering.{statements_count}
use Rattle.ped_rules.specs.ped_symbols.specs.NameRefusals.{IsValid}
use Rattle.ped_rules.specs.ped_steps.specs.Replacing.{all_kept}
use Rattle.ped_rules.specs.ped_steps.specs.Runs.Meaning.{Keeps}
use Rattle.ped_rules.specs.ped_steps.proofs.RunLaws.KeptMeanings.{keeps_itself, keeps_further}
use Rattle.ped_rules.specs.ped_loop_runs.specs.Unrejected.{IsTrusted}
use Rattle.ped_rules.specs.Spans.{Span}
use Rattle.ped_rules.specs.Lawful.{IsFaithful, IsLawful}
use Rattle.ped_rules.specs.Paralleling.{paralleling}
use Rattle.ped_reduce.specs.Lists.{list_of}
use Rattle.ped_reduce.specs.Lowering.{and_then, partials_of, fresh_arrays, lowered_with, lowered_statement, Lowered, not_lowered, lowered_at}
use Rattle.ped_reduce.specs.Reducing.{IsLive, LowersOne, Lowers, IsLowered}
use Rattle.ped_reduce.proofs.LoweredPrograms.{made_by}
use Rattle.ped_reduce.proofs.SumGoals.{SumsInOrder}
use Rattle.ped_reduce.proofs.MayBeParallel.{may_be_parallel, becomes_parallel}

-- where a DO is lowered as a PARALLEL DO, it may be lowered in order
in_order : (p q : Lowered) (s : ℕ) (names : List (List ℕ)) → lowered_at true p s names ≡ Some q → (w : Lowered) × (lowered_at false p s names ≡ Some w)
in_order p q s names makes =
    let m = made_by true p s names q makes in (
      lowered_with false p s m.body m.span m.partials,
      ap (λ (o : Option StmtTree). and_then o (lowered_statement false p s names)) m.is
          ∙ ap (λ (o : Option Span). and_then o (λ (v : Span). option_map (lowered_with false p s m.body v) (partials_of names (fresh_arrays p.tree)))) m.spans
          ∙ ap (option_map (lowered_with false p s m.body m.span)) m.arrays,
    )

-- the numbers up to the next
one_further : (k n : ℕ) → range_with_len k (suc n) ≡ range_with_len k n ++ (k + n) ∷ []
one_further k zero = let e : k ≡ k + 0 = omega arith in ap (λ (j : ℕ). j ∷ []) e
one_further k (suc n) = let e : k + 1 + n ≡ k + suc n = omega arith in ap (λ (ks : List ℕ). k ∷ ks) (one_further (k + 1) n) ∙ ap (λ (j : ℕ). range_with_len k (suc n) ++ j ∷ []) e

module _ (t : ProgramTree) where
  -- one statement more is lowered
  lowers_further : (ss : List ℕ) (s : ℕ) (p q r : Lowered) → Lowers t ss p q → LowersOne t s q r → Lowers t (ss ++ s ∷ []) p r
  lowers_further [] s p q r lowers one = (r, subst (λ (z : Lowered). LowersOne t s z r) lowers one, refl)
  lowers_further (k ∷ ks) s p q r (z, first, lowers) one = (z, first, lowers_further ks s z q r lowers one)

module _ (lawful : (s : ℕ) → IsLawful (paralleling s)) (sums : SumsInOrder) (t : ProgramTree) (valid : IsValid t) (trusted : IsTrusted t) where
  -- a stage is valid, may be trusted, and means the same
  pub record IsKept (p : Lowered) : Type 0 where
    pub is_valid : IsValid p.tree
    pub is_trusted : IsTrusted p.tree
    pub keeps : Keeps t p.tree

  -- a live list
  live_kept : (s : ℕ) (p q : Lowered) → Lowers t (range_with_len 1 (s - 1)) (not_lowered t) p → IsKept p → IsLive t s p q → IsKept q
  live_kept s p q front kept live =
      let w = in_order p q s (list_of live.loop.body) live.makes in
      let apart = sums t s p q w.0 valid front kept.is_valid live w.1 in
      let safe = apart.2 kept.is_trusted in
      let cause = may_be_parallel t s p q w.0 valid apart.0 trusted front live w.1 in
      let makes = becomes_parallel t s p q w.0 valid apart.0 trusted front live w.1 in
      let faithful : IsFaithful w.0.tree q.tree = (lawful (s + p.more)).keeps w.0.tree q.tree (all_kept w.0.tree) apart.0 cause makes safe in
      record { is_valid = live.valid; is_trusted = faithful.trusted; keeps = keeps_further t w.0.tree q.tree (keeps_further t p.tree w.0.tree kept.keeps apart.1) faithful.keeps }

  one_kept : (s : ℕ) (p q : Lowered) → Lowers t (range_with_len 1 (s - 1)) (not_lowered t) p → IsKept p → LowersOne t s p q → IsKept q
  one_kept s p q front kept (inl live) = live_kept s p q front kept live
  one_kept s p q front kept (inr stays) = subst IsKept (sym stays.1) kept

  all_kept_so : (count n : ℕ) (p q : Lowered) → Lowers t (range_with_len 1 n) (not_lowered t) p → IsKept p → Lowers t (range_with_len (n + 1) count) p q → IsKept q
  all_kept_so zero n p q front kept lowers = subst IsKept (sym lowers) kept
  all_kept_so (suc count) n p q front kept (r, one, lowers) =
      let before : n ≡ n + 1 - 1 = omega arith in
      let at : n + 1 ≡ suc n = omega arith in
      let next : 1 + n ≡ n + 1 = omega arith in
      let further : range_with_len 1 n ++ (n + 1) ∷ [] ≡ range_with_len 1 (n + 1) = ap (λ (k : ℕ). range_with_len 1 n ++ k ∷ []) (sym next) ∙ sym (one_further 1 n) ∙ ap (range_with_len 1) (sym at) in
      all_kept_so count (n + 1) r q
      (subst (λ (ks : List ℕ). Lowers t ks (not_lowered t) r) further (lowers_further t (range_with_len 1 n) (n + 1) (not_lowered t) p r front one))
      (one_kept (n + 1) p r (subst (λ (k : ℕ). Lowers t (range_with_len 1 k) (not_lowered t) p) before front) kept one) lowers

  -- so what comes of the program by lowering is valid, may be trusted, and means the same
  pub lowering_keeps : (q : Lowered) → IsLowered t q → IsValid q.tree × IsTrusted q.tree × Keeps t q.tree
  lowering_keeps q lowered =
      let kept = all_kept_so (statements_count t.body) 0 (not_lowered t) q refl (record { is_valid = valid; is_trusted = trusted; keeps = keeps_itself t }) lowered in
      (kept.is_valid, kept.is_trusted, kept.keeps)
