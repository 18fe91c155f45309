-- The rules against `reduce`: each names one statement; and what is so where none stands.
use Rattle.std.proofs.Common.{◌≡◌, ℕ, ◌+◌, List, Bool, inl, inr, Some, refl, sym, ap, ◌∙◌, arith}
use Rattle.ped_tree.specs.Tree.{Head, StmtTrees, ProgramTree}
use Rattle.ped_tree.specs.Numbering.{statements_count}
use Rattle.ped_rules.specs.ped_symbols.specs.Kinds.{table_of}
use Rattle.ped_rules.specs.ped_symbols.specs.NameRefusals.{IsValid}
use Rattle.ped_rules.specs.ped_flow.specs.Questions.{LoopOf, IsContained}
use Rattle.ped_rules.specs.ped_steps.specs.declared.rules.Rule.TheVariants.{NoLoop, ParallelState, IndexEscapes, Range, NotScalar, NotConstant, Limit, AlreadyPrivate, NotSum}
use Rattle.ped_rules.specs.ped_steps.specs.Causes.{Rules, NoRule}
use Rattle.ped_rules.specs.ped_steps.specs.Replacing.{all_kept}
use Rattle.ped_rules.specs.Chains.{no_rules, also, WhereLoop}
use Rattle.ped_rules.specs.Rules.{WhereNoLoop, WhereEscape, isnt_constant}
use Rattle.ped_rules.proofs.Chains.{IsOne, IsChain, chain_end, chain_link, not_this, not_those}
use Rattle.ped_rules.proofs.Decided.{some_loop, limit_valid}
use Rattle.ped_rules.proofs.HeadLaws.Contained.{contained}
use Rattle.ped_rules.proofs.OneEach.{no_loop_one, loop_one, escape_one, limit_one}
use Rattle.ped_rules.proofs.OneLoop.{one_loop}
use Rattle.ped_rules.specs.Scalars.{is_in_parallel}
use Rattle.ped_rules.specs.Scalars.{has_far_value}
use Rattle.ped_reduce.specs.Reducing.{first_beside_sums, has_unsummable, WhereNoSum, is_unlistable, MakesReduction, WhereReductionLimit, with_reduction, StandsAgainstReducing}

one_number : (m n : ℕ) → Some m ≡ Some n → m ≡ n
one_number m n e = cc

module _ (s : ℕ) (names : List (List ℕ)) where
  pub one_made : (t new other : ProgramTree) (keep more : List (ℕ × ℕ)) → MakesReduction s names t new keep → MakesReduction s names t other more → (new ≡ other) × (keep ≡ more)
  one_made t new other keep more p q = (p.0 ∙ sym q.0, p.1 ∙ sym q.1)

  module _ (t : ProgramTree) where
    limit_rule_one : IsOne (WhereReductionLimit t s names)
    limit_rule_one m n (inl a) (inl b) = limit_one t s (MakesReduction s names) m n a b
    limit_rule_one m n (inl a) (inr b) = a.2 ∙ sym b.1
    limit_rule_one m n (inr a) (inl b) = a.1 ∙ sym b.2
    limit_rule_one m n (inr a) (inr b) = a.1 ∙ sym b.1

    no_sum_one : IsOne (WhereNoSum t s names)
    no_sum_one m n a b =
        let same = (one_loop t s a.0 b.0).1 in
        one_number m n (sym a.1 ∙ ap (λ (body : StmtTrees). first_beside_sums t s (statements_count body + 1) names) same ∙ b.1)

    abbrev far : Head → StmtTrees → Bool
    far = has_far_value (table_of t).constants

    abbrev unsummable : Head → StmtTrees → Bool
    unsummable = has_unsummable t s names

    abbrev open_bound : Head → StmtTrees → Bool
    open_bound = isnt_constant (table_of t).constants

    abbrev no_sum : Rules
    no_sum = also NotSum (WhereNoSum t s names) no_rules

    abbrev private : Rules
    private = also AlreadyPrivate (WhereLoop t s (is_unlistable t s names)) no_sum

    abbrev limit : Rules
    limit = also Limit (WhereReductionLimit t s names) private

    abbrev constant : Rules
    constant = also NotConstant (WhereLoop t s open_bound) limit

    abbrev scalar : Rules
    scalar = also NotScalar (WhereLoop t s unsummable) constant

    abbrev range : Rules
    range = also Range (WhereLoop t s far) scalar

    abbrev escape : Rules
    escape = also IndexEscapes (WhereEscape t s) range

    abbrev state : Rules
    state = also ParallelState (WhereLoop t s (is_in_parallel t s)) escape

    pub chain : IsChain 0 (StandsAgainstReducing s names t)
    chain =
        chain_link NoLoop (WhereNoLoop t s) state 0 (omega arith) (no_loop_one t s)
        (chain_link ParallelState (WhereLoop t s (is_in_parallel t s)) escape 1 (omega arith) (loop_one t s (is_in_parallel t s))
        (chain_link IndexEscapes (WhereEscape t s) range 3 (omega arith) (escape_one t s)
        (chain_link Range (WhereLoop t s far) scalar 5 (omega arith) (loop_one t s far)
        (chain_link NotScalar (WhereLoop t s unsummable) constant 9 (omega arith) (loop_one t s unsummable)
        (chain_link NotConstant (WhereLoop t s open_bound) limit 13 (omega arith) (loop_one t s open_bound)
        (chain_link Limit (WhereReductionLimit t s names) private 14 (omega arith) limit_rule_one
        (chain_link AlreadyPrivate (WhereLoop t s (is_unlistable t s names)) no_sum 15 (omega arith) (loop_one t s (is_unlistable t s names))
        (chain_link NotSum (WhereNoSum t s names) no_rules 17 (omega arith) no_sum_one (chain_end 19)))))))))

    -- where no rule stands
    module _ (none : NoRule (StandsAgainstReducing s names t)) where
      none_but_loop : NoRule state
      none_but_loop = not_those NoLoop (WhereNoLoop t s) state none

      none_but_state : NoRule escape
      none_but_state = not_those ParallelState (WhereLoop t s (is_in_parallel t s)) escape none_but_loop

      none_but_escape : NoRule range
      none_but_escape = not_those IndexEscapes (WhereEscape t s) range none_but_state

      none_but_constant : NoRule limit
      none_but_constant =
          not_those NotConstant (WhereLoop t s open_bound) limit
          (not_those NotScalar (WhereLoop t s unsummable) constant
          (not_those Range (WhereLoop t s far) scalar none_but_escape))

      pub its_loop : LoopOf t s
      its_loop = some_loop t s (not_this NoLoop (WhereNoLoop t s) state none)

      pub is_contained : IsContained t s
      is_contained = contained t s its_loop (not_this IndexEscapes (WhereEscape t s) range none_but_state)

      pub is_valid : IsValid (with_reduction t s names)
      is_valid = limit_valid (MakesReduction s names) t s its_loop (one_made t) (λ n h. not_this Limit (WhereReductionLimit t s names) private none_but_constant n (inl h)) (with_reduction t s names) (all_kept t) (refl, refl)
