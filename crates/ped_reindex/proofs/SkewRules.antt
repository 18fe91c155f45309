-- The rules that stand against `skew`, one behind the other; and what is so where none stands.
use Rattle.std.proofs.Common.{◌≡◌, ℕ, ℤ, List, Bool, true, false, refl, sym, ◌∙◌, arith}
use Rattle.ped_tree.specs.Tree.{Head, StmtTrees, ProgramTree}
use Rattle.ped_rules.specs.ped_symbols.specs.NameRefusals.{IsValid}
use Rattle.ped_rules.specs.ped_flow.specs.Questions.{IsLoop, LoopOf, IsContained}
use Rattle.ped_rules.specs.ped_steps.specs.declared.rules.Rule.{Rule}
use Rattle.ped_rules.specs.ped_steps.specs.declared.rules.Rule.TheVariants.{NoLoop, NotPerfect, ParallelState, IndexEscapes, Range, Limit, BadFactor}
use Rattle.ped_rules.specs.ped_steps.specs.Causes.{Rules, NoRule, IsFirstRule}
use Rattle.ped_rules.specs.ped_steps.specs.Replacing.{all_kept}
use Rattle.ped_rules.specs.Chains.{no_rules, also, WhereLoop, Unless}
use Rattle.ped_rules.specs.OnlyLoops.{either}
use Rattle.ped_rules.specs.Rules.{WhereNoLoop, isnt_perfect, is_parallel, WhereEscape, WhereLimit}
use Rattle.ped_rules.proofs.Chains.{IsChain, chain_end, chain_link, first_here, first_later, none_later, not_this, not_those, none_at_end}
use Rattle.ped_rules.proofs.OneEach.{unless_one, no_loop_one, loop_one, escape_one, limit_one}
use Rattle.ped_rules.proofs.Decided.{some_loop, limit_stands, limit_not, limit_valid}
use Rattle.ped_reindex.specs.Skewing.{is_bad_factor, has_bad_factor, skewed, MakesSkewed, skew_leaves, StandsAgainstSkewing}
use Rattle.ped_rules.proofs.HeadLaws.Contained.{contained}
use Rattle.ped_reindex.proofs.Here.{not_asked, not_unless, fails_by, here, not_no_loop, fails_there, passes_there}

module _ (s : ℕ) (f : ℤ) where
  pub one_made : (t new other : ProgramTree) (keep more : List (ℕ × ℕ)) → MakesSkewed s f t new keep → MakesSkewed s f t other more → (new ≡ other) × (keep ≡ more)
  one_made t new other keep more p q = (p.0 ∙ sym q.0, p.1 ∙ sym q.1)

  module _ (t : ProgramTree) where
    abbrev pub bad : Bool
    bad = is_bad_factor f

    abbrev pub Leaving : ℕ → Type 0
    Leaving = WhereLoop t s (skew_leaves t s f)

    abbrev pub Limited : ℕ → Type 0
    Limited = WhereLimit (MakesSkewed s f) t s

    abbrev pub factor : Rules
    factor = also BadFactor (WhereLoop t s (has_bad_factor f)) no_rules

    abbrev pub limit : Rules
    limit = also Limit (Unless bad Limited) factor

    abbrev pub range : Rules
    range = also Range (Unless bad Leaving) limit

    abbrev pub escape : Rules
    escape = also IndexEscapes (WhereEscape t s) range

    abbrev pub state : Rules
    state = also ParallelState (WhereLoop t s (either is_parallel)) escape

    abbrev pub perfect : Rules
    perfect = also NotPerfect (WhereLoop t s isnt_perfect) state

    abbrev stands : Rules
    stands = StandsAgainstSkewing s f t

    pub factor_chain : IsChain 15 factor
    factor_chain = chain_link BadFactor (WhereLoop t s (has_bad_factor f)) no_rules 15 (omega arith) (loop_one t s (has_bad_factor f)) (chain_end 16)

    pub limit_chain : IsChain 9 limit
    limit_chain = chain_link Limit (Unless bad Limited) factor 9 (omega arith) (unless_one bad Limited (limit_one t s (MakesSkewed s f))) factor_chain

    pub range_chain : IsChain 5 range
    range_chain = chain_link Range (Unless bad Leaving) limit 5 (omega arith) (unless_one bad Leaving (loop_one t s (skew_leaves t s f))) limit_chain

    pub escape_chain : IsChain 3 escape
    escape_chain = chain_link IndexEscapes (WhereEscape t s) range 3 (omega arith) (escape_one t s) range_chain

    pub state_chain : IsChain 2 state
    state_chain = chain_link ParallelState (WhereLoop t s (either is_parallel)) escape 2 (omega arith) (loop_one t s (either is_parallel)) escape_chain

    pub perfect_chain : IsChain 1 perfect
    perfect_chain = chain_link NotPerfect (WhereLoop t s isnt_perfect) state 1 (omega arith) (loop_one t s isnt_perfect) state_chain

    pub chain : IsChain 0 stands
    chain = chain_link NoLoop (WhereNoLoop t s) perfect 0 (omega arith) (no_loop_one t s) perfect_chain

    -- the statement is no DO
    pub no_loop_first : ((h : Head) (body : StmtTrees) → IsLoop t s h body → ⊥) → IsFirstRule stands NoLoop s
    no_loop_first none = first_here NoLoop (WhereNoLoop t s) perfect s ((λ l. none l.head l.body l.is), refl) perfect_chain

    module _ (h : Head) (body : StmtTrees) (is : IsLoop t s h body) where
      behind_loop : (r : Rule) (n : ℕ) → IsFirstRule perfect r n → IsFirstRule stands r n
      behind_loop r n first = first_later NoLoop (WhereNoLoop t s) perfect (not_no_loop t s h body is) r n first

      pub perfect_first : isnt_perfect h body ≡ true → IsFirstRule stands NotPerfect s
      perfect_first holds = behind_loop NotPerfect s (first_here NotPerfect (WhereLoop t s isnt_perfect) state s (passes_there t s h body is isnt_perfect holds) state_chain)

      module _ (nested : isnt_perfect h body ≡ false) where
        behind_perfect : (r : Rule) (n : ℕ) → IsFirstRule state r n → IsFirstRule stands r n
        behind_perfect r n first = behind_loop r n (first_later NotPerfect (WhereLoop t s isnt_perfect) state (fails_there t s h body is isnt_perfect nested) r n first)

        pub state_first : either is_parallel h body ≡ true → IsFirstRule stands ParallelState s
        state_first holds =
            behind_perfect ParallelState s (first_here ParallelState (WhereLoop t s (either is_parallel)) escape s (passes_there t s h body is (either is_parallel) holds) escape_chain)

        module _ (serial : either is_parallel h body ≡ false) where
          behind_state : (r : Rule) (n : ℕ) → IsFirstRule escape r n → IsFirstRule stands r n
          behind_state r n first = behind_perfect r n (first_later ParallelState (WhereLoop t s (either is_parallel)) escape (fails_there t s h body is (either is_parallel) serial) r n first)

          pub escape_first : (n : ℕ) → WhereEscape t s n → IsFirstRule stands IndexEscapes n
          escape_first n escapes = behind_state IndexEscapes n (first_here IndexEscapes (WhereEscape t s) range n escapes range_chain)

          module _ (none : (n : ℕ) → WhereEscape t s n → ⊥) where
            behind_escape : (r : Rule) (n : ℕ) → IsFirstRule range r n → IsFirstRule stands r n
            behind_escape r n first = behind_state r n (first_later IndexEscapes (WhereEscape t s) range none r n first)

            pub factor_first : bad ≡ true → IsFirstRule stands BadFactor s
            factor_first holds =
                behind_escape BadFactor s
                (first_later Range (Unless bad Leaving) limit (not_asked bad Leaving holds) BadFactor s
                (first_later Limit (Unless bad Limited) factor (not_asked bad Limited holds) BadFactor s
                (first_here BadFactor (WhereLoop t s (has_bad_factor f)) no_rules s (passes_there t s h body is (has_bad_factor f) holds) (chain_end 16))))

            module _ (good : bad ≡ false) where
              pub range_first : skew_leaves t s f h body ≡ true → IsFirstRule stands Range s
              range_first holds = behind_escape Range s (first_here Range (Unless bad Leaving) limit s (good, passes_there t s h body is (skew_leaves t s f) holds) limit_chain)

              module _ (near : skew_leaves t s f h body ≡ false) where
                no_range : (n : ℕ) → Unless bad Leaving n → ⊥
                no_range = not_unless bad Leaving (fails_there t s h body is (skew_leaves t s f) near)

                pub limit_first : (IsValid (skewed t s f) → ⊥) → IsFirstRule stands Limit s
                limit_first invalid =
                    behind_escape Limit s
                    (first_later Range (Unless bad Leaving) limit no_range Limit s
                    (first_here Limit (Unless bad Limited) factor s (good, limit_stands (MakesSkewed s f) t s (here t s h body is) (one_made t) (skewed t s f) (all_kept t) (refl, refl) invalid) factor_chain))

                pub nothing_stands : IsValid (skewed t s f) → NoRule stands
                nothing_stands valid =
                    none_later NoLoop (WhereNoLoop t s) perfect (not_no_loop t s h body is)
                    (none_later NotPerfect (WhereLoop t s isnt_perfect) state (fails_there t s h body is isnt_perfect nested)
                    (none_later ParallelState (WhereLoop t s (either is_parallel)) escape (fails_there t s h body is (either is_parallel) serial)
                    (none_later IndexEscapes (WhereEscape t s) range none
                    (none_later Range (Unless bad Leaving) limit no_range
                    (none_later Limit (Unless bad Limited) factor (not_unless bad Limited (limit_not (MakesSkewed s f) t s (skewed t s f) (all_kept t) (refl, refl) valid))
                    (none_later BadFactor (WhereLoop t s (has_bad_factor f)) no_rules (fails_there t s h body is (has_bad_factor f) good) none_at_end))))))

    -- where no rule stands
    module _ (none : NoRule stands) where
      none_but_loop : NoRule perfect
      none_but_loop = not_those NoLoop (WhereNoLoop t s) perfect none

      none_but_perfect : NoRule state
      none_but_perfect = not_those NotPerfect (WhereLoop t s isnt_perfect) state none_but_loop

      none_but_state : NoRule escape
      none_but_state = not_those ParallelState (WhereLoop t s (either is_parallel)) escape none_but_perfect

      none_but_escape : NoRule range
      none_but_escape = not_those IndexEscapes (WhereEscape t s) range none_but_state

      none_but_range : NoRule limit
      none_but_range = not_those Range (Unless bad Leaving) limit none_but_escape

      none_but_limit : NoRule factor
      none_but_limit = not_those Limit (Unless bad Limited) factor none_but_range

      pub its_loop : LoopOf t s
      its_loop = some_loop t s (not_this NoLoop (WhereNoLoop t s) perfect none)

      pub is_perfect : (l : LoopOf t s) → isnt_perfect l.head l.body ≡ false
      is_perfect = fails_by t s isnt_perfect (not_this NotPerfect (WhereLoop t s isnt_perfect) state none_but_loop)

      pub are_serial : (l : LoopOf t s) → either is_parallel l.head l.body ≡ false
      are_serial = fails_by t s (either is_parallel) (not_this ParallelState (WhereLoop t s (either is_parallel)) escape none_but_perfect)

      pub is_good : bad ≡ false
      is_good = fails_by t s (has_bad_factor f) (not_this BadFactor (WhereLoop t s (has_bad_factor f)) no_rules none_but_limit) its_loop

      pub is_near : (l : LoopOf t s) → skew_leaves t s f l.head l.body ≡ false
      is_near = fails_by t s (skew_leaves t s f) (λ n p. not_this Range (Unless bad Leaving) limit none_but_escape n (is_good, p))

      pub is_valid : IsValid (skewed t s f)
      is_valid = limit_valid (MakesSkewed s f) t s its_loop (one_made t) (λ n p. not_this Limit (Unless bad Limited) factor none_but_range n (is_good, p)) (skewed t s f) (all_kept t) (refl, refl)

      pub is_contained : IsContained t s
      is_contained = contained t s its_loop (not_this IndexEscapes (WhereEscape t s) range none_but_state)
