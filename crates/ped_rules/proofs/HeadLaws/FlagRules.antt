-- The rules that stand against `parallel` and `serial`, one behind the other; and what is so where none stands.
use Rattle.std.proofs.Common.{◌≡◌, ℕ, List, Bool, true, false, refl, sym, ◌∙◌, arith}
use Rattle.std.proofs.lemmas.Bool.{false_from_ne_true}
use Rattle.ped_tree.specs.Tree.{Head, StmtTrees, ProgramTree}
use Rattle.ped_rules.proofs.OneLoop.{fails_there}
use Rattle.ped_loop_runs.specs.ped_symbols.specs.NameRefusals.{IsValid}
use Rattle.ped_loop_runs.specs.ped_flow.specs.Questions.{IsLoop, LoopOf, IsContained}
use Rattle.ped_loop_runs.specs.ped_steps.specs.declared.rules.Rule.TheVariants.{NoLoop, ParallelState, IndexEscapes, Limit}
use Rattle.ped_loop_runs.specs.ped_steps.specs.Causes.{Rules, NoRule, IsFirstRule}
use Rattle.ped_loop_runs.specs.ped_steps.specs.Replacing.{all_kept}
use Rattle.ped_rules.specs.Chains.{no_rules, also, WhereLoop}
use Rattle.ped_rules.specs.Rules.{WhereNoLoop, WhereEscape, WhereLimit}
use Rattle.ped_rules.proofs.Chains.{IsChain, chain_end, chain_link, first_here, first_later, none_later, not_this, not_those, none_at_end}
use Rattle.ped_rules.proofs.OneEach.{no_loop_one, loop_one, escape_one, limit_one}
use Rattle.ped_rules.proofs.Decided.{some_loop, limit_stands, limit_not, limit_valid}
use Rattle.ped_rules.specs.Flags.{flagged}
use Rattle.ped_rules.proofs.HeadLaws.Contained.{contained}

-- the step that makes a DO parallel or serial, and a test by which rule 3 stands
module _ (test : Head → StmtTrees → Bool) (flag : Bool) (s : ℕ) where
  abbrev pub Makes : ProgramTree → ProgramTree → List (ℕ × ℕ) → Type 0
  Makes t new keep = (new ≡ flagged t s flag) × (keep ≡ all_kept t)

  pub one_made : (t new other : ProgramTree) (keep more : List (ℕ × ℕ)) → Makes t new keep → Makes t other more → (new ≡ other) × (keep ≡ more)
  one_made t new other keep more p q = (p.0 ∙ sym q.0, p.1 ∙ sym q.1)

  module _ (t : ProgramTree) where
    abbrev limit : Rules
    limit = also Limit (WhereLimit Makes t s) no_rules

    abbrev escape : Rules
    escape = also IndexEscapes (WhereEscape t s) limit

    abbrev state : Rules
    state = also ParallelState (WhereLoop t s test) escape

    abbrev pub stands : Rules
    stands = also NoLoop (WhereNoLoop t s) state

    limit_chain : IsChain 5 limit
    limit_chain = chain_link Limit (WhereLimit Makes t s) no_rules 5 (omega arith) (limit_one t s Makes) (chain_end 15)

    escape_chain : IsChain 3 escape
    escape_chain = chain_link IndexEscapes (WhereEscape t s) limit 3 (omega arith) (escape_one t s) limit_chain

    state_chain : IsChain 1 state
    state_chain = chain_link ParallelState (WhereLoop t s test) escape 1 (omega arith) (loop_one t s test) escape_chain

    pub chain : IsChain 0 stands
    chain = chain_link NoLoop (WhereNoLoop t s) state 0 (omega arith) (no_loop_one t s) state_chain

    -- the statement is no DO
    pub no_loop_first : ((h : Head) (body : StmtTrees) → IsLoop t s h body → ⊥) → IsFirstRule stands NoLoop s
    no_loop_first none = first_here NoLoop (WhereNoLoop t s) state s ((λ l. none l.head l.body l.is), refl) state_chain

    module _ (h : Head) (body : StmtTrees) (is : IsLoop t s h body) where
      abbrev loop : LoopOf t s
      loop = record { head = h; body = body; is = is }

      not_no_loop : (n : ℕ) → WhereNoLoop t s n → ⊥
      not_no_loop n p = p.0 loop

      pub state_first : test h body ≡ true → IsFirstRule stands ParallelState s
      state_first holds = first_later NoLoop (WhereNoLoop t s) state not_no_loop ParallelState s (first_here ParallelState (WhereLoop t s test) escape s (loop, holds, refl) escape_chain)

      not_state : test h body ≡ false → (n : ℕ) → WhereLoop t s test n → ⊥
      not_state fails n p = fails_there t s h body is test fails n p

      pub escape_first : (n : ℕ) → test h body ≡ false → WhereEscape t s n → IsFirstRule stands IndexEscapes n
      escape_first n fails escapes =
          first_later NoLoop (WhereNoLoop t s) state not_no_loop IndexEscapes n
          (first_later ParallelState (WhereLoop t s test) escape (not_state fails) IndexEscapes n (first_here IndexEscapes (WhereEscape t s) limit n escapes limit_chain))

      pub limit_first : test h body ≡ false → ((n : ℕ) → WhereEscape t s n → ⊥) → (IsValid (flagged t s flag) → ⊥) → IsFirstRule stands Limit s
      limit_first fails none invalid =
          first_later NoLoop (WhereNoLoop t s) state not_no_loop Limit s
          (first_later ParallelState (WhereLoop t s test) escape (not_state fails) Limit s
          (first_later IndexEscapes (WhereEscape t s) limit none Limit s
          (first_here Limit (WhereLimit Makes t s) no_rules s (limit_stands Makes t s loop (one_made t) (flagged t s flag) (all_kept t) (refl, refl) invalid) (chain_end 15))))

      pub nothing_stands : test h body ≡ false → ((n : ℕ) → WhereEscape t s n → ⊥) → IsValid (flagged t s flag) → NoRule stands
      nothing_stands fails none valid =
          none_later NoLoop (WhereNoLoop t s) state not_no_loop
          (none_later ParallelState (WhereLoop t s test) escape (not_state fails)
          (none_later IndexEscapes (WhereEscape t s) limit none
          (none_later Limit (WhereLimit Makes t s) no_rules (limit_not Makes t s (flagged t s flag) (all_kept t) (refl, refl) valid) none_at_end)))

    -- where no rule stands
    module _ (none : NoRule stands) where
      none_but_loop : NoRule state
      none_but_loop = not_those NoLoop (WhereNoLoop t s) state none

      none_but_state : NoRule escape
      none_but_state = not_those ParallelState (WhereLoop t s test) escape none_but_loop

      none_but_escape : NoRule limit
      none_but_escape = not_those IndexEscapes (WhereEscape t s) limit none_but_state

      pub its_loop : LoopOf t s
      its_loop = some_loop t s (not_this NoLoop (WhereNoLoop t s) state none)

      pub test_fails : (l : LoopOf t s) → test l.head l.body ≡ false
      test_fails l = false_from_ne_true (test l.head l.body) (λ holds. not_this ParallelState (WhereLoop t s test) escape none_but_loop s (l, holds, refl))

      pub is_valid : IsValid (flagged t s flag)
      is_valid = limit_valid Makes t s its_loop (one_made t) (not_this Limit (WhereLimit Makes t s) no_rules none_but_escape) (flagged t s flag) (all_kept t) (refl, refl)

      unescaped : (n : ℕ) → WhereEscape t s n → ⊥
      unescaped = not_this IndexEscapes (WhereEscape t s) limit none_but_state

      pub is_contained : IsContained t s
      is_contained = contained t s its_loop unescaped
