-- The rules that stand against `reverse`, one behind the other; and what is so where none stands.
use Rattle.std.proofs.Common.{◌≡◌, ℕ, ℤ, List, Bool, true, false, Option, Some, None, refl, sym, ap, ◌∙◌, arith}
use Rattle.std.specs.Prelude.{not}
use Rattle.std.proofs.lemmas.Bool.{false_from_ne_true}
use Rattle.ped_tree.specs.Tree.{Head, StmtTrees, ProgramTree}
use Rattle.ped_rules.proofs.OneLoop.{fails_there}
use Rattle.ped_rules.specs.ped_symbols.specs.Kinds.{table_of}
use Rattle.ped_rules.specs.ped_symbols.specs.NameRefusals.{IsValid}
use Rattle.ped_rules.specs.ped_flow.specs.Questions.{IsLoop, LoopOf, IsContained}
use Rattle.ped_rules.specs.ped_steps.specs.declared.rules.Rule.TheVariants.{NoLoop, ParallelState, IndexEscapes, StepShape, Limit}
use Rattle.ped_rules.specs.ped_steps.specs.Causes.{Rules, NoRule, IsFirstRule}
use Rattle.ped_rules.specs.ped_steps.specs.Replacing.{all_kept}
use Rattle.ped_rules.specs.Chains.{no_rules, also, WhereLoop}
use Rattle.ped_rules.specs.Rules.{WhereNoLoop, is_parallel, WhereEscape, isnt_allowed, is_unit, has_other_step, WhereLimit}
use Rattle.ped_rules.proofs.Chains.{IsChain, chain_end, chain_link, first_here, first_later, none_later, not_this, not_those, none_at_end}
use Rattle.ped_rules.proofs.OneEach.{no_loop_one, loop_one, escape_one, limit_one}
use Rattle.ped_rules.proofs.Decided.{some_loop, limit_stands, limit_not, limit_valid}
use Rattle.ped_loops.specs.Reversing.{reversed, MakesReversed, StandsAgainstReversal}
use Rattle.ped_rules.proofs.HeadLaws.Contained.{contained}

module _ (s : ℕ) where
  pub one_made : (t new other : ProgramTree) (keep more : List (ℕ × ℕ)) → MakesReversed s t new keep → MakesReversed s t other more → (new ≡ other) × (keep ≡ more)
  one_made t new other keep more p q = (p.0 ∙ sym q.0, p.1 ∙ sym q.1)

  module _ (t : ProgramTree) where
    abbrev other_step : Head → StmtTrees → Bool
    other_step = has_other_step (table_of t).constants is_unit

    abbrev limit : Rules
    limit = also Limit (WhereLimit (MakesReversed s) t s) no_rules

    abbrev shape : Rules
    shape = also StepShape (WhereLoop t s other_step) limit

    abbrev escape : Rules
    escape = also IndexEscapes (WhereEscape t s) shape

    abbrev state : Rules
    state = also ParallelState (WhereLoop t s is_parallel) escape

    abbrev stands : Rules
    stands = StandsAgainstReversal s t

    limit_chain : IsChain 8 limit
    limit_chain = chain_link Limit (WhereLimit (MakesReversed s) t s) no_rules 8 (omega arith) (limit_one t s (MakesReversed s)) (chain_end 15)

    shape_chain : IsChain 5 shape
    shape_chain = chain_link StepShape (WhereLoop t s other_step) limit 5 (omega arith) (loop_one t s other_step) limit_chain

    escape_chain : IsChain 3 escape
    escape_chain = chain_link IndexEscapes (WhereEscape t s) shape 3 (omega arith) (escape_one t s) shape_chain

    state_chain : IsChain 1 state
    state_chain = chain_link ParallelState (WhereLoop t s is_parallel) escape 1 (omega arith) (loop_one t s is_parallel) escape_chain

    pub chain : IsChain 0 stands
    chain = chain_link NoLoop (WhereNoLoop t s) state 0 (omega arith) (no_loop_one t s) state_chain

    -- the statement is no DO
    pub no_loop_first : ((h : Head) (body : StmtTrees) → IsLoop t s h body → ⊥) → IsFirstRule stands NoLoop s
    no_loop_first none = first_here NoLoop (WhereNoLoop t s) state s ((λ l. none l.head l.body l.is), refl) state_chain

    module _ (h : Head) (body : StmtTrees) (is : IsLoop t s h body) where
      abbrev loop : LoopOf t s
      loop = record { head = h; body = body; is = is }

      not_no_loop : (n : ℕ) → WhereNoLoop t s n → ⊥
      not_no_loop n p = p.0 loop

      pub state_first : h.parallel ≡ true → IsFirstRule stands ParallelState s
      state_first holds = first_later NoLoop (WhereNoLoop t s) state not_no_loop ParallelState s (first_here ParallelState (WhereLoop t s is_parallel) escape s (loop, holds, refl) escape_chain)

      module _ (serial : h.parallel ≡ false) where
        pub escape_first : (n : ℕ) → WhereEscape t s n → IsFirstRule stands IndexEscapes n
        escape_first n escapes =
            first_later NoLoop (WhereNoLoop t s) state not_no_loop IndexEscapes n
            (first_later ParallelState (WhereLoop t s is_parallel) escape (fails_there t s h body is is_parallel serial) IndexEscapes n (first_here IndexEscapes (WhereEscape t s) shape n escapes shape_chain))

        module _ (none : (n : ℕ) → WhereEscape t s n → ⊥) where
          pub shape_first : other_step h body ≡ true → IsFirstRule stands StepShape s
          shape_first holds =
              first_later NoLoop (WhereNoLoop t s) state not_no_loop StepShape s
              (first_later ParallelState (WhereLoop t s is_parallel) escape (fails_there t s h body is is_parallel serial) StepShape s
              (first_later IndexEscapes (WhereEscape t s) shape none StepShape s (first_here StepShape (WhereLoop t s other_step) limit s (loop, holds, refl) limit_chain)))

          module _ (unit : other_step h body ≡ false) where
            pub limit_first : (IsValid (reversed t s) → ⊥) → IsFirstRule stands Limit s
            limit_first invalid =
                first_later NoLoop (WhereNoLoop t s) state not_no_loop Limit s
                (first_later ParallelState (WhereLoop t s is_parallel) escape (fails_there t s h body is is_parallel serial) Limit s
                (first_later IndexEscapes (WhereEscape t s) shape none Limit s
                (first_later StepShape (WhereLoop t s other_step) limit (fails_there t s h body is other_step unit) Limit s
                (first_here Limit (WhereLimit (MakesReversed s) t s) no_rules s (limit_stands (MakesReversed s) t s loop (one_made t) (reversed t s) (all_kept t) (refl, refl) invalid) (chain_end 15)))))

            pub nothing_stands : IsValid (reversed t s) → NoRule stands
            nothing_stands valid =
                none_later NoLoop (WhereNoLoop t s) state not_no_loop
                (none_later ParallelState (WhereLoop t s is_parallel) escape (fails_there t s h body is is_parallel serial)
                (none_later IndexEscapes (WhereEscape t s) shape none
                (none_later StepShape (WhereLoop t s other_step) limit (fails_there t s h body is other_step unit)
                (none_later Limit (WhereLimit (MakesReversed s) t s) no_rules (limit_not (MakesReversed s) t s (reversed t s) (all_kept t) (refl, refl) valid) none_at_end))))

    -- where no rule stands
    module _ (none : NoRule stands) where
      none_but_loop : NoRule state
      none_but_loop = not_those NoLoop (WhereNoLoop t s) state none

      none_but_state : NoRule escape
      none_but_state = not_those ParallelState (WhereLoop t s is_parallel) escape none_but_loop

      none_but_escape : NoRule shape
      none_but_escape = not_those IndexEscapes (WhereEscape t s) shape none_but_state

      none_but_shape : NoRule limit
      none_but_shape = not_those StepShape (WhereLoop t s other_step) limit none_but_escape

      pub its_loop : LoopOf t s
      its_loop = some_loop t s (not_this NoLoop (WhereNoLoop t s) state none)

      pub is_serial : (l : LoopOf t s) → l.head.parallel ≡ false
      is_serial l = false_from_ne_true l.head.parallel (λ holds. not_this ParallelState (WhereLoop t s is_parallel) escape none_but_loop s (l, holds, refl))

      pub has_unit : (l : LoopOf t s) → other_step l.head l.body ≡ false
      has_unit l = false_from_ne_true (other_step l.head l.body) (λ holds. not_this StepShape (WhereLoop t s other_step) limit none_but_escape s (l, holds, refl))

      pub is_valid : IsValid (reversed t s)
      is_valid = limit_valid (MakesReversed s) t s its_loop (one_made t) (not_this Limit (WhereLimit (MakesReversed s) t s) no_rules none_but_shape) (reversed t s) (all_kept t) (refl, refl)

      pub is_contained : IsContained t s
      is_contained = contained t s its_loop (not_this IndexEscapes (WhereEscape t s) shape none_but_state)

-- an increment that is 1 or -1
pub unit_value : (o : Option ℤ) → isnt_allowed is_unit o ≡ false → (m : ℤ) × (o ≡ Some m) × (is_unit m ≡ true)
unit_value None e = absurd cc
unit_value (Some m) e = (m, refl, not_so (is_unit m) e)
  where
    not_so : (b : Bool) → not b ≡ false → b ≡ true
    not_so true e = refl
    not_so false e = absurd cc

pub value_unit : (o : Option ℤ) (m : ℤ) → o ≡ Some m → is_unit m ≡ true → isnt_allowed is_unit o ≡ false
value_unit o m e h = ap (isnt_allowed is_unit) e ∙ ap not h
