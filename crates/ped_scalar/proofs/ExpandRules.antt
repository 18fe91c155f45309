-- The rules that stand against `expand`, one behind the other; what is so where none stands; and what the code answers.
use Rattle.std.proofs.Common.{◌≡◌, ◌⊎◌, ◌↔◌, ℕ, List, Bool, true, false, inl, inr, Some, None, Ok, Err, IsTrue, refl, sym, ap, ◌∙◌, subst, arith}
use Rattle.std.proofs.lemmas.Bool.{both_ways, and_from, and_right, false_from_ne_true}
use Rattle.ped_tree.specs.Tree.{Head, StmtTrees, ProgramTree}
use Rattle.ped_rules.specs.ped_symbols.specs.Kinds.{table_of}
use Rattle.ped_rules.specs.ped_symbols.specs.NameRefusals.{IsValid}
use Rattle.ped_rules.specs.ped_flow.specs.Questions.{IsLoop, LoopOf, IsExposed, IsLiveAfter}
use Rattle.ped_rules.specs.ped_steps.specs.declared.rules.Rule.{Rule}
use Rattle.ped_rules.specs.ped_steps.specs.declared.rules.Rule.TheVariants.{NoLoop, ParallelState, Range, ExposedOrLive, NotScalar, NotConstant, Limit, AlreadyPrivate}
use Rattle.ped_rules.specs.ped_steps.specs.declared.causes.Refused.{Refused}
use Rattle.ped_rules.specs.ped_steps.specs.declared.causes.Refused.TheVariants as variant
use Rattle.ped_rules.specs.ped_steps.specs.declared.changes.Change.{Change}
use Rattle.ped_rules.specs.ped_steps.specs.Changes.{IsChange}
use Rattle.ped_rules.specs.ped_steps.specs.Causes.{Rules, NoRule, IsFirstRule, none_forbids}
use Rattle.ped_rules.specs.Steps.{transformation, Answers}
use Rattle.ped_rules.specs.Chains.{no_rules, also, WhereLoop}
use Rattle.ped_rules.specs.Rules.{WhereNoLoop, is_parallel, isnt_constant}
use Rattle.ped_rules.specs.Spans.{Values, Span, span_of}
use Rattle.ped_rules.proofs.Answering.{refused_by, accepted_by, none_first}
use Rattle.ped_rules.proofs.Chains.{IsOne, IsChain, chain_end, chain_link, first_here, first_later, none_later, not_this, not_those, none_at_end}
use Rattle.ped_rules.proofs.Decided.{some_loop, valid_decided}
use Rattle.ped_rules.proofs.OneEach.{one_first, no_loop_one, loop_one}
use Rattle.ped_rules.specs.Scalars.{is_scalar, is_unfit}
use Rattle.ped_scalar.specs.Expanding.{array_name, expanded, expand_kept, IsLostBy, IsScalarLostBy, IsExpanded, MakesExpanded, WhereLost, WhereArrayLimit, is_scalar_private_near, StandsAgainstExpanding, expanding}
use Rattle.ped_rules.specs.Scalars.{is_private_near, has_far_value}
use Rattle.ped_scalar.proofs.FlowAnswers.{fit_scalar}
use Rattle.ped_rules.proofs.OneLoop.{one_loop, fails_there}
use Rattle.ped_scalar.proofs.PrivatiseRules.{live_one}

one_span : (v w : Span) → Some v ≡ Some w → v ≡ w
one_span v w e = cc

one_name : (a b : List ℕ) → Some a ≡ Some b → a ≡ b
one_name a b e = cc

no_name_is : (a : List ℕ) → Some a ≡ None → ⊥
no_name_is a e = cc

no_span_is : (v : Span) → Some v ≡ None → ⊥
no_span_is v e = cc

one_truth : (P : Type 0) (a b : Bool) → IsTrue a ↔ P → IsTrue b ↔ P → a ≡ b
one_truth P true true p q = refl
one_truth P true false p q = absurd (both_ways false refl (q.1 (p.0 refl)))
one_truth P false true p q = absurd (both_ways false refl (p.1 (q.0 refl)))
one_truth P false false p q = refl

module _ (s : ℕ) (x : List ℕ) where
  module _ (t : ProgramTree) where
    same_live : (h g : Head) (new other : ProgramTree) (e : IsExpanded t s x h new) (f : IsExpanded t s x g other) → e.live ≡ f.live
    same_live h g new other e f = one_truth (IsLiveAfter t s x) e.live f.live e.says f.says

    -- of one head the step makes one program
    one_new : (h g : Head) → h ≡ g → (new other : ProgramTree) → IsExpanded t s x h new → IsExpanded t s x g other → new ≡ other
    one_new h g head new other e f =
        let array = one_name e.array f.array (sym e.fresh ∙ f.fresh) in
        let span = one_span e.span f.span (sym e.spans ∙ ap (λ (d : Head). span_of (table_of t).constants d) head ∙ f.spans) in
        let live = same_live h g new other e f in
        e.made ∙ (λ i. expanded t s x (live i) (array i) (span i)) ∙ sym f.made

  -- the step makes one program, and keeps the same statements
  pub one_made : (t new other : ProgramTree) (keep more : List (ℕ × ℕ)) → MakesExpanded s x t new keep → MakesExpanded s x t other more → (new ≡ other) × (keep ≡ more)
  one_made t new other keep more (l, e, kept) (m, f, kept_too) =
      let same = one_loop t s l m in
      let live = same_live t l.head m.head new other e f in
      (one_new t l.head m.head same.0 new other e f, kept ∙ (λ i. expand_kept t s (same.1 i) (live i)) ∙ sym kept_too)

  module _ (t : ProgramTree) where
    abbrev constants : Values
    constants = (table_of t).constants

    abbrev pub near : Rules
    near = also AlreadyPrivate (WhereLoop t s (is_scalar_private_near t s x)) no_rules

    abbrev pub limit : Rules
    limit = also Limit (WhereArrayLimit t s x) near

    abbrev pub constant : Rules
    constant = also NotConstant (WhereLoop t s (isnt_constant constants)) limit

    abbrev pub unfit : Rules
    unfit = also NotScalar (WhereLoop t s (is_unfit t s x)) constant

    abbrev pub lost : Rules
    lost = also ExposedOrLive (WhereLost t s x) unfit

    abbrev pub range : Rules
    range = also Range (WhereLoop t s (has_far_value constants)) lost

    abbrev pub state : Rules
    state = also ParallelState (WhereLoop t s is_parallel) range

    abbrev pub stands : Rules
    stands = StandsAgainstExpanding s x t

    lost_by_one : (m n : ℕ) → IsLostBy t s x m → IsLostBy t s x n → m ≡ n
    lost_by_one m n (inl a) (inl b) = one_first (IsExposed t s x) m n a b
    lost_by_one m n (inl a) (inr b) = absurd (b.0 m a.0)
    lost_by_one m n (inr a) (inl b) = absurd (a.0 n b.0)
    lost_by_one m n (inr a) (inr b) = live_one t s x m n a.1 b.1

    lost_one : IsOne (WhereLost t s x)
    lost_one m n a b = lost_by_one m n a.1.1 b.1.1

    limit_one : IsOne (WhereArrayLimit t s x)
    limit_one m n a b = a.2 ∙ sym b.2

    pub near_chain : IsChain 15 near
    near_chain = chain_link AlreadyPrivate (WhereLoop t s (is_scalar_private_near t s x)) no_rules 15 (omega arith) (loop_one t s (is_scalar_private_near t s x)) (chain_end 17)

    pub limit_chain : IsChain 14 limit
    limit_chain = chain_link Limit (WhereArrayLimit t s x) near 14 (omega arith) limit_one near_chain

    pub constant_chain : IsChain 13 constant
    constant_chain = chain_link NotConstant (WhereLoop t s (isnt_constant constants)) limit 13 (omega arith) (loop_one t s (isnt_constant constants)) limit_chain

    pub unfit_chain : IsChain 12 unfit
    unfit_chain = chain_link NotScalar (WhereLoop t s (is_unfit t s x)) constant 12 (omega arith) (loop_one t s (is_unfit t s x)) constant_chain

    pub lost_chain : IsChain 9 lost
    lost_chain = chain_link ExposedOrLive (WhereLost t s x) unfit 9 (omega arith) lost_one unfit_chain

    pub range_chain : IsChain 3 range
    range_chain = chain_link Range (WhereLoop t s (has_far_value constants)) lost 3 (omega arith) (loop_one t s (has_far_value constants)) lost_chain

    pub state_chain : IsChain 1 state
    state_chain = chain_link ParallelState (WhereLoop t s is_parallel) range 1 (omega arith) (loop_one t s is_parallel) range_chain

    pub chain : IsChain 0 stands
    chain = chain_link NoLoop (WhereNoLoop t s) state 0 (omega arith) (no_loop_one t s) state_chain

    -- no limit is passed where the new program is valid
    pub no_limit : (l : LoopOf t s) (new : ProgramTree) → IsExpanded t s x l.head new → IsValid new → (n : ℕ) → WhereArrayLimit t s x n → ⊥
    no_limit l new made valid n (m, inl none, at) = no_name_is made.array (sym made.fresh ∙ none)
    no_limit l new made valid n (m, inr (other, again, invalid), at) = invalid (subst IsValid (one_new t l.head m.head (one_loop t s l m).0 new other made again) valid)

    -- nor where the name is there and a bound isn't constant
    pub no_limit_unknown : (l : LoopOf t s) → (array_name t ≡ None → ⊥) → span_of constants l.head ≡ None → (n : ℕ) → WhereArrayLimit t s x n → ⊥
    no_limit_unknown l named unknown n (m, inl none, at) = named none
    no_limit_unknown l named unknown n (m, inr (new, made, invalid), at) =
        no_span_is made.span (sym made.spans ∙ ap (λ (d : Head). span_of constants d) (one_loop t s m l).0 ∙ unknown)

    -- the statement is no DO
    pub no_loop_first : ((h : Head) (body : StmtTrees) → IsLoop t s h body → ⊥) → IsFirstRule stands NoLoop s
    no_loop_first none = first_here NoLoop (WhereNoLoop t s) state s ((λ l. none l.head l.body l.is), refl) state_chain

    module _ (h : Head) (body : StmtTrees) (is : IsLoop t s h body) where
      abbrev loop : LoopOf t s
      loop = record { head = h; body = body; is = is }

      fails : (test : Head → StmtTrees → Bool) → test h body ≡ false → (n : ℕ) → WhereLoop t s test n → ⊥
      fails = fails_there t s h body is

      not_no_loop : (n : ℕ) → WhereNoLoop t s n → ⊥
      not_no_loop n p = p.0 loop

      from_state : (q : Rule) (n : ℕ) → IsFirstRule state q n → IsFirstRule stands q n
      from_state = first_later NoLoop (WhereNoLoop t s) state not_no_loop

      pub state_first : h.parallel ≡ true → IsFirstRule stands ParallelState s
      state_first holds = from_state ParallelState s (first_here ParallelState (WhereLoop t s is_parallel) range s (loop, holds, refl) range_chain)

      module _ (serial : h.parallel ≡ false) where
        from_range : (q : Rule) (n : ℕ) → IsFirstRule range q n → IsFirstRule stands q n
        from_range q n first = from_state q n (first_later ParallelState (WhereLoop t s is_parallel) range (fails is_parallel serial) q n first)

        pub range_first : has_far_value constants h body ≡ true → IsFirstRule stands Range s
        range_first holds = from_range Range s (first_here Range (WhereLoop t s (has_far_value constants)) lost s (loop, holds, refl) lost_chain)

        module _ (literal : has_far_value constants h body ≡ false) where
          from_lost : (q : Rule) (n : ℕ) → IsFirstRule lost q n → IsFirstRule stands q n
          from_lost q n first = from_range q n (first_later Range (WhereLoop t s (has_far_value constants)) lost (fails (has_far_value constants) literal) q n first)

          pub lost_first : (n : ℕ) → IsScalarLostBy t s x n → IsFirstRule stands ExposedOrLive n
          lost_first n by = from_lost ExposedOrLive n (first_here ExposedOrLive (WhereLost t s x) unfit n (loop, by) unfit_chain)

          module _ (kept : (n : ℕ) → IsScalarLostBy t s x n → ⊥) where
            not_lost : (n : ℕ) → WhereLost t s x n → ⊥
            not_lost n p = kept n p.1

            from_unfit : (q : Rule) (n : ℕ) → IsFirstRule unfit q n → IsFirstRule stands q n
            from_unfit q n first = from_lost q n (first_later ExposedOrLive (WhereLost t s x) unfit not_lost q n first)

            pub unfit_first : is_unfit t s x h body ≡ true → IsFirstRule stands NotScalar s
            unfit_first holds = from_unfit NotScalar s (first_here NotScalar (WhereLoop t s (is_unfit t s x)) constant s (loop, holds, refl) constant_chain)

            module _ (fit : is_unfit t s x h body ≡ false) where
              from_constant : (q : Rule) (n : ℕ) → IsFirstRule constant q n → IsFirstRule stands q n
              from_constant q n first = from_unfit q n (first_later NotScalar (WhereLoop t s (is_unfit t s x)) constant (fails (is_unfit t s x) fit) q n first)

              pub constant_first : isnt_constant constants h body ≡ true → IsFirstRule stands NotConstant s
              constant_first holds = from_constant NotConstant s (first_here NotConstant (WhereLoop t s (isnt_constant constants)) limit s (loop, holds, refl) limit_chain)

              module _ (some : isnt_constant constants h body ≡ false) where
                from_limit : (q : Rule) (n : ℕ) → IsFirstRule limit q n → IsFirstRule stands q n
                from_limit q n first = from_constant q n (first_later NotConstant (WhereLoop t s (isnt_constant constants)) limit (fails (isnt_constant constants) some) q n first)

                pub name_first : array_name t ≡ None → IsFirstRule stands Limit s
                name_first none = from_limit Limit s (first_here Limit (WhereArrayLimit t s x) near s (loop, inl none, refl) near_chain)

                module _ (new : ProgramTree) (made : IsExpanded t s x h new) where
                  pub limit_first : (IsValid new → ⊥) → IsFirstRule stands Limit s
                  limit_first invalid = from_limit Limit s (first_here Limit (WhereArrayLimit t s x) near s (loop, inr (new, made, invalid), refl) near_chain)

                  module _ (valid : IsValid new) where
                    not_limit : (n : ℕ) → WhereArrayLimit t s x n → ⊥
                    not_limit = no_limit loop new made valid

                    pub private_first : is_private_near t s h body x ≡ true → IsFirstRule stands AlreadyPrivate s
                    private_first holds =
                        from_limit AlreadyPrivate s
                        (first_later Limit (WhereArrayLimit t s x) near not_limit AlreadyPrivate s
                        (first_here AlreadyPrivate (WhereLoop t s (is_scalar_private_near t s x)) no_rules s (loop, and_from (is_scalar t x) (is_private_near t s h body x) (fit_scalar t s h body x fit) holds, refl) (chain_end 17)))

                    pub nothing_stands : is_private_near t s h body x ≡ false → NoRule stands
                    nothing_stands shared =
                        none_later NoLoop (WhereNoLoop t s) state not_no_loop
                        (none_later ParallelState (WhereLoop t s is_parallel) range (fails is_parallel serial)
                        (none_later Range (WhereLoop t s (has_far_value constants)) lost (fails (has_far_value constants) literal)
                        (none_later ExposedOrLive (WhereLost t s x) unfit not_lost
                        (none_later NotScalar (WhereLoop t s (is_unfit t s x)) constant (fails (is_unfit t s x) fit)
                        (none_later NotConstant (WhereLoop t s (isnt_constant constants)) limit (fails (isnt_constant constants) some)
                        (none_later Limit (WhereArrayLimit t s x) near not_limit
                        (none_later AlreadyPrivate (WhereLoop t s (is_scalar_private_near t s x)) no_rules (fails (is_scalar_private_near t s x) (and_right (is_scalar t x) (is_private_near t s h body x) shared)) none_at_end)))))))

    -- where no rule stands
    module _ (none : NoRule stands) where
      none_but_loop : NoRule state
      none_but_loop = not_those NoLoop (WhereNoLoop t s) state none

      none_but_state : NoRule range
      none_but_state = not_those ParallelState (WhereLoop t s is_parallel) range none_but_loop

      none_but_range : NoRule lost
      none_but_range = not_those Range (WhereLoop t s (has_far_value constants)) lost none_but_state

      none_but_lost : NoRule unfit
      none_but_lost = not_those ExposedOrLive (WhereLost t s x) unfit none_but_range

      none_but_unfit : NoRule constant
      none_but_unfit = not_those NotScalar (WhereLoop t s (is_unfit t s x)) constant none_but_lost

      none_but_constant : NoRule limit
      none_but_constant = not_those NotConstant (WhereLoop t s (isnt_constant constants)) limit none_but_unfit

      none_but_limit : NoRule near
      none_but_limit = not_those Limit (WhereArrayLimit t s x) near none_but_constant

      pub its_loop : LoopOf t s
      its_loop = some_loop t s (not_this NoLoop (WhereNoLoop t s) state none)

      pub is_serial : (l : LoopOf t s) → l.head.parallel ≡ false
      is_serial l = false_from_ne_true l.head.parallel (λ holds. not_this ParallelState (WhereLoop t s is_parallel) range none_but_loop s (l, holds, refl))

      pub is_literal : (l : LoopOf t s) → has_far_value constants l.head l.body ≡ false
      is_literal l = false_from_ne_true (has_far_value constants l.head l.body) (λ holds. not_this Range (WhereLoop t s (has_far_value constants)) lost none_but_state s (l, holds, refl))

      pub is_kept : (n : ℕ) → IsScalarLostBy t s x n → ⊥
      is_kept n by = not_this ExposedOrLive (WhereLost t s x) unfit none_but_range n (its_loop, by)

      pub is_fit : (l : LoopOf t s) → is_unfit t s x l.head l.body ≡ false
      is_fit l = false_from_ne_true (is_unfit t s x l.head l.body) (λ holds. not_this NotScalar (WhereLoop t s (is_unfit t s x)) constant none_but_lost s (l, holds, refl))

      pub is_constant : (l : LoopOf t s) → isnt_constant constants l.head l.body ≡ false
      is_constant l = false_from_ne_true (isnt_constant constants l.head l.body) (λ holds. not_this NotConstant (WhereLoop t s (isnt_constant constants)) limit none_but_unfit s (l, holds, refl))

      pub has_name : array_name t ≡ None → ⊥
      has_name e = not_this Limit (WhereArrayLimit t s x) near none_but_constant s (its_loop, inl e, refl)

      pub is_valid : (l : LoopOf t s) (new : ProgramTree) → IsExpanded t s x l.head new → IsValid new
      is_valid l new made = by (valid_decided new)
        where
          by : IsValid new ⊎ (IsValid new → ⊥) → IsValid new
          by (inl valid) = valid
          by (inr invalid) = absurd (not_this Limit (WhereArrayLimit t s x) near none_but_constant s (l, inr (new, made, invalid), refl))

      pub is_unshared : (l : LoopOf t s) → is_private_near t s l.head l.body x ≡ false
      is_unshared l =
          false_from_ne_true (is_private_near t s l.head l.body x)
          (λ holds. not_this AlreadyPrivate (WhereLoop t s (is_scalar_private_near t s x)) no_rules none_but_limit s
          (l, and_from (is_scalar t x) (is_private_near t s l.head l.body x) (fit_scalar t s l.head l.body x (is_fit l)) holds, refl))

    -- a step that is refused by its first rule
    pub refused : (r : Rule) (n : ℕ) (found : Refused) → found ≡ variant.Rule r n → IsFirstRule stands r n → Answers (expanding s x) t (Err found)
    refused r n found is first = refused_by transformation s (StandsAgainstExpanding s x) (λ u. none_forbids) (MakesExpanded s x) t r n found is first

    -- a step that is accepted
    pub accepted : (l : LoopOf t s) (new : ProgramTree) (e : IsExpanded t s x l.head new) (change : Change) → NoRule stands → IsChange new (expand_kept t s l.body e.live) change → Answers (expanding s x) t (Ok change)
    accepted l new e change none made = accepted_by transformation s (StandsAgainstExpanding s x) (λ u. none_forbids) (MakesExpanded s x) t change new (expand_kept t s l.body e.live) none (none_first t) (l, e, refl) made
