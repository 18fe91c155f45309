-- The rules that stand against `privatise`, one behind the other; what is so where none stands; and what the code answers.
use Rattle.std.proofs.Common.{◌≡◌, ℕ, List, Bool, true, false, inl, inr, Ok, Err, refl, sym, ◌∙◌, arith}
use Rattle.std.proofs.lemmas.Bool.{and_from, and_right, not_from_true, not_from_false, false_from_ne_true}
use Rattle.ped_base.specs.Lists.{is_among}
use Rattle.ped_tree.specs.Tree.{Head, StmtTrees, ProgramTree}
use Rattle.ped_rules.specs.ped_symbols.specs.NameRefusals.{IsValid}
use Rattle.ped_rules.specs.ped_flow.specs.Questions.{IsLoop, LoopOf, IsExposed, IsReadBehind}
use Rattle.ped_rules.specs.ped_steps.specs.declared.rules.Rule.{Rule}
use Rattle.ped_rules.specs.ped_steps.specs.declared.rules.Rule.TheVariants.{NoLoop, ParallelState, ExposedOrLive, NotScalar, Limit, AlreadyPrivate}
use Rattle.ped_rules.specs.ped_steps.specs.declared.causes.Refused.{Refused}
use Rattle.ped_rules.specs.ped_steps.specs.declared.causes.Refused.TheVariants as variant
use Rattle.ped_rules.specs.ped_steps.specs.declared.changes.Change.{Change}
use Rattle.ped_rules.specs.ped_steps.specs.Changes.{IsChange}
use Rattle.ped_rules.specs.ped_steps.specs.Replacing.{all_kept}
use Rattle.ped_rules.specs.ped_steps.specs.Causes.{Rules, NoRule, IsFirstRule, none_forbids}
use Rattle.ped_rules.specs.Steps.{transformation, Answers}
use Rattle.ped_rules.specs.Chains.{no_rules, also, WhereLoop}
use Rattle.ped_rules.specs.Rules.{WhereNoLoop}
use Rattle.ped_rules.proofs.Answering.{refused_by, accepted_by, none_first}
use Rattle.ped_rules.proofs.Chains.{IsOne, IsChain, chain_end, chain_link, first_here, first_later, none_later, not_this, not_those, none_at_end}
use Rattle.ped_rules.proofs.Decided.{some_loop, limit_stands, limit_not, limit_valid}
use Rattle.ped_rules.proofs.OneLoop.{fails_there}
use Rattle.ped_rules.proofs.OneEach.{one_first, no_loop_one, loop_one}
use Rattle.ped_rules.specs.Scalars.{is_scalar, is_unfit, IsLiveBy}
use Rattle.ped_scalar.specs.Privatising.{privatised, IsExposedOrLiveBy, IsScalarExposedOrLiveBy, WhereExposedOrLive, isnt_listed, MakesPrivatised, WhereUnlistedLimit, is_scalar_listed, StandsAgainstPrivatising, privatising}
use Rattle.ped_rules.specs.Scalars.{is_in_parallel}
use Rattle.ped_scalar.proofs.FlowAnswers.{fit_scalar}

-- a scalar is live by one statement
pub live_one : (t : ProgramTree) (s : ℕ) (x : List ℕ) (m n : ℕ) → IsLiveBy t s x m → IsLiveBy t s x n → m ≡ n
live_one t s x m n (inl c) (inl d) = one_first (IsReadBehind t s x) m n c d
live_one t s x m n (inl c) (inr d) = absurd (d.0 m c.0)
live_one t s x m n (inr c) (inl d) = absurd (c.0 n d.0)
live_one t s x m n (inr c) (inr d) = c.2 ∙ sym d.2

module _ (s : ℕ) (x : List ℕ) where
  -- the step makes one program
  pub one_made : (t new other : ProgramTree) (keep more : List (ℕ × ℕ)) → MakesPrivatised s x t new keep → MakesPrivatised s x t other more → (new ≡ other) × (keep ≡ more)
  one_made t new other keep more p q = (p.0 ∙ sym q.0, p.1 ∙ sym q.1)

  module _ (t : ProgramTree) where
    abbrev pub listed : Rules
    listed = also AlreadyPrivate (WhereLoop t s (is_scalar_listed t x)) no_rules

    abbrev pub limit : Rules
    limit = also Limit (WhereUnlistedLimit t s x) listed

    abbrev pub unfit : Rules
    unfit = also NotScalar (WhereLoop t s (is_unfit t s x)) limit

    abbrev pub exposed : Rules
    exposed = also ExposedOrLive (WhereExposedOrLive t s x) unfit

    abbrev pub state : Rules
    state = also ParallelState (WhereLoop t s (is_in_parallel t s)) exposed

    abbrev pub stands : Rules
    stands = StandsAgainstPrivatising s x t

    exposed_by_one : (m n : ℕ) → IsExposedOrLiveBy t s x m → IsExposedOrLiveBy t s x n → m ≡ n
    exposed_by_one m n (inl a) (inl b) = one_first (IsExposed t s x) m n a b
    exposed_by_one m n (inl a) (inr b) = absurd (b.0 m a.0)
    exposed_by_one m n (inr a) (inl b) = absurd (a.0 n b.0)
    exposed_by_one m n (inr a) (inr b) = live_one t s x m n a.1 b.1

    exposed_one : IsOne (WhereExposedOrLive t s x)
    exposed_one m n a b = exposed_by_one m n a.1.1 b.1.1

    limit_one : IsOne (WhereUnlistedLimit t s x)
    limit_one m n a b = loop_one t s (isnt_listed x) m n a.0 b.0

    pub listed_chain : IsChain 15 listed
    listed_chain = chain_link AlreadyPrivate (WhereLoop t s (is_scalar_listed t x)) no_rules 15 (omega arith) (loop_one t s (is_scalar_listed t x)) (chain_end 17)

    pub limit_chain : IsChain 13 limit
    limit_chain = chain_link Limit (WhereUnlistedLimit t s x) listed 13 (omega arith) limit_one listed_chain

    pub unfit_chain : IsChain 12 unfit
    unfit_chain = chain_link NotScalar (WhereLoop t s (is_unfit t s x)) limit 12 (omega arith) (loop_one t s (is_unfit t s x)) limit_chain

    pub exposed_chain : IsChain 3 exposed
    exposed_chain = chain_link ExposedOrLive (WhereExposedOrLive t s x) unfit 3 (omega arith) exposed_one unfit_chain

    pub state_chain : IsChain 1 state
    state_chain = chain_link ParallelState (WhereLoop t s (is_in_parallel t s)) exposed 1 (omega arith) (loop_one t s (is_in_parallel t s)) exposed_chain

    pub chain : IsChain 0 stands
    chain = chain_link NoLoop (WhereNoLoop t s) state 0 (omega arith) (no_loop_one t s) state_chain

    -- the statement is no DO
    pub no_loop_first : ((h : Head) (body : StmtTrees) → IsLoop t s h body → ⊥) → IsFirstRule stands NoLoop s
    no_loop_first none = first_here NoLoop (WhereNoLoop t s) state s ((λ l. none l.head l.body l.is), refl) state_chain

    module _ (h : Head) (body : StmtTrees) (is : IsLoop t s h body) where
      abbrev loop : LoopOf t s
      loop = record { head = h; body = body; is = is }

      fails : (test : Head → StmtTrees → Bool) → test h body ≡ false → (n : ℕ) → WhereLoop t s test n → ⊥
      fails = fails_there t s h body is

      not_no_loop : (n : ℕ) → WhereNoLoop t s n → ⊥
      not_no_loop n p = p.0 loop

      from_state : (q : Rule) (n : ℕ) → IsFirstRule state q n → IsFirstRule stands q n
      from_state = first_later NoLoop (WhereNoLoop t s) state not_no_loop

      pub state_first : is_in_parallel t s h body ≡ true → IsFirstRule stands ParallelState s
      state_first holds = from_state ParallelState s (first_here ParallelState (WhereLoop t s (is_in_parallel t s)) exposed s (loop, holds, refl) exposed_chain)

      module _ (apart : is_in_parallel t s h body ≡ false) where
        from_exposed : (q : Rule) (n : ℕ) → IsFirstRule exposed q n → IsFirstRule stands q n
        from_exposed q n first = from_state q n (first_later ParallelState (WhereLoop t s (is_in_parallel t s)) exposed (fails (is_in_parallel t s) apart) q n first)

        pub exposed_first : (n : ℕ) → IsScalarExposedOrLiveBy t s x n → IsFirstRule stands ExposedOrLive n
        exposed_first n by = from_exposed ExposedOrLive n (first_here ExposedOrLive (WhereExposedOrLive t s x) unfit n (loop, by) unfit_chain)

        module _ (spared : (n : ℕ) → IsScalarExposedOrLiveBy t s x n → ⊥) where
          not_exposed : (n : ℕ) → WhereExposedOrLive t s x n → ⊥
          not_exposed n p = spared n p.1

          from_unfit : (q : Rule) (n : ℕ) → IsFirstRule unfit q n → IsFirstRule stands q n
          from_unfit q n first = from_exposed q n (first_later ExposedOrLive (WhereExposedOrLive t s x) unfit not_exposed q n first)

          pub unfit_first : is_unfit t s x h body ≡ true → IsFirstRule stands NotScalar s
          unfit_first holds = from_unfit NotScalar s (first_here NotScalar (WhereLoop t s (is_unfit t s x)) limit s (loop, holds, refl) limit_chain)

          module _ (fit : is_unfit t s x h body ≡ false) where
            from_limit : (q : Rule) (n : ℕ) → IsFirstRule limit q n → IsFirstRule stands q n
            from_limit q n first = from_unfit q n (first_later NotScalar (WhereLoop t s (is_unfit t s x)) limit (fails (is_unfit t s x) fit) q n first)

            pub listed_first : is_among x h.private ≡ true → IsFirstRule stands AlreadyPrivate s
            listed_first holds =
                from_limit AlreadyPrivate s
                (first_later Limit (WhereUnlistedLimit t s x) listed (λ n p. fails (isnt_listed x) (not_from_true (is_among x h.private) holds) n p.0) AlreadyPrivate s
                (first_here AlreadyPrivate (WhereLoop t s (is_scalar_listed t x)) no_rules s (loop, and_from (is_scalar t x) (is_among x h.private) (fit_scalar t s h body x fit) holds, refl) (chain_end 17)))

            module _ (unlisted : is_among x h.private ≡ false) where
              pub limit_first : (IsValid (privatised t s x) → ⊥) → IsFirstRule stands Limit s
              limit_first invalid =
                  from_limit Limit s
                  (first_here Limit (WhereUnlistedLimit t s x) listed s
                  ((loop, not_from_false (is_among x h.private) unlisted, refl), limit_stands (MakesPrivatised s x) t s loop (one_made t) (privatised t s x) (all_kept t) (refl, refl) invalid) listed_chain)

              pub nothing_stands : IsValid (privatised t s x) → NoRule stands
              nothing_stands valid =
                  none_later NoLoop (WhereNoLoop t s) state not_no_loop
                  (none_later ParallelState (WhereLoop t s (is_in_parallel t s)) exposed (fails (is_in_parallel t s) apart)
                  (none_later ExposedOrLive (WhereExposedOrLive t s x) unfit not_exposed
                  (none_later NotScalar (WhereLoop t s (is_unfit t s x)) limit (fails (is_unfit t s x) fit)
                  (none_later Limit (WhereUnlistedLimit t s x) listed (λ n p. limit_not (MakesPrivatised s x) t s (privatised t s x) (all_kept t) (refl, refl) valid n p.1)
                  (none_later AlreadyPrivate (WhereLoop t s (is_scalar_listed t x)) no_rules (fails (is_scalar_listed t x) (and_right (is_scalar t x) (is_among x h.private) unlisted)) none_at_end)))))

    -- where no rule stands
    module _ (none : NoRule stands) where
      none_but_loop : NoRule state
      none_but_loop = not_those NoLoop (WhereNoLoop t s) state none

      none_but_state : NoRule exposed
      none_but_state = not_those ParallelState (WhereLoop t s (is_in_parallel t s)) exposed none_but_loop

      none_but_exposed : NoRule unfit
      none_but_exposed = not_those ExposedOrLive (WhereExposedOrLive t s x) unfit none_but_state

      none_but_unfit : NoRule limit
      none_but_unfit = not_those NotScalar (WhereLoop t s (is_unfit t s x)) limit none_but_exposed

      none_but_limit : NoRule listed
      none_but_limit = not_those Limit (WhereUnlistedLimit t s x) listed none_but_unfit

      pub its_loop : LoopOf t s
      its_loop = some_loop t s (not_this NoLoop (WhereNoLoop t s) state none)

      pub is_apart : (l : LoopOf t s) → is_in_parallel t s l.head l.body ≡ false
      is_apart l = false_from_ne_true (is_in_parallel t s l.head l.body) (λ holds. not_this ParallelState (WhereLoop t s (is_in_parallel t s)) exposed none_but_loop s (l, holds, refl))

      pub is_spared : (n : ℕ) → IsScalarExposedOrLiveBy t s x n → ⊥
      is_spared n by = not_this ExposedOrLive (WhereExposedOrLive t s x) unfit none_but_state n (its_loop, by)

      pub is_fit : (l : LoopOf t s) → is_unfit t s x l.head l.body ≡ false
      is_fit l = false_from_ne_true (is_unfit t s x l.head l.body) (λ holds. not_this NotScalar (WhereLoop t s (is_unfit t s x)) limit none_but_exposed s (l, holds, refl))

      pub is_unlisted : (l : LoopOf t s) → is_among x l.head.private ≡ false
      is_unlisted l =
          false_from_ne_true (is_among x l.head.private)
          (λ holds. not_this AlreadyPrivate (WhereLoop t s (is_scalar_listed t x)) no_rules none_but_limit s
          (l, and_from (is_scalar t x) (is_among x l.head.private) (fit_scalar t s l.head l.body x (is_fit l)) holds, refl))

      pub is_valid : IsValid (privatised t s x)
      is_valid =
          limit_valid (MakesPrivatised s x) t s its_loop (one_made t)
          (λ n h. not_this Limit (WhereUnlistedLimit t s x) listed none_but_unfit n ((its_loop, not_from_false (is_among x its_loop.head.private) (is_unlisted its_loop), h.2), h))
          (privatised t s x) (all_kept t) (refl, refl)

    -- a step that is refused by its first rule
    pub refused : (r : Rule) (n : ℕ) (found : Refused) → found ≡ variant.Rule r n → IsFirstRule stands r n → Answers (privatising s x) t (Err found)
    refused r n found is first = refused_by transformation s (StandsAgainstPrivatising s x) (λ u. none_forbids) (MakesPrivatised s x) t r n found is first

    -- a step that is accepted
    pub accepted : (change : Change) → NoRule stands → IsChange (privatised t s x) (all_kept t) change → Answers (privatising s x) t (Ok change)
    accepted change none made = accepted_by transformation s (StandsAgainstPrivatising s x) (λ u. none_forbids) (MakesPrivatised s x) t change (privatised t s x) (all_kept t) none (none_first t) (refl, refl) made
