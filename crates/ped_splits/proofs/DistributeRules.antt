-- The rules that stand against `distribute`, one behind the other; and what is so where none stands.
use Rattle.std.proofs.Common.{◌≡◌, ◌⊎◌, ℕ, ◌<◌, ◌≤◌, List, length, Bool, true, false, inl, inr, refl, sym, ap, ◌∙◌, subst, arith}
use Rattle.std.proofs.lemmas.Bool.{cases_lt}
use Rattle.ped_tree.specs.Tree.{ExprTree, Head, StmtTrees, ProgramTree}
use Rattle.ped_rules.specs.Rules.{IsBoundOf}
use Rattle.ped_rules.specs.ped_symbols.specs.Kinds.{table_of}
use Rattle.ped_rules.specs.ped_symbols.specs.NameRefusals.{IsValid}
use Rattle.ped_rules.specs.ped_flow.specs.PlainBounds.{IsPlain}
use Rattle.ped_rules.specs.ped_flow.specs.Questions.{IsLoop, LoopOf, IsContained}
use Rattle.ped_rules.specs.ped_flow.proofs.Answering.{same_head, same_body}
use Rattle.ped_rules.specs.ped_steps.specs.declared.rules.Rule.{Rule}
use Rattle.ped_rules.specs.ped_steps.specs.declared.rules.Rule.TheVariants.{NoLoop, ParallelState, IndexEscapes, BoundNotPlain, OneBlock, Limit}
use Rattle.ped_rules.specs.ped_steps.specs.Causes.{Rules, NoRule, IsFirstRule}
use Rattle.ped_rules.specs.Chains.{no_rules, also, WhereLoop}
use Rattle.ped_rules.specs.Rules.{WhereNoLoop, is_parallel, WhereEscape, WhereUnplain, WhereLimit}
use Rattle.ped_rules.proofs.Chains.{IsChain, IsOne, chain_end, chain_link, first_here, first_later, none_later, not_this, not_those, none_at_end}
use Rattle.ped_rules.proofs.OneEach.{no_loop_one, loop_one, escape_one, unplain_one, limit_one}
use Rattle.ped_rules.proofs.Decided.{some_loop, limit_stands, limit_not, limit_valid}
use Rattle.ped_splits.proofs.Contained.{contained}
use Rattle.ped_splits.proofs.Here.{here, not_no_loop, fails_by, fails_there, passes_there}
use Rattle.ped_splits.specs.PiBlocks.{ArePiBlocks}
use Rattle.ped_splits.specs.Distributing.{distributed, sources, kept_from, MakesDistributed, IsItsBound, WhereOnePiBlock, StandsAgainstDistribution}
use Rattle.ped_splits.proofs.OnePiBlocks.{one_found}

module _ (s : ℕ) where
  -- the statements that the step keeps
  abbrev pub kept : ProgramTree → StmtTrees → List (List ℕ) → List (ℕ × ℕ)
  kept t body found = kept_from 1 (sources t s body found)

  pub one_made : (t new other : ProgramTree) (keep more : List (ℕ × ℕ)) → MakesDistributed s t new keep → MakesDistributed s t other more → (new ≡ other) × (keep ≡ more)
  one_made t new other keep more p q =
      let same = one_found t s p.0 q.0 p.1 q.1 p.2 q.2 in (
        p.3 ∙ ap (distributed t s) same ∙ sym q.3,
        p.4 ∙ (λ i. kept t (same_body t s p.0.head q.0.head p.0.body q.0.body p.0.is q.0.is i) (same i)) ∙ sym q.4,
      )

  module _ (t : ProgramTree) where
    abbrev pub Limited : ℕ → Type 0
    Limited = WhereLimit (MakesDistributed s) t s

    abbrev pub limit : Rules
    limit = also Limit Limited no_rules

    abbrev pub single : Rules
    single = also OneBlock (WhereOnePiBlock t s) limit

    abbrev pub plain : Rules
    plain = also BoundNotPlain (WhereUnplain t s (IsItsBound t s)) single

    abbrev pub escape : Rules
    escape = also IndexEscapes (WhereEscape t s) plain

    abbrev pub state : Rules
    state = also ParallelState (WhereLoop t s is_parallel) escape

    abbrev stands : Rules
    stands = StandsAgainstDistribution s t

    single_one : IsOne (WhereOnePiBlock t s)
    single_one m n a b = a.4 ∙ sym b.4

    pub limit_chain : IsChain 11 limit
    limit_chain = chain_link Limit Limited no_rules 11 (omega arith) (limit_one t s (MakesDistributed s)) (chain_end 15)

    pub single_chain : IsChain 6 single
    single_chain = chain_link OneBlock (WhereOnePiBlock t s) limit 6 (omega arith) single_one limit_chain

    pub plain_chain : IsChain 5 plain
    plain_chain = chain_link BoundNotPlain (WhereUnplain t s (IsItsBound t s)) single 5 (omega arith) (unplain_one t s (IsItsBound t s)) single_chain

    pub escape_chain : IsChain 3 escape
    escape_chain = chain_link IndexEscapes (WhereEscape t s) plain 3 (omega arith) (escape_one t s) plain_chain

    pub state_chain : IsChain 1 state
    state_chain = chain_link ParallelState (WhereLoop t s is_parallel) escape 1 (omega arith) (loop_one t s is_parallel) escape_chain

    pub chain : IsChain 0 stands
    chain = chain_link NoLoop (WhereNoLoop t s) state 0 (omega arith) (no_loop_one t s) state_chain

    -- the statement is no DO
    pub no_loop_first : ((h : Head) (body : StmtTrees) → IsLoop t s h body → ⊥) → IsFirstRule stands NoLoop s
    no_loop_first none = first_here NoLoop (WhereNoLoop t s) state s ((λ l. none l.head l.body l.is), refl) state_chain

    module _ (h : Head) (body : StmtTrees) (is : IsLoop t s h body) where
      behind_loop : (r : Rule) (n : ℕ) → IsFirstRule state r n → IsFirstRule stands r n
      behind_loop r n first = first_later NoLoop (WhereNoLoop t s) state (not_no_loop t s h body is) r n first

      pub state_first : is_parallel h body ≡ true → IsFirstRule stands ParallelState s
      state_first holds = behind_loop ParallelState s (first_here ParallelState (WhereLoop t s is_parallel) escape s (passes_there t s h body is is_parallel holds) escape_chain)

      -- a bound isn't plain
      pub unplain_there : (e : ExprTree) → IsBoundOf h e → (IsPlain (table_of t).constants t s e → ⊥) → WhereUnplain t s (IsItsBound t s) s
      unplain_there e bound not_plain = (here t s h body is, ((e, (refl, here t s h body is, bound), not_plain), λ n p. let at : n ≡ s = p.1.0 in omega (arith, at)))

      module _ (first : IsPlain (table_of t).constants t s h.first) (last : IsPlain (table_of t).constants t s h.last) where
        pub no_unplain : (n : ℕ) → WhereUnplain t s (IsItsBound t s) n → ⊥
        no_unplain n p = p.1.0.2 (subst (λ (m : ℕ). IsPlain (table_of t).constants t m p.1.0.0) (sym p.1.0.1.0) (is_plain p.1.0.0 (subst (λ (g : Head). IsBoundOf g p.1.0.0) (same_head t s p.1.0.1.1.head h p.1.0.1.1.body body p.1.0.1.1.is is) p.1.0.1.2)))
          where
            is_plain : (e : ExprTree) → IsBoundOf h e → IsPlain (table_of t).constants t s e
            is_plain e (inl same) = subst (λ (a : ExprTree). IsPlain (table_of t).constants t s a) (sym same) first
            is_plain e (inr same) = subst (λ (a : ExprTree). IsPlain (table_of t).constants t s a) (sym same) last

      module _ (serial : is_parallel h body ≡ false) where
        behind_state : (r : Rule) (n : ℕ) → IsFirstRule escape r n → IsFirstRule stands r n
        behind_state r n first = behind_loop r n (first_later ParallelState (WhereLoop t s is_parallel) escape (fails_there t s h body is is_parallel serial) r n first)

        pub escape_first : (n : ℕ) → WhereEscape t s n → IsFirstRule stands IndexEscapes n
        escape_first n escapes = behind_state IndexEscapes n (first_here IndexEscapes (WhereEscape t s) plain n escapes plain_chain)

        module _ (none : (n : ℕ) → WhereEscape t s n → ⊥) where
          behind_escape : (r : Rule) (n : ℕ) → IsFirstRule plain r n → IsFirstRule stands r n
          behind_escape r n first = behind_state r n (first_later IndexEscapes (WhereEscape t s) plain none r n first)

          pub plain_first : (e : ExprTree) → IsBoundOf h e → (IsPlain (table_of t).constants t s e → ⊥) → IsFirstRule stands BoundNotPlain s
          plain_first e bound not_plain = behind_escape BoundNotPlain s (first_here BoundNotPlain (WhereUnplain t s (IsItsBound t s)) single s (unplain_there e bound not_plain) single_chain)

          module _ (first : IsPlain (table_of t).constants t s h.first) (last : IsPlain (table_of t).constants t s h.last) where
            behind_plain : (r : Rule) (n : ℕ) → IsFirstRule single r n → IsFirstRule stands r n
            behind_plain r n found = behind_escape r n (first_later BoundNotPlain (WhereUnplain t s (IsItsBound t s)) single (no_unplain first last) r n found)

            module _ (found : List (List ℕ)) (are : ArePiBlocks t s h body found) where
              pub single_first : length found < 2 → IsFirstRule stands OneBlock s
              single_first few = behind_plain OneBlock s (first_here OneBlock (WhereOnePiBlock t s) limit s (here t s h body is, found, are, few, refl) limit_chain)

              module _ (many : 2 ≤ length found) where
                no_single : (n : ℕ) → WhereOnePiBlock t s n → ⊥
                no_single n p =
                    let same : p.1 ≡ found = one_found t s p.0 (here t s h body is) p.1 found p.2 are in
                    let few : length found < 2 = subst (λ (bs : List (List ℕ)). length bs < 2) same p.3 in
                    absurd (omega (arith, few, many))

                makes : MakesDistributed s t (distributed t s found) (kept t body found)
                makes = (here t s h body is, found, are, refl, refl)

                pub limit_first : (IsValid (distributed t s found) → ⊥) → IsFirstRule stands Limit s
                limit_first invalid =
                    behind_plain Limit s
                    (first_later OneBlock (WhereOnePiBlock t s) limit no_single Limit s
                    (first_here Limit Limited no_rules s (limit_stands (MakesDistributed s) t s (here t s h body is) (one_made t) (distributed t s found) (kept t body found) makes invalid) (chain_end 15)))

                pub nothing_stands : IsValid (distributed t s found) → NoRule stands
                nothing_stands valid =
                    none_later NoLoop (WhereNoLoop t s) state (not_no_loop t s h body is)
                    (none_later ParallelState (WhereLoop t s is_parallel) escape (fails_there t s h body is is_parallel serial)
                    (none_later IndexEscapes (WhereEscape t s) plain none
                    (none_later BoundNotPlain (WhereUnplain t s (IsItsBound t s)) single (no_unplain first last)
                    (none_later OneBlock (WhereOnePiBlock t s) limit no_single
                    (none_later Limit Limited no_rules (limit_not (MakesDistributed s) t s (distributed t s found) (kept t body found) makes valid) none_at_end)))))

    -- where no rule stands
    module _ (none : NoRule stands) where
      none_but_loop : NoRule state
      none_but_loop = not_those NoLoop (WhereNoLoop t s) state none

      none_but_state : NoRule escape
      none_but_state = not_those ParallelState (WhereLoop t s is_parallel) escape none_but_loop

      none_but_escape : NoRule plain
      none_but_escape = not_those IndexEscapes (WhereEscape t s) plain none_but_state

      none_but_plain : NoRule single
      none_but_plain = not_those BoundNotPlain (WhereUnplain t s (IsItsBound t s)) single none_but_escape

      none_but_single : NoRule limit
      none_but_single = not_those OneBlock (WhereOnePiBlock t s) limit none_but_plain

      pub its_loop : LoopOf t s
      its_loop = some_loop t s (not_this NoLoop (WhereNoLoop t s) state none)

      -- the program that the step makes with these blocks is valid
      pub is_valid : (l : LoopOf t s) (found : List (List ℕ)) → ArePiBlocks t s l.head l.body found → IsValid (distributed t s found)
      is_valid l found are =
          limit_valid (MakesDistributed s) t s l (one_made t) (not_this Limit Limited no_rules none_but_single) (distributed t s found) (kept t l.body found) (l, found, are, refl, refl)

      -- the blocks are two at least
      pub are_many : (l : LoopOf t s) (found : List (List ℕ)) → ArePiBlocks t s l.head l.body found → 2 ≤ length found
      are_many l found are = elim (cases_lt (length found) 2) [
        | inl few ↦ absurd (not_this OneBlock (WhereOnePiBlock t s) limit none_but_plain s (l, found, are, few, refl))
        | inr many ↦ many
      ]

      -- it is no PARALLEL DO, and no variable of it is read outside its DO
      pub is_serial : (l : LoopOf t s) → is_parallel l.head l.body ≡ false
      is_serial = fails_by t s is_parallel (not_this ParallelState (WhereLoop t s is_parallel) escape none_but_loop)

      pub is_contained : IsContained t s
      is_contained = contained t s its_loop (not_this IndexEscapes (WhereEscape t s) plain none_but_state)
