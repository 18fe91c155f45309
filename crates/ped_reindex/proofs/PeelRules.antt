-- The rules that stand against `peel`, one behind the other; and what is so where none stands.
use Rattle.std.proofs.Common.{◌≡◌, ℕ, ℤ, List, Bool, true, false, Option, Some, None, refl, sym, ap, ◌∙◌, arith}
use Rattle.std.specs.Prelude.{is_none}
use Rattle.ped_tree.specs.Tree.{Head, StmtTrees, ProgramTree}
use Rattle.ped_rules.specs.ped_symbols.specs.Kinds.{table_of}
use Rattle.ped_rules.specs.ped_symbols.specs.NameRefusals.{IsValid}
use Rattle.ped_rules.specs.ped_eval.specs.Loops.{increment}
use Rattle.ped_rules.specs.ped_flow.specs.Questions.{IsLoop, LoopOf, IsContained}
use Rattle.ped_rules.specs.ped_flow.proofs.Answering.{same_head, same_body}
use Rattle.ped_rules.specs.ped_steps.specs.declared.rules.Rule.{Rule}
use Rattle.ped_rules.specs.ped_steps.specs.declared.rules.Rule.TheVariants.{NoLoop, ParallelState, HasPrivate, IndexEscapes, Range, NotConstant, Limit}
use Rattle.ped_rules.specs.ped_steps.specs.Causes.{Rules, NoRule, IsFirstRule}
use Rattle.ped_rules.specs.Chains.{no_rules, also, WhereLoop}
use Rattle.ped_rules.specs.Rules.{WhereNoLoop, is_parallel, has_private, WhereEscape, isnt_constant, WhereLimit}
use Rattle.ped_rules.specs.Spans.{Span, span_of}
use Rattle.ped_rules.proofs.Chains.{IsChain, chain_end, chain_link, first_here, first_later, none_later, not_this, not_those, none_at_end}
use Rattle.ped_rules.proofs.OneEach.{no_loop_one, loop_one, escape_one, limit_one}
use Rattle.ped_rules.proofs.Decided.{some_loop, limit_stands, limit_not, limit_valid}
use Rattle.ped_reindex.specs.Peeling.{Peeled, peeled_by, peeled_of, peels_far, peeled, peel_kept, MakesPeeled, StandsAgainstPeeling}
use Rattle.ped_rules.proofs.HeadLaws.Contained.{contained}
use Rattle.ped_reindex.proofs.Here.{fails_by, here, not_no_loop, fails_there, passes_there}

one_peeled : (p q : Peeled) → Some p ≡ Some q → p ≡ q
one_peeled p q e = cc

-- an iteration is found where the values are
pub none_peeled : (last : Bool) (step : ℤ) (o : Option Span) → is_none o ≡ is_none (peeled_by last step o)
none_peeled last step None = refl
none_peeled last step (Some v) = refl

pub some_there : (o : Option Peeled) → is_none o ≡ false → (p : Peeled) × (o ≡ Some p)
some_there None e = absurd cc
some_there (Some p) e = (p, refl)

module _ (s : ℕ) (last : Bool) where
  pub one_made : (t new other : ProgramTree) (keep more : List (ℕ × ℕ)) → MakesPeeled s last t new keep → MakesPeeled s last t other more → (new ≡ other) × (keep ≡ more)
  one_made t new other keep more p q =
      let heads = same_head t s p.0.head q.0.head p.0.body q.0.body p.0.is q.0.is in
      let bodies = same_body t s p.0.head q.0.head p.0.body q.0.body p.0.is q.0.is in
      let found = one_peeled p.1 q.1 (sym p.2 ∙ ap (peeled_of last (table_of t).constants) heads ∙ q.2) in
      (p.3 ∙ ap (peeled t s last) found ∙ sym q.3, p.4 ∙ ap (peel_kept t s last) bodies ∙ sym q.4)

  module _ (t : ProgramTree) where
    abbrev pub far : Head → StmtTrees → Bool
    far = peels_far last (table_of t).constants

    abbrev pub variable : Head → StmtTrees → Bool
    variable = isnt_constant (table_of t).constants

    abbrev pub limit : Rules
    limit = also Limit (WhereLimit (MakesPeeled s last) t s) no_rules

    abbrev pub constant : Rules
    constant = also NotConstant (WhereLoop t s variable) limit

    abbrev pub range : Rules
    range = also Range (WhereLoop t s far) constant

    abbrev pub escape : Rules
    escape = also IndexEscapes (WhereEscape t s) range

    abbrev pub shared : Rules
    shared = also HasPrivate (WhereLoop t s has_private) escape

    abbrev pub state : Rules
    state = also ParallelState (WhereLoop t s is_parallel) shared

    abbrev stands : Rules
    stands = StandsAgainstPeeling s last t

    pub limit_chain : IsChain 14 limit
    limit_chain = chain_link Limit (WhereLimit (MakesPeeled s last) t s) no_rules 14 (omega arith) (limit_one t s (MakesPeeled s last)) (chain_end 15)

    pub constant_chain : IsChain 9 constant
    constant_chain = chain_link NotConstant (WhereLoop t s variable) limit 9 (omega arith) (loop_one t s variable) limit_chain

    pub range_chain : IsChain 5 range
    range_chain = chain_link Range (WhereLoop t s far) constant 5 (omega arith) (loop_one t s far) constant_chain

    pub escape_chain : IsChain 4 escape
    escape_chain = chain_link IndexEscapes (WhereEscape t s) range 4 (omega arith) (escape_one t s) range_chain

    pub shared_chain : IsChain 3 shared
    shared_chain = chain_link HasPrivate (WhereLoop t s has_private) escape 3 (omega arith) (loop_one t s has_private) escape_chain

    pub state_chain : IsChain 1 state
    state_chain = chain_link ParallelState (WhereLoop t s is_parallel) shared 1 (omega arith) (loop_one t s is_parallel) shared_chain

    pub chain : IsChain 0 stands
    chain = chain_link NoLoop (WhereNoLoop t s) state 0 (omega arith) (no_loop_one t s) state_chain

    -- the statement is no DO
    pub no_loop_first : ((h : Head) (body : StmtTrees) → IsLoop t s h body → ⊥) → IsFirstRule stands NoLoop s
    no_loop_first none = first_here NoLoop (WhereNoLoop t s) state s ((λ l. none l.head l.body l.is), refl) state_chain

    module _ (h : Head) (body : StmtTrees) (is : IsLoop t s h body) where
      behind_loop : (r : Rule) (n : ℕ) → IsFirstRule state r n → IsFirstRule stands r n
      behind_loop r n first = first_later NoLoop (WhereNoLoop t s) state (not_no_loop t s h body is) r n first

      pub state_first : is_parallel h body ≡ true → IsFirstRule stands ParallelState s
      state_first holds = behind_loop ParallelState s (first_here ParallelState (WhereLoop t s is_parallel) shared s (passes_there t s h body is is_parallel holds) shared_chain)

      module _ (serial : is_parallel h body ≡ false) where
        behind_state : (r : Rule) (n : ℕ) → IsFirstRule shared r n → IsFirstRule stands r n
        behind_state r n first = behind_loop r n (first_later ParallelState (WhereLoop t s is_parallel) shared (fails_there t s h body is is_parallel serial) r n first)

        pub private_first : has_private h body ≡ true → IsFirstRule stands HasPrivate s
        private_first holds = behind_state HasPrivate s (first_here HasPrivate (WhereLoop t s has_private) escape s (passes_there t s h body is has_private holds) escape_chain)

        module _ (all_shared : has_private h body ≡ false) where
          behind_private : (r : Rule) (n : ℕ) → IsFirstRule escape r n → IsFirstRule stands r n
          behind_private r n first = behind_state r n (first_later HasPrivate (WhereLoop t s has_private) escape (fails_there t s h body is has_private all_shared) r n first)

          pub escape_first : (n : ℕ) → WhereEscape t s n → IsFirstRule stands IndexEscapes n
          escape_first n escapes = behind_private IndexEscapes n (first_here IndexEscapes (WhereEscape t s) range n escapes range_chain)

          module _ (none : (n : ℕ) → WhereEscape t s n → ⊥) where
            behind_escape : (r : Rule) (n : ℕ) → IsFirstRule range r n → IsFirstRule stands r n
            behind_escape r n first = behind_private r n (first_later IndexEscapes (WhereEscape t s) range none r n first)

            pub range_first : far h body ≡ true → IsFirstRule stands Range s
            range_first holds = behind_escape Range s (first_here Range (WhereLoop t s far) constant s (passes_there t s h body is far holds) constant_chain)

            module _ (near : far h body ≡ false) where
              behind_range : (r : Rule) (n : ℕ) → IsFirstRule constant r n → IsFirstRule stands r n
              behind_range r n first = behind_escape r n (first_later Range (WhereLoop t s far) constant (fails_there t s h body is far near) r n first)

              pub constant_first : variable h body ≡ true → IsFirstRule stands NotConstant s
              constant_first holds = behind_range NotConstant s (first_here NotConstant (WhereLoop t s variable) limit s (passes_there t s h body is variable holds) limit_chain)

              module _ (known : variable h body ≡ false) (p : Peeled) (found : peeled_of last (table_of t).constants h ≡ Some p) where
                made : MakesPeeled s last t (peeled t s last p) (peel_kept t s last body)
                made = (here t s h body is, p, found, refl, refl)

                pub limit_first : (IsValid (peeled t s last p) → ⊥) → IsFirstRule stands Limit s
                limit_first invalid =
                    behind_range Limit s
                    (first_later NotConstant (WhereLoop t s variable) limit (fails_there t s h body is variable known) Limit s
                    (first_here Limit (WhereLimit (MakesPeeled s last) t s) no_rules s (limit_stands (MakesPeeled s last) t s (here t s h body is) (one_made t) (peeled t s last p) (peel_kept t s last body) made invalid) (chain_end 15)))

                pub nothing_stands : IsValid (peeled t s last p) → NoRule stands
                nothing_stands valid =
                    none_later NoLoop (WhereNoLoop t s) state (not_no_loop t s h body is)
                    (none_later ParallelState (WhereLoop t s is_parallel) shared (fails_there t s h body is is_parallel serial)
                    (none_later HasPrivate (WhereLoop t s has_private) escape (fails_there t s h body is has_private all_shared)
                    (none_later IndexEscapes (WhereEscape t s) range none
                    (none_later Range (WhereLoop t s far) constant (fails_there t s h body is far near)
                    (none_later NotConstant (WhereLoop t s variable) limit (fails_there t s h body is variable known)
                    (none_later Limit (WhereLimit (MakesPeeled s last) t s) no_rules (limit_not (MakesPeeled s last) t s (peeled t s last p) (peel_kept t s last body) made valid) none_at_end))))))

    -- where no rule stands
    module _ (none : NoRule stands) where
      none_but_loop : NoRule state
      none_but_loop = not_those NoLoop (WhereNoLoop t s) state none

      none_but_state : NoRule shared
      none_but_state = not_those ParallelState (WhereLoop t s is_parallel) shared none_but_loop

      none_but_private : NoRule escape
      none_but_private = not_those HasPrivate (WhereLoop t s has_private) escape none_but_state

      none_but_escape : NoRule range
      none_but_escape = not_those IndexEscapes (WhereEscape t s) range none_but_private

      none_but_range : NoRule constant
      none_but_range = not_those Range (WhereLoop t s far) constant none_but_escape

      none_but_constant : NoRule limit
      none_but_constant = not_those NotConstant (WhereLoop t s variable) limit none_but_range

      pub its_loop : LoopOf t s
      its_loop = some_loop t s (not_this NoLoop (WhereNoLoop t s) state none)

      pub is_serial : (l : LoopOf t s) → is_parallel l.head l.body ≡ false
      is_serial = fails_by t s is_parallel (not_this ParallelState (WhereLoop t s is_parallel) shared none_but_loop)

      pub is_shared : (l : LoopOf t s) → has_private l.head l.body ≡ false
      is_shared = fails_by t s has_private (not_this HasPrivate (WhereLoop t s has_private) escape none_but_state)

      pub is_near : (l : LoopOf t s) → far l.head l.body ≡ false
      is_near = fails_by t s far (not_this Range (WhereLoop t s far) constant none_but_escape)

      pub is_known : (l : LoopOf t s) → variable l.head l.body ≡ false
      is_known = fails_by t s variable (not_this NotConstant (WhereLoop t s variable) limit none_but_range)

      -- there is an iteration to take out
      pub its_iteration : (l : LoopOf t s) → (p : Peeled) × (peeled_of last (table_of t).constants l.head ≡ Some p)
      its_iteration l =
          some_there (peeled_of last (table_of t).constants l.head)
          (sym (none_peeled last (increment (table_of t).constants l.head) (span_of (table_of t).constants l.head)) ∙ is_known l)

      pub is_valid : (l : LoopOf t s) (p : Peeled) → peeled_of last (table_of t).constants l.head ≡ Some p → IsValid (peeled t s last p)
      is_valid l p found = limit_valid (MakesPeeled s last) t s its_loop (one_made t) (not_this Limit (WhereLimit (MakesPeeled s last) t s) no_rules none_but_constant) (peeled t s last p) (peel_kept t s last l.body) (l, p, found, refl, refl)

      pub is_contained : IsContained t s
      is_contained = contained t s its_loop (not_this IndexEscapes (WhereEscape t s) range none_but_private)
