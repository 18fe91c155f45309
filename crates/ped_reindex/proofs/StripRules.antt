-- The rules that stand against `strip`, one behind the other; and what is so where none stands.
use Rattle.std.proofs.Common.{◌≡◌, ℕ, ℤ, List, Bool, true, false, Option, Some, None, refl, sym, ap, ◌∙◌, subst, arith, [], ◌∷◌, ◌++◌}
use Rattle.ped_tree.specs.Tree.{ExprTree, Head, StmtTrees, ProgramTree}
use Rattle.ped_rules.specs.ped_symbols.specs.Kinds.{table_of}
use Rattle.ped_rules.specs.ped_symbols.specs.NameRefusals.{IsValid}
use Rattle.ped_rules.specs.ped_flow.specs.PlainBounds.{IsPlain}
use Rattle.ped_rules.specs.ped_flow.specs.Questions.{IsLoop, LoopOf, IsContained}
use Rattle.ped_rules.specs.ped_flow.proofs.Answering.{same_head}
use Rattle.ped_rules.specs.ped_steps.specs.declared.rules.Rule.{Rule}
use Rattle.ped_rules.specs.ped_steps.specs.declared.rules.Rule.TheVariants.{NoLoop, ParallelState, HasPrivate, IndexEscapes, BoundNotPlain, StepShape, Range, Limit, BadFactor}
use Rattle.ped_rules.specs.ped_steps.specs.Causes.{Rules, NoRule, IsFirstRule}
use Rattle.ped_rules.specs.Chains.{no_rules, also, WhereLoop, Unless}
use Rattle.ped_rules.specs.KeepMaps.{moved_by}
use Rattle.ped_rules.specs.Rules.{WhereNoLoop, is_parallel, has_private, WhereEscape, WhereUnplain, is_one, has_other_step, leaves, setting_at, heads_round, WhereLimit}
use Rattle.ped_rules.proofs.Chains.{IsChain, chain_end, chain_link, first_here, first_later, none_later, not_this, not_those, none_at_end}
use Rattle.ped_rules.proofs.OneEach.{unless_one, no_loop_one, loop_one, escape_one, unplain_one, limit_one}
use Rattle.ped_rules.proofs.Decided.{some_loop, limit_stands, limit_not, limit_valid}
use Rattle.ped_reindex.specs.Stripping.{is_bad_size, has_bad_size, strip_variable, stripped, MakesStripped, IsItsLimit, strips_head, strip_end, of_name, strip_leaves, StandsAgainstStripping}
use Rattle.ped_rules.proofs.HeadLaws.Contained.{contained}
use Rattle.ped_reindex.proofs.Here.{not_asked, not_unless, fails_by, here, not_no_loop, fails_there, passes_there}

some_name : (w x : List ℕ) → Some w ≡ Some x → w ≡ x
some_name w x e = cc

module _ (s : ℕ) (k : ℤ) where
  pub one_made : (t new other : ProgramTree) (keep more : List (ℕ × ℕ)) → MakesStripped s k t new keep → MakesStripped s k t other more → (new ≡ other) × (keep ≡ more)
  one_made t new other keep more p q = (p.2 ∙ ap (stripped t s k) (some_name p.0 q.0 (sym p.1 ∙ q.1)) ∙ sym q.2, p.3 ∙ sym q.3)

  module _ (t : ProgramTree) where
    abbrev pub bad : Bool
    bad = is_bad_size k

    abbrev pub other_step : Head → StmtTrees → Bool
    other_step = has_other_step (table_of t).constants is_one

    abbrev pub Leaving : ℕ → Type 0
    Leaving = WhereLoop t s (strip_leaves t s k)

    abbrev pub Limited : ℕ → Type 0
    Limited = WhereLimit (MakesStripped s k) t s

    abbrev pub size : Rules
    size = also BadFactor (WhereLoop t s (has_bad_size k)) no_rules

    abbrev pub limit : Rules
    limit = also Limit (Unless bad Limited) size

    abbrev pub range : Rules
    range = also Range (Unless bad Leaving) limit

    abbrev pub shape : Rules
    shape = also StepShape (WhereLoop t s other_step) range

    abbrev pub plain : Rules
    plain = also BoundNotPlain (WhereUnplain t s (IsItsLimit t s)) shape

    abbrev pub escape : Rules
    escape = also IndexEscapes (WhereEscape t s) plain

    abbrev pub shared : Rules
    shared = also HasPrivate (WhereLoop t s has_private) escape

    abbrev pub state : Rules
    state = also ParallelState (WhereLoop t s is_parallel) shared

    abbrev stands : Rules
    stands = StandsAgainstStripping s k t

    pub size_chain : IsChain 15 size
    size_chain = chain_link BadFactor (WhereLoop t s (has_bad_size k)) no_rules 15 (omega arith) (loop_one t s (has_bad_size k)) (chain_end 16)

    pub limit_chain : IsChain 9 limit
    limit_chain = chain_link Limit (Unless bad Limited) size 9 (omega arith) (unless_one bad Limited (limit_one t s (MakesStripped s k))) size_chain

    pub range_chain : IsChain 8 range
    range_chain = chain_link Range (Unless bad Leaving) limit 8 (omega arith) (unless_one bad Leaving (loop_one t s (strip_leaves t s k))) limit_chain

    pub shape_chain : IsChain 6 shape
    shape_chain = chain_link StepShape (WhereLoop t s other_step) range 6 (omega arith) (loop_one t s other_step) range_chain

    pub plain_chain : IsChain 5 plain
    plain_chain = chain_link BoundNotPlain (WhereUnplain t s (IsItsLimit t s)) shape 5 (omega arith) (unplain_one t s (IsItsLimit t s)) shape_chain

    pub escape_chain : IsChain 4 escape
    escape_chain = chain_link IndexEscapes (WhereEscape t s) plain 4 (omega arith) (escape_one t s) plain_chain

    pub shared_chain : IsChain 3 shared
    shared_chain = chain_link HasPrivate (WhereLoop t s has_private) escape 3 (omega arith) (loop_one t s has_private) escape_chain

    pub state_chain : IsChain 1 state
    state_chain = chain_link ParallelState (WhereLoop t s is_parallel) shared 1 (omega arith) (loop_one t s is_parallel) shared_chain

    pub chain : IsChain 0 stands
    chain = chain_link NoLoop (WhereNoLoop t s) state 0 (omega arith) (no_loop_one t s) state_chain

    -- the statement is no DO
    pub no_loop_first : ((h : Head) (body : StmtTrees) → IsLoop t s h body → ⊥) → IsFirstRule stands NoLoop s
    no_loop_first none = first_here NoLoop (WhereNoLoop t s) state s ((λ l. none l.head l.body l.is), refl) state_chain

    module _ (h : Head) (body : StmtTrees) (is : IsLoop t s h body) where
      behind_loop : (r : Rule) (n : ℕ) → IsFirstRule state r n → IsFirstRule stands r n
      behind_loop r n first = first_later NoLoop (WhereNoLoop t s) state (not_no_loop t s h body is) r n first

      pub state_first : is_parallel h body ≡ true → IsFirstRule stands ParallelState s
      state_first holds = behind_loop ParallelState s (first_here ParallelState (WhereLoop t s is_parallel) shared s (passes_there t s h body is is_parallel holds) shared_chain)

      same_limit : (e : ExprTree) (l : LoopOf t s) → e ≡ l.head.last → e ≡ h.last
      same_limit e l is_last = is_last ∙ ap (λ (g : Head). g.last) (same_head t s l.head h l.body body l.is is)

      -- the limit isn't plain
      pub unplain_there : (IsPlain (table_of t).constants t s h.last → ⊥) → WhereUnplain t s (IsItsLimit t s) s
      unplain_there not_plain = (here t s h body is, ((h.last, (refl, here t s h body is, refl), not_plain), λ n p. let at : n ≡ s = p.1.0 in omega (arith, at)))

      -- or it is
      pub no_unplain : IsPlain (table_of t).constants t s h.last → (n : ℕ) → WhereUnplain t s (IsItsLimit t s) n → ⊥
      no_unplain is_plain n p = p.1.0.2 (plain_at n p.1.0.1.0 p.1.0.0 (same_limit p.1.0.0 p.1.0.1.1 p.1.0.1.2))
        where
          plain_at : (m : ℕ) → m ≡ s → (e : ExprTree) → e ≡ h.last → IsPlain (table_of t).constants t m e
          plain_at m at e same = subst (λ (a : ExprTree). IsPlain (table_of t).constants t m a) (sym same) (subst (λ (a : ℕ). IsPlain (table_of t).constants t a h.last) (sym at) is_plain)

      module _ (serial : is_parallel h body ≡ false) where
        behind_state : (r : Rule) (n : ℕ) → IsFirstRule shared r n → IsFirstRule stands r n
        behind_state r n first = behind_loop r n (first_later ParallelState (WhereLoop t s is_parallel) shared (fails_there t s h body is is_parallel serial) r n first)

        pub private_first : has_private h body ≡ true → IsFirstRule stands HasPrivate s
        private_first holds = behind_state HasPrivate s (first_here HasPrivate (WhereLoop t s has_private) escape s (passes_there t s h body is has_private holds) escape_chain)

        module _ (all_shared : has_private h body ≡ false) where
          behind_private : (r : Rule) (n : ℕ) → IsFirstRule escape r n → IsFirstRule stands r n
          behind_private r n first = behind_state r n (first_later HasPrivate (WhereLoop t s has_private) escape (fails_there t s h body is has_private all_shared) r n first)

          pub escape_first : (n : ℕ) → WhereEscape t s n → IsFirstRule stands IndexEscapes n
          escape_first n escapes = behind_private IndexEscapes n (first_here IndexEscapes (WhereEscape t s) plain n escapes plain_chain)

          module _ (none : (n : ℕ) → WhereEscape t s n → ⊥) where
            behind_escape : (r : Rule) (n : ℕ) → IsFirstRule plain r n → IsFirstRule stands r n
            behind_escape r n first = behind_private r n (first_later IndexEscapes (WhereEscape t s) plain none r n first)

            pub plain_first : (IsPlain (table_of t).constants t s h.last → ⊥) → IsFirstRule stands BoundNotPlain s
            plain_first not_plain = behind_escape BoundNotPlain s (first_here BoundNotPlain (WhereUnplain t s (IsItsLimit t s)) shape s (unplain_there not_plain) shape_chain)

            module _ (is_plain : IsPlain (table_of t).constants t s h.last) where
              behind_plain : (r : Rule) (n : ℕ) → IsFirstRule shape r n → IsFirstRule stands r n
              behind_plain r n first = behind_escape r n (first_later BoundNotPlain (WhereUnplain t s (IsItsLimit t s)) shape (no_unplain is_plain) r n first)

              pub shape_first : other_step h body ≡ true → IsFirstRule stands StepShape s
              shape_first holds = behind_plain StepShape s (first_here StepShape (WhereLoop t s other_step) range s (passes_there t s h body is other_step holds) range_chain)

              module _ (unit : other_step h body ≡ false) where
                behind_shape : (r : Rule) (n : ℕ) → IsFirstRule range r n → IsFirstRule stands r n
                behind_shape r n first = behind_plain r n (first_later StepShape (WhereLoop t s other_step) range (fails_there t s h body is other_step unit) r n first)

                pub size_first : bad ≡ true → IsFirstRule stands BadFactor s
                size_first holds =
                    behind_shape BadFactor s
                    (first_later Range (Unless bad Leaving) limit (not_asked bad Leaving holds) BadFactor s
                    (first_later Limit (Unless bad Limited) size (not_asked bad Limited holds) BadFactor s
                    (first_here BadFactor (WhereLoop t s (has_bad_size k)) no_rules s (passes_there t s h body is (has_bad_size k) holds) (chain_end 16))))

                module _ (good : bad ≡ false) where
                  pub range_first : strip_leaves t s k h body ≡ true → IsFirstRule stands Range s
                  range_first holds = behind_shape Range s (first_here Range (Unless bad Leaving) limit s (good, passes_there t s h body is (strip_leaves t s k) holds) limit_chain)

                  module _ (near : strip_leaves t s k h body ≡ false) where
                    no_range : (n : ℕ) → Unless bad Leaving n → ⊥
                    no_range = not_unless bad Leaving (fails_there t s h body is (strip_leaves t s k) near)

                    -- no program is made, or the one that is made isn't valid
                    limited_first : Limited s → IsFirstRule stands Limit s
                    limited_first limited = behind_shape Limit s (first_later Range (Unless bad Leaving) limit no_range Limit s (first_here Limit (Unless bad Limited) size s (good, limited) size_chain))

                    pub limit_first : (w : List ℕ) → strip_variable t ≡ Some w → (IsValid (stripped t s k w) → ⊥) → IsFirstRule stands Limit s
                    limit_first w fresh invalid = limited_first (limit_stands (MakesStripped s k) t s (here t s h body is) (one_made t) (stripped t s k w) (moved_by s 1 t) (w, fresh, refl, refl) invalid)

                    pub nothing_stands : (w : List ℕ) → strip_variable t ≡ Some w → IsValid (stripped t s k w) → NoRule stands
                    nothing_stands w fresh valid =
                        none_later NoLoop (WhereNoLoop t s) state (not_no_loop t s h body is)
                        (none_later ParallelState (WhereLoop t s is_parallel) shared (fails_there t s h body is is_parallel serial)
                        (none_later HasPrivate (WhereLoop t s has_private) escape (fails_there t s h body is has_private all_shared)
                        (none_later IndexEscapes (WhereEscape t s) plain none
                        (none_later BoundNotPlain (WhereUnplain t s (IsItsLimit t s)) shape (no_unplain is_plain)
                        (none_later StepShape (WhereLoop t s other_step) range (fails_there t s h body is other_step unit)
                        (none_later Range (Unless bad Leaving) limit no_range
                        (none_later Limit (Unless bad Limited) size (not_unless bad Limited (limit_not (MakesStripped s k) t s (stripped t s k w) (moved_by s 1 t) (w, fresh, refl, refl) valid))
                        (none_later BadFactor (WhereLoop t s (has_bad_size k)) no_rules (fails_there t s h body is (has_bad_size k) good) none_at_end))))))))

                  -- there is no new name
                  pub no_name_first : strip_variable t ≡ None → IsFirstRule stands Limit s
                  no_name_first none_free =
                      limited_first (fails_named none_free) (here t s h body is, (λ new keep made valid. no_made none_free made), refl)
                    where
                      fails_named : strip_variable t ≡ None → strip_leaves t s k h body ≡ false
                      fails_named e = ap (of_name (λ w. leaves (setting_at t s) (heads_round t s ++ strips_head k w h ∷ []) (strip_end k w))) e

                      no_made : {new : ProgramTree} {keep : List (ℕ × ℕ)} → strip_variable t ≡ None → MakesStripped s k t new keep → ⊥
                      no_made e made = let f : None ≡ Some made.0 = sym e ∙ made.1 in absurd cc

    -- where no rule stands
    module _ (none : NoRule stands) where
      none_but_loop : NoRule state
      none_but_loop = not_those NoLoop (WhereNoLoop t s) state none

      none_but_state : NoRule shared
      none_but_state = not_those ParallelState (WhereLoop t s is_parallel) shared none_but_loop

      none_but_private : NoRule escape
      none_but_private = not_those HasPrivate (WhereLoop t s has_private) escape none_but_state

      none_but_escape : NoRule plain
      none_but_escape = not_those IndexEscapes (WhereEscape t s) plain none_but_private

      none_but_plain : NoRule shape
      none_but_plain = not_those BoundNotPlain (WhereUnplain t s (IsItsLimit t s)) shape none_but_escape

      none_but_shape : NoRule range
      none_but_shape = not_those StepShape (WhereLoop t s other_step) range none_but_plain

      none_but_range : NoRule limit
      none_but_range = not_those Range (Unless bad Leaving) limit none_but_shape

      none_but_limit : NoRule size
      none_but_limit = not_those Limit (Unless bad Limited) size none_but_range

      pub its_loop : LoopOf t s
      its_loop = some_loop t s (not_this NoLoop (WhereNoLoop t s) state none)

      pub is_serial : (l : LoopOf t s) → is_parallel l.head l.body ≡ false
      is_serial = fails_by t s is_parallel (not_this ParallelState (WhereLoop t s is_parallel) shared none_but_loop)

      pub is_shared : (l : LoopOf t s) → has_private l.head l.body ≡ false
      is_shared = fails_by t s has_private (not_this HasPrivate (WhereLoop t s has_private) escape none_but_state)

      pub has_unit : (l : LoopOf t s) → other_step l.head l.body ≡ false
      has_unit = fails_by t s other_step (not_this StepShape (WhereLoop t s other_step) range none_but_plain)

      pub is_good : bad ≡ false
      is_good = fails_by t s (has_bad_size k) (not_this BadFactor (WhereLoop t s (has_bad_size k)) no_rules none_but_limit) its_loop

      pub is_near : (l : LoopOf t s) → strip_leaves t s k l.head l.body ≡ false
      is_near = fails_by t s (strip_leaves t s k) (λ n p. not_this Range (Unless bad Leaving) limit none_but_shape n (is_good, p))

      pub not_limited : (n : ℕ) → Limited n → ⊥
      not_limited n p = not_this Limit (Unless bad Limited) size none_but_range n (is_good, p)

      -- there is a new name
      pub its_variable : (w : List ℕ) × (strip_variable t ≡ Some w)
      its_variable = by (strip_variable t) refl
        where
          by : (o : Option (List ℕ)) → strip_variable t ≡ o → (w : List ℕ) × (strip_variable t ≡ Some w)
          by (Some w) e = (w, e)
          by None e = absurd (not_limited s (its_loop, (λ new keep made valid. let f : None ≡ Some made.0 = sym e ∙ made.1 in absurd cc), refl))

      pub is_valid : (w : List ℕ) → strip_variable t ≡ Some w → IsValid (stripped t s k w)
      is_valid w fresh = limit_valid (MakesStripped s k) t s its_loop (one_made t) not_limited (stripped t s k w) (moved_by s 1 t) (w, fresh, refl, refl)

      -- the limit is plain, unless it is absurd that it is
      pub is_plain : (l : LoopOf t s) → (IsPlain (table_of t).constants t s l.head.last → ⊥) → ⊥
      is_plain l not_plain = not_this BoundNotPlain (WhereUnplain t s (IsItsLimit t s)) shape none_but_escape s
          (l, ((l.head.last, (refl, l, refl), not_plain), λ n p. let at : n ≡ s = p.1.0 in omega (arith, at)))

      pub is_contained : IsContained t s
      is_contained = contained t s its_loop (not_this IndexEscapes (WhereEscape t s) plain none_but_private)
