-- The rules that stand against `interchange`, one behind the other; and what is so where none stands.
use Rattle.std.proofs.Common.{Bool, List, arith, false, inl, inr, refl, sym, true, ℕ, ◌+◌, ◌∙◌, ◌≡◌, ◌≤◌}
use Rattle.std.proofs.lemmas.Bool.{false_from_ne_true}
use Rattle.ped_rules.proofs.HeadLaws.Contained.{contained}
use Rattle.ped_loops.specs.CodeInterchanging.{NoneUpTo}
use Rattle.ped_loops.specs.Interchanging.{IsBoundOfEither, MakesInterchanged, StandsAgainstInterchange, is_tied, has_no_unit, interchanged, makes_far}
use Rattle.ped_rules.proofs.OneLoop.{fails_there}
use Rattle.ped_rules.proofs.Chains.{IsChain, chain_end, chain_link, first_here, first_later, none_at_end, none_later}
use Rattle.ped_rules.proofs.Decided.{limit_not, limit_stands, limit_valid, some_loop}
use Rattle.ped_rules.proofs.OneEach.{escape_one, limit_one, loop_one, no_loop_one, unplain_one}
use Rattle.ped_rules.specs.Chains.{WhereLoop, also, no_rules}
use Rattle.ped_rules.specs.KeepMaps.{all_but}
use Rattle.ped_rules.specs.OnlyLoops.{either}
use Rattle.ped_rules.specs.Rules.{WhereEscape, WhereLimit, WhereNoLoop, WhereUnplain, has_private, heads_round, is_parallel, isnt_perfect, setting_at}
use Rattle.ped_rules.specs.ped_steps.specs.Causes.{IsFirstRule, NoRule, Rules}
use Rattle.ped_rules.specs.ped_steps.specs.declared.rules.Rule.{Rule}
use Rattle.ped_rules.specs.ped_steps.specs.declared.rules.Rule.TheVariants.{BoundNotPlain, BoundsShape, HasPrivate, IndexEscapes, Limit, NoLoop, NotPerfect, ParallelState, Range, StepShape}
use Rattle.ped_rules.specs.ped_flow.specs.Questions.{IsContained, IsLoop, LoopOf}
use Rattle.ped_rules.specs.ped_symbols.specs.Kinds.{table_of}
use Rattle.ped_rules.specs.ped_symbols.specs.NameRefusals.{IsValid}
use Rattle.ped_tree.specs.Tree.{Head, ProgramTree, StmtTrees}

-- rules from some place of a chain on, where none of those before stands
record IsPast (stands rest : Rules) : Type 0 where
  first : (q : Rule) (n : ℕ) → IsFirstRule rest q n → IsFirstRule stands q n
  none : NoRule rest → NoRule stands

past_this : (stands : Rules) (r : Rule) (P : ℕ → Type 0) (others : Rules) → IsPast stands (also r P others) → ((n : ℕ) → P n → ⊥) → IsPast stands others
past_this stands r P others past unless = record {
  first = λ q n f. past.first q n (first_later r P others unless q n f);
  none = λ h. past.none (none_later r P others unless h);
}

-- the rules of a chain have numbers above where it begins
upto_end : (k : ℕ) (rest : Rules) → IsChain k rest → NoneUpTo k rest
upto_end k rest chain r n low h = let above = chain.above r n h in absurd (omega (arith, low, above))

upto_this : (k : ℕ) (r : Rule) (P : ℕ → Type 0) (others : Rules) → ((n : ℕ) → P n → ⊥) → NoneUpTo k others → NoneUpTo k (also r P others)
upto_this k r P others unless rest q n low (inl (e, p)) = unless n p
upto_this k r P others unless rest q n low (inr h) = rest q n low h

module _ (s : ℕ) where
  pub one_made : (t new other : ProgramTree) (keep more : List (ℕ × ℕ)) → MakesInterchanged s t new keep → MakesInterchanged s t other more → (new ≡ other) × (keep ≡ more)
  one_made t new other keep more p q = (p.0 ∙ sym q.0, p.1 ∙ sym q.1)

  module _ (t : ProgramTree) where
    abbrev pub units : Head → StmtTrees → Bool
    units = has_no_unit (table_of t).constants

    abbrev pub far : Head → StmtTrees → Bool
    far = makes_far (setting_at t s) (heads_round t s)

    abbrev pub Unplain : ℕ → Type 0
    Unplain = WhereUnplain t s (IsBoundOfEither t s)

    abbrev pub limit : Rules
    limit = also Limit (WhereLimit (MakesInterchanged s) t s) no_rules

    abbrev pub range : Rules
    range = also Range (WhereLoop t s far) limit

    abbrev pub unit : Rules
    unit = also StepShape (WhereLoop t s units) range

    abbrev pub shape : Rules
    shape = also BoundsShape (WhereLoop t s is_tied) unit

    abbrev pub bound : Rules
    bound = also BoundNotPlain Unplain shape

    abbrev pub escape : Rules
    escape = also IndexEscapes (WhereEscape t s) bound

    abbrev pub list : Rules
    list = also HasPrivate (WhereLoop t s (either has_private)) escape

    abbrev pub state : Rules
    state = also ParallelState (WhereLoop t s (either is_parallel)) list

    abbrev pub perfect : Rules
    perfect = also NotPerfect (WhereLoop t s isnt_perfect) state

    abbrev stands : Rules
    stands = StandsAgainstInterchange s t

    pub limit_chain : IsChain 9 limit
    limit_chain = chain_link Limit (WhereLimit (MakesInterchanged s) t s) no_rules 9 (omega arith) (limit_one t s (MakesInterchanged s)) (chain_end 15)

    pub range_chain : IsChain 8 range
    range_chain = chain_link Range (WhereLoop t s far) limit 8 (omega arith) (loop_one t s far) limit_chain

    pub unit_chain : IsChain 7 unit
    unit_chain = chain_link StepShape (WhereLoop t s units) range 7 (omega arith) (loop_one t s units) range_chain

    pub shape_chain : IsChain 6 shape
    shape_chain = chain_link BoundsShape (WhereLoop t s is_tied) unit 6 (omega arith) (loop_one t s is_tied) unit_chain

    pub bound_chain : IsChain 5 bound
    bound_chain = chain_link BoundNotPlain Unplain shape 5 (omega arith) (unplain_one t s (IsBoundOfEither t s)) shape_chain

    pub escape_chain : IsChain 4 escape
    escape_chain = chain_link IndexEscapes (WhereEscape t s) bound 4 (omega arith) (escape_one t s) bound_chain

    pub list_chain : IsChain 3 list
    list_chain = chain_link HasPrivate (WhereLoop t s (either has_private)) escape 3 (omega arith) (loop_one t s (either has_private)) escape_chain

    pub state_chain : IsChain 2 state
    state_chain = chain_link ParallelState (WhereLoop t s (either is_parallel)) list 2 (omega arith) (loop_one t s (either is_parallel)) list_chain

    pub perfect_chain : IsChain 1 perfect
    perfect_chain = chain_link NotPerfect (WhereLoop t s isnt_perfect) state 1 (omega arith) (loop_one t s isnt_perfect) state_chain

    pub chain : IsChain 0 stands
    chain = chain_link NoLoop (WhereNoLoop t s) perfect 0 (omega arith) (no_loop_one t s) perfect_chain

    -- what follows where no rule up to a number stands
    module _ (k : ℕ) (none : NoneUpTo k stands) where
      no_loop : 1 ≤ k → (n : ℕ) → WhereNoLoop t s n → ⊥
      no_loop low n p = none NoLoop n low (inl (refl, p))

      pub not_perfect : 2 ≤ k → (n : ℕ) → WhereLoop t s isnt_perfect n → ⊥
      not_perfect low n p = none NotPerfect n low (inr (inl (refl, p)))

      pub not_parallel : 3 ≤ k → (n : ℕ) → WhereLoop t s (either is_parallel) n → ⊥
      not_parallel low n p = none ParallelState n low (inr (inr (inl (refl, p))))

      pub not_private : 4 ≤ k → (n : ℕ) → WhereLoop t s (either has_private) n → ⊥
      not_private low n p = none HasPrivate n low (inr (inr (inr (inl (refl, p)))))

      pub not_escaping : 5 ≤ k → (n : ℕ) → WhereEscape t s n → ⊥
      not_escaping low n p = none IndexEscapes n low (inr (inr (inr (inr (inl (refl, p))))))

      pub not_unplain : 6 ≤ k → (n : ℕ) → Unplain n → ⊥
      not_unplain low n p = none BoundNotPlain n low (inr (inr (inr (inr (inr (inl (refl, p)))))))

      pub not_tied : 7 ≤ k → (n : ℕ) → WhereLoop t s is_tied n → ⊥
      not_tied low n p = none BoundsShape n low (inr (inr (inr (inr (inr (inr (inl (refl, p))))))))

      pub not_stepping : 8 ≤ k → (n : ℕ) → WhereLoop t s units n → ⊥
      not_stepping low n p = none StepShape n low (inr (inr (inr (inr (inr (inr (inr (inl (refl, p)))))))))

      pub not_far : 9 ≤ k → (n : ℕ) → WhereLoop t s far n → ⊥
      not_far low n p = none Range n low (inr (inr (inr (inr (inr (inr (inr (inr (inl (refl, p))))))))))

      past_loop : 1 ≤ k → IsPast stands perfect
      past_loop low = past_this stands NoLoop (WhereNoLoop t s) perfect (record { first = λ q n f. f; none = λ h. h }) (no_loop low)

      past_perfect : 2 ≤ k → IsPast stands state
      past_perfect low = past_this stands NotPerfect (WhereLoop t s isnt_perfect) state (past_loop (omega (arith, low))) (not_perfect low)

      past_state : 3 ≤ k → IsPast stands list
      past_state low = past_this stands ParallelState (WhereLoop t s (either is_parallel)) list (past_perfect (omega (arith, low))) (not_parallel low)

      past_list : 4 ≤ k → IsPast stands escape
      past_list low = past_this stands HasPrivate (WhereLoop t s (either has_private)) escape (past_state (omega (arith, low))) (not_private low)

      past_escape : 5 ≤ k → IsPast stands bound
      past_escape low = past_this stands IndexEscapes (WhereEscape t s) bound (past_list (omega (arith, low))) (not_escaping low)

      past_bound : 6 ≤ k → IsPast stands shape
      past_bound low = past_this stands BoundNotPlain Unplain shape (past_escape (omega (arith, low))) (not_unplain low)

      past_shape : 7 ≤ k → IsPast stands unit
      past_shape low = past_this stands BoundsShape (WhereLoop t s is_tied) unit (past_bound (omega (arith, low))) (not_tied low)

      past_unit : 8 ≤ k → IsPast stands range
      past_unit low = past_this stands StepShape (WhereLoop t s units) range (past_shape (omega (arith, low))) (not_stepping low)

      past_range : 9 ≤ k → IsPast stands limit
      past_range low = past_this stands Range (WhereLoop t s far) limit (past_unit (omega (arith, low))) (not_far low)

    -- the first rule that stands, and that one more doesn't
    pub no_loop_first : ((h : Head) (body : StmtTrees) → IsLoop t s h body → ⊥) → IsFirstRule stands NoLoop s
    no_loop_first none = first_here NoLoop (WhereNoLoop t s) perfect s ((λ l. none l.head l.body l.is), refl) perfect_chain

    module _ (h : Head) (body : StmtTrees) (is : IsLoop t s h body) where
      abbrev loop : LoopOf t s
      loop = record { head = h; body = body; is = is }

      pub upto_loop : NoneUpTo 1 stands
      upto_loop = upto_this 1 NoLoop (WhereNoLoop t s) perfect (λ n p. p.0 loop) (upto_end 1 perfect perfect_chain)

      pub perfect_first : isnt_perfect h body ≡ true → IsFirstRule stands NotPerfect s
      perfect_first holds = (past_loop 1 upto_loop (omega arith)).first NotPerfect s (first_here NotPerfect (WhereLoop t s isnt_perfect) state s (loop, holds, refl) state_chain)

      pub state_first : NoneUpTo 2 stands → either is_parallel h body ≡ true → IsFirstRule stands ParallelState s
      state_first none holds = (past_perfect 2 none (omega arith)).first ParallelState s (first_here ParallelState (WhereLoop t s (either is_parallel)) list s (loop, holds, refl) list_chain)

      pub list_first : NoneUpTo 3 stands → either has_private h body ≡ true → IsFirstRule stands HasPrivate s
      list_first none holds = (past_state 3 none (omega arith)).first HasPrivate s (first_here HasPrivate (WhereLoop t s (either has_private)) escape s (loop, holds, refl) escape_chain)

      pub shape_first : NoneUpTo 6 stands → is_tied h body ≡ true → IsFirstRule stands BoundsShape s
      shape_first none holds = (past_bound 6 none (omega arith)).first BoundsShape s (first_here BoundsShape (WhereLoop t s is_tied) unit s (loop, holds, refl) unit_chain)

      pub unit_first : NoneUpTo 7 stands → units h body ≡ true → IsFirstRule stands StepShape s
      unit_first none holds = (past_shape 7 none (omega arith)).first StepShape s (first_here StepShape (WhereLoop t s units) range s (loop, holds, refl) range_chain)

      pub range_first : NoneUpTo 8 stands → far h body ≡ true → IsFirstRule stands Range s
      range_first none holds = (past_unit 8 none (omega arith)).first Range s (first_here Range (WhereLoop t s far) limit s (loop, holds, refl) limit_chain)

      pub limit_first : NoneUpTo 9 stands → (IsValid (interchanged t s) → ⊥) → IsFirstRule stands Limit s
      limit_first none invalid =
          (past_range 9 none (omega arith)).first Limit s
          (first_here Limit (WhereLimit (MakesInterchanged s) t s) no_rules s (limit_stands (MakesInterchanged s) t s loop (one_made t) (interchanged t s) (all_but s (s + 1) t) (refl, refl) invalid) (chain_end 15))

      pub upto_perfect : isnt_perfect h body ≡ false → NoneUpTo 2 stands
      upto_perfect fails =
          upto_this 2 NoLoop (WhereNoLoop t s) perfect (λ n p. p.0 loop)
          (upto_this 2 NotPerfect (WhereLoop t s isnt_perfect) state (fails_there t s h body is isnt_perfect fails) (upto_end 2 state state_chain))

      pub upto_state : NoneUpTo 2 stands → either is_parallel h body ≡ false → NoneUpTo 3 stands
      upto_state none fails =
          upto_this 3 NoLoop (WhereNoLoop t s) perfect (no_loop 2 none (omega arith))
          (upto_this 3 NotPerfect (WhereLoop t s isnt_perfect) state (not_perfect 2 none (omega arith))
          (upto_this 3 ParallelState (WhereLoop t s (either is_parallel)) list (fails_there t s h body is (either is_parallel) fails) (upto_end 3 list list_chain)))

      pub upto_list : NoneUpTo 3 stands → either has_private h body ≡ false → NoneUpTo 4 stands
      upto_list none fails =
          upto_this 4 NoLoop (WhereNoLoop t s) perfect (no_loop 3 none (omega arith))
          (upto_this 4 NotPerfect (WhereLoop t s isnt_perfect) state (not_perfect 3 none (omega arith))
          (upto_this 4 ParallelState (WhereLoop t s (either is_parallel)) list (not_parallel 3 none (omega arith))
          (upto_this 4 HasPrivate (WhereLoop t s (either has_private)) escape (fails_there t s h body is (either has_private) fails) (upto_end 4 escape escape_chain))))

      pub upto_shape : NoneUpTo 6 stands → is_tied h body ≡ false → NoneUpTo 7 stands
      upto_shape none fails =
          upto_this 7 NoLoop (WhereNoLoop t s) perfect (no_loop 6 none (omega arith))
          (upto_this 7 NotPerfect (WhereLoop t s isnt_perfect) state (not_perfect 6 none (omega arith))
          (upto_this 7 ParallelState (WhereLoop t s (either is_parallel)) list (not_parallel 6 none (omega arith))
          (upto_this 7 HasPrivate (WhereLoop t s (either has_private)) escape (not_private 6 none (omega arith))
          (upto_this 7 IndexEscapes (WhereEscape t s) bound (not_escaping 6 none (omega arith))
          (upto_this 7 BoundNotPlain Unplain shape (not_unplain 6 none (omega arith))
          (upto_this 7 BoundsShape (WhereLoop t s is_tied) unit (fails_there t s h body is is_tied fails) (upto_end 7 unit unit_chain)))))))

      pub upto_unit : NoneUpTo 7 stands → units h body ≡ false → NoneUpTo 8 stands
      upto_unit none fails =
          upto_this 8 NoLoop (WhereNoLoop t s) perfect (no_loop 7 none (omega arith))
          (upto_this 8 NotPerfect (WhereLoop t s isnt_perfect) state (not_perfect 7 none (omega arith))
          (upto_this 8 ParallelState (WhereLoop t s (either is_parallel)) list (not_parallel 7 none (omega arith))
          (upto_this 8 HasPrivate (WhereLoop t s (either has_private)) escape (not_private 7 none (omega arith))
          (upto_this 8 IndexEscapes (WhereEscape t s) bound (not_escaping 7 none (omega arith))
          (upto_this 8 BoundNotPlain Unplain shape (not_unplain 7 none (omega arith))
          (upto_this 8 BoundsShape (WhereLoop t s is_tied) unit (not_tied 7 none (omega arith))
          (upto_this 8 StepShape (WhereLoop t s units) range (fails_there t s h body is units fails) (upto_end 8 range range_chain))))))))

      pub upto_range : NoneUpTo 8 stands → far h body ≡ false → NoneUpTo 9 stands
      upto_range none fails =
          upto_this 9 NoLoop (WhereNoLoop t s) perfect (no_loop 8 none (omega arith))
          (upto_this 9 NotPerfect (WhereLoop t s isnt_perfect) state (not_perfect 8 none (omega arith))
          (upto_this 9 ParallelState (WhereLoop t s (either is_parallel)) list (not_parallel 8 none (omega arith))
          (upto_this 9 HasPrivate (WhereLoop t s (either has_private)) escape (not_private 8 none (omega arith))
          (upto_this 9 IndexEscapes (WhereEscape t s) bound (not_escaping 8 none (omega arith))
          (upto_this 9 BoundNotPlain Unplain shape (not_unplain 8 none (omega arith))
          (upto_this 9 BoundsShape (WhereLoop t s is_tied) unit (not_tied 8 none (omega arith))
          (upto_this 9 StepShape (WhereLoop t s units) range (not_stepping 8 none (omega arith))
          (upto_this 9 Range (WhereLoop t s far) limit (fails_there t s h body is far fails) (upto_end 9 limit limit_chain)))))))))

    pub escape_first : NoneUpTo 4 stands → (n : ℕ) → WhereEscape t s n → IsFirstRule stands IndexEscapes n
    escape_first none n p = (past_list 4 none (omega arith)).first IndexEscapes n (first_here IndexEscapes (WhereEscape t s) bound n p bound_chain)

    pub bound_first : NoneUpTo 5 stands → (n : ℕ) → Unplain n → IsFirstRule stands BoundNotPlain n
    bound_first none n p = (past_escape 5 none (omega arith)).first BoundNotPlain n (first_here BoundNotPlain Unplain shape n p shape_chain)

    pub upto_escape : NoneUpTo 4 stands → ((n : ℕ) → WhereEscape t s n → ⊥) → NoneUpTo 5 stands
    upto_escape none fails =
        upto_this 5 NoLoop (WhereNoLoop t s) perfect (no_loop 4 none (omega arith))
        (upto_this 5 NotPerfect (WhereLoop t s isnt_perfect) state (not_perfect 4 none (omega arith))
        (upto_this 5 ParallelState (WhereLoop t s (either is_parallel)) list (not_parallel 4 none (omega arith))
        (upto_this 5 HasPrivate (WhereLoop t s (either has_private)) escape (not_private 4 none (omega arith))
        (upto_this 5 IndexEscapes (WhereEscape t s) bound fails (upto_end 5 bound bound_chain)))))

    pub upto_bound : NoneUpTo 5 stands → ((n : ℕ) → Unplain n → ⊥) → NoneUpTo 6 stands
    upto_bound none fails =
        upto_this 6 NoLoop (WhereNoLoop t s) perfect (no_loop 5 none (omega arith))
        (upto_this 6 NotPerfect (WhereLoop t s isnt_perfect) state (not_perfect 5 none (omega arith))
        (upto_this 6 ParallelState (WhereLoop t s (either is_parallel)) list (not_parallel 5 none (omega arith))
        (upto_this 6 HasPrivate (WhereLoop t s (either has_private)) escape (not_private 5 none (omega arith))
        (upto_this 6 IndexEscapes (WhereEscape t s) bound (not_escaping 5 none (omega arith))
        (upto_this 6 BoundNotPlain Unplain shape fails (upto_end 6 shape shape_chain))))))

    pub nothing_stands : NoneUpTo 9 stands → IsValid (interchanged t s) → NoRule stands
    nothing_stands none valid =
        (past_range 9 none (omega arith)).none
        (none_later Limit (WhereLimit (MakesInterchanged s) t s) no_rules (limit_not (MakesInterchanged s) t s (interchanged t s) (all_but s (s + 1) t) (refl, refl) valid) none_at_end)

    -- where no rule stands
    module _ (none : NoRule stands) where
      upto_all : NoneUpTo 9 stands
      upto_all r n low p = none r n p

      pub its_loop : LoopOf t s
      its_loop = some_loop t s (λ n p. none NoLoop n (inl (refl, p)))

      test_fails : (r : Rule) (test : Head → StmtTrees → Bool) → ((n : ℕ) → WhereLoop t s test n → ⊥) → (l : LoopOf t s) → test l.head l.body ≡ false
      test_fails r test unless l = false_from_ne_true (test l.head l.body) (λ holds. unless s (l, holds, refl))

      pub is_perfect : (l : LoopOf t s) → isnt_perfect l.head l.body ≡ false
      is_perfect = test_fails NotPerfect isnt_perfect (not_perfect 9 upto_all (omega arith))

      pub are_serial : (l : LoopOf t s) → either is_parallel l.head l.body ≡ false
      are_serial = test_fails ParallelState (either is_parallel) (not_parallel 9 upto_all (omega arith))

      pub are_alone : (l : LoopOf t s) → either has_private l.head l.body ≡ false
      are_alone = test_fails HasPrivate (either has_private) (not_private 9 upto_all (omega arith))

      pub is_contained : IsContained t s
      is_contained = contained t s its_loop (not_escaping 9 upto_all (omega arith))

      pub are_plain : (n : ℕ) → Unplain n → ⊥
      are_plain = not_unplain 9 upto_all (omega arith)

      pub are_shaped : (l : LoopOf t s) → is_tied l.head l.body ≡ false
      are_shaped = test_fails BoundsShape is_tied (not_tied 9 upto_all (omega arith))

      pub have_units : (l : LoopOf t s) → units l.head l.body ≡ false
      have_units = test_fails StepShape units (not_stepping 9 upto_all (omega arith))

      pub are_near : (l : LoopOf t s) → far l.head l.body ≡ false
      are_near = test_fails Range far (not_far 9 upto_all (omega arith))

      pub is_valid : IsValid (interchanged t s)
      is_valid = limit_valid (MakesInterchanged s) t s its_loop (one_made t) (λ n p. none Limit n (inr (inr (inr (inr (inr (inr (inr (inr (inr (inl (refl, p)))))))))))) (interchanged t s) (all_but s (s + 1) t) (refl, refl)
