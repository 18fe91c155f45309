-- The rules against sums in any order, one behind the other, with others behind them.
use Rattle.std.proofs.Common.{◌≡◌, ◌⊎◌, ℕ, ◌+◌, ◌<◌, ◌≤◌, List, Bool, true, false, inl, inr, Option, Some, None, refl, sym, ap, ◌∙◌, subst, arith}
use Rattle.ped_tree.specs.Tree.{Head, StmtTrees, ProgramTree}
use Rattle.ped_tree.specs.Numbering.{statements_count}
use Rattle.ped_rules.specs.ped_symbols.specs.Kinds.{table_of}
use Rattle.ped_rules.specs.ped_flow.specs.Questions.{IsLoop, LoopOf}
use Rattle.ped_rules.specs.ped_steps.specs.declared.rules.Rule.{Rule}
use Rattle.ped_rules.specs.ped_steps.specs.declared.rules.Rule.TheVariants.{NoLoop, ParallelState, IndexEscapes, Range, NotScalar, NotConstant, AlreadyPrivate, NotSum}
use Rattle.ped_rules.specs.ped_steps.specs.RuleNames.{number_of}
use Rattle.ped_rules.specs.ped_steps.specs.Causes.{Rules, NoRule, IsFirstRule}
use Rattle.ped_rules.specs.Chains.{no_rules, also, WhereLoop}
use Rattle.ped_rules.specs.Rules.{WhereNoLoop, WhereEscape, isnt_constant}
use Rattle.ped_rules.proofs.Chains.{first_later, none_later, none_at_end}
use Rattle.ped_rules.proofs.OneLoop.{one_loop, fails_there}
use Rattle.ped_rules.specs.Scalars.{is_in_parallel}
use Rattle.ped_rules.specs.Scalars.{has_far_value}
use Rattle.ped_reduce.specs.declared.rules.Standing.{Standing}
use Rattle.ped_reduce.specs.Reducing.{has_unsummable, has_private_or_twice, first_beside_sums, WhereNoSum, also_against_sums}
use Rattle.ped_reduce.specs.CodeRules.{also_from_range, IsFirstOf, behind_limit}

-- all rules that stand have numbers above this one
abbrev pub AreAbove : ℕ → Rules → Type 0
AreAbove k others = (q : Rule) (n : ℕ) → others q n → k < number_of q

module _ (r : Rule) (P : ℕ → Type 0) (others : Rules) where
  pub also_above : (k : ℕ) → k < number_of r → AreAbove (number_of r) others → AreAbove k (also r P others)
  also_above k less rest q n (inl (e, p)) = subst (λ (p : Rule). k < number_of p) (sym e) less
  also_above k less rest q n (inr h) = let a = rest q n h in omega (arith, a, less)

  pub here_first : (n : ℕ) → P n → AreAbove (number_of r) others → IsFirstRule (also r P others) r n
  here_first n p rest = (inl (refl, p), least)
    where
      least : (q : Rule) (m : ℕ) → also r P others q m → number_of r ≤ number_of q
      least q m (inl (e, g)) = let same = ap number_of e in omega (arith, same)
      least q m (inr h) = let a = rest q m h in omega (arith, a)

none_some : (n : ℕ) → None ≡ Some n → ⊥
none_some n e = cc

module _ (s : ℕ) (names : List (List ℕ)) (t : ProgramTree) where
  abbrev far : Head → StmtTrees → Bool
  far = has_far_value (table_of t).constants

  abbrev unsummable : Head → StmtTrees → Bool
  unsummable = has_unsummable t s names

  abbrev open_bound : Head → StmtTrees → Bool
  open_bound = isnt_constant (table_of t).constants

  abbrev private : Head → StmtTrees → Bool
  private = has_private_or_twice t s names

  -- what stands in a chain stands in its own rules or among the others
  pub in_chain : (others : Rules) (q : Rule) (n : ℕ) → also_against_sums s names t others q n → also_against_sums s names t no_rules q n ⊎ others q n
  in_chain others q n (inl h) = inl (inl h)
  in_chain others q n (inr (inl h)) = inl (inr (inl h))
  in_chain others q n (inr (inr (inl h))) = inl (inr (inr (inl h)))
  in_chain others q n (inr (inr (inr (inl h)))) = inl (inr (inr (inr (inl h))))
  in_chain others q n (inr (inr (inr (inr (inl h))))) = inl (inr (inr (inr (inr (inl h)))))
  in_chain others q n (inr (inr (inr (inr (inr (inl h)))))) = inl (inr (inr (inr (inr (inr (inl h))))))
  in_chain others q n (inr (inr (inr (inr (inr (inr h)))))) = inr h

  pub own_in_chain : (others : Rules) (q : Rule) (n : ℕ) → also_against_sums s names t no_rules q n → also_against_sums s names t others q n
  own_in_chain others q n (inl h) = inl h
  own_in_chain others q n (inr (inl h)) = inr (inl h)
  own_in_chain others q n (inr (inr (inl h))) = inr (inr (inl h))
  own_in_chain others q n (inr (inr (inr (inl h)))) = inr (inr (inr (inl h)))
  own_in_chain others q n (inr (inr (inr (inr (inl h))))) = inr (inr (inr (inr (inl h))))
  own_in_chain others q n (inr (inr (inr (inr (inr (inl h)))))) = inr (inr (inr (inr (inr (inl h)))))
  own_in_chain others q n (inr (inr (inr (inr (inr (inr h)))))) = absurd h

  pub other_in_chain : (others : Rules) (q : Rule) (n : ℕ) → others q n → also_against_sums s names t others q n
  other_in_chain others q n h = inr (inr (inr (inr (inr (inr h)))))

  by_number : (r q : Rule) → q ≡ r → number_of q ≡ number_of r
  by_number r q e = ap number_of e

  -- its own rules have numbers up to 14
  own_numbers : (q : Rule) (n : ℕ) → also_against_sums s names t no_rules q n → number_of q ≤ 14
  own_numbers q n (inl h) = let e = by_number NoLoop q h.0 in omega (arith, e)
  own_numbers q n (inr (inl h)) = let e = by_number ParallelState q h.0 in omega (arith, e)
  own_numbers q n (inr (inr (inl h))) = let e = by_number IndexEscapes q h.0 in omega (arith, e)
  own_numbers q n (inr (inr (inr (inl h)))) = let e = by_number Range q h.0 in omega (arith, e)
  own_numbers q n (inr (inr (inr (inr (inl h))))) = let e = by_number NotScalar q h.0 in omega (arith, e)
  own_numbers q n (inr (inr (inr (inr (inr (inl h)))))) = let e = by_number NotConstant q h.0 in omega (arith, e)
  own_numbers q n (inr (inr (inr (inr (inr (inr h)))))) = absurd h

  -- the first of its own rules is the first of all, where the others have numbers above 14
  pub own_first : (others : Rules) → AreAbove 14 others → (r : Rule) (n : ℕ) → IsFirstRule (also_against_sums s names t no_rules) r n → IsFirstRule (also_against_sums s names t others) r n
  own_first others above r n first = (own_in_chain others r n first.0, least)
    where
      least : (q : Rule) (m : ℕ) → also_against_sums s names t others q m → number_of r ≤ number_of q
      least q m h = by (in_chain others q m h)
        where
          by : also_against_sums s names t no_rules q m ⊎ others q m → number_of r ≤ number_of q
          by (inl own) = first.1 q m own
          by (inr other) = let a = above q m other in let b = own_numbers r n first.0 in omega (arith, a, b)

  -- where none of its own rules stands, the first of the others is the first of all
  pub other_first : (others : Rules) → NoRule (also_against_sums s names t no_rules) → (r : Rule) (n : ℕ) → IsFirstRule others r n → IsFirstRule (also_against_sums s names t others) r n
  other_first others none r n first = (other_in_chain others r n first.0, least)
    where
      least : (q : Rule) (m : ℕ) → also_against_sums s names t others q m → number_of r ≤ number_of q
      least q m h = by (in_chain others q m h)
        where
          by : also_against_sums s names t no_rules q m ⊎ others q m → number_of r ≤ number_of q
          by (inl own) = absurd (none q m own)
          by (inr other) = first.1 q m other

  -- and where none of the others stands either, none does
  pub none_of_both : (others : Rules) → NoRule (also_against_sums s names t no_rules) → NoRule others → NoRule (also_against_sums s names t others)
  none_of_both others none rest q n h = by (in_chain others q n h)
    where
      by : also_against_sums s names t no_rules q n ⊎ others q n → ⊥
      by (inl own) = none q n own
      by (inr other) = rest q n other

  none_above : (k : ℕ) → AreAbove k no_rules
  none_above k q n h = absurd h

  abbrev constant : Rules
  constant = also NotConstant (WhereLoop t s open_bound) no_rules

  abbrev scalar : Rules
  scalar = also NotScalar (WhereLoop t s unsummable) constant

  abbrev range : Rules
  range = also Range (WhereLoop t s far) scalar

  abbrev escape : Rules
  escape = also IndexEscapes (WhereEscape t s) range

  abbrev state : Rules
  state = also ParallelState (WhereLoop t s (is_in_parallel t s)) escape

  abbrev no_sum : Rules
  no_sum = also NotSum (WhereNoSum t s names) no_rules

  constant_above : AreAbove 13 constant
  constant_above = also_above NotConstant (WhereLoop t s open_bound) no_rules 13 (omega arith) (none_above 14)

  scalar_above : AreAbove 9 scalar
  scalar_above = also_above NotScalar (WhereLoop t s unsummable) constant 9 (omega arith) constant_above

  range_above : AreAbove 5 range
  range_above = also_above Range (WhereLoop t s far) scalar 5 (omega arith) scalar_above

  escape_above : AreAbove 3 escape
  escape_above = also_above IndexEscapes (WhereEscape t s) range 3 (omega arith) range_above

  state_above : AreAbove 1 state
  state_above = also_above ParallelState (WhereLoop t s (is_in_parallel t s)) escape 1 (omega arith) escape_above

  no_sum_above : AreAbove 17 no_sum
  no_sum_above = also_above NotSum (WhereNoSum t s names) no_rules 17 (omega arith) (none_above 19)

  -- the rules behind Limit have numbers above 15
  pub behind_above : AreAbove 15 (behind_limit s names t)
  behind_above = also_above AlreadyPrivate (WhereLoop t s private) no_sum 15 (omega arith) no_sum_above

  -- the statement is no DO
  pub no_loop_first : ((h : Head) (body : StmtTrees) → IsLoop t s h body → ⊥) → IsFirstRule (also_against_sums s names t no_rules) NoLoop s
  no_loop_first none = here_first NoLoop (WhereNoLoop t s) state s ((λ l. none l.head l.body l.is), refl) state_above

  -- where the statement is a DO
  module _ (h : Head) (body : StmtTrees) (is : IsLoop t s h body) where
    abbrev loop : LoopOf t s
    loop = record { head = h; body = body; is = is }

    not_no_loop : (n : ℕ) → WhereNoLoop t s n → ⊥
    not_no_loop n p = p.0 loop

    not_where : (test : Head → StmtTrees → Bool) → test h body ≡ false → (n : ℕ) → WhereLoop t s test n → ⊥
    not_where test fails = fails_there t s h body is test fails

    pub state_first : is_in_parallel t s h body ≡ true → IsFirstOf (also_against_sums s names t no_rules) (Some (record { rule = ParallelState; statement = s }))
    state_first holds =
        first_later NoLoop (WhereNoLoop t s) state not_no_loop ParallelState s
        (here_first ParallelState (WhereLoop t s (is_in_parallel t s)) escape s (loop, holds, refl) escape_above)

    pub escape_first : is_in_parallel t s h body ≡ false → (n : ℕ) → WhereEscape t s n → IsFirstOf (also_against_sums s names t no_rules) (Some (record { rule = IndexEscapes; statement = n }))
    escape_first serial n escapes =
        first_later NoLoop (WhereNoLoop t s) state not_no_loop IndexEscapes n
        (first_later ParallelState (WhereLoop t s (is_in_parallel t s)) escape (not_where (is_in_parallel t s) serial) IndexEscapes n
        (here_first IndexEscapes (WhereEscape t s) range n escapes range_above))

    -- what comes first from Range on comes first
    pub ranged : is_in_parallel t s h body ≡ false → ((n : ℕ) → WhereEscape t s n → ⊥) → (found : Option Standing) → IsFirstOf (also_from_range s names t no_rules) found → IsFirstOf (also_against_sums s names t no_rules) found
    ranged serial contained None none =
        none_later NoLoop (WhereNoLoop t s) state not_no_loop
        (none_later ParallelState (WhereLoop t s (is_in_parallel t s)) escape (not_where (is_in_parallel t s) serial)
        (none_later IndexEscapes (WhereEscape t s) range contained none))
    ranged serial contained (Some found) first =
        first_later NoLoop (WhereNoLoop t s) state not_no_loop found.rule found.statement
        (first_later ParallelState (WhereLoop t s (is_in_parallel t s)) escape (not_where (is_in_parallel t s) serial) found.rule found.statement
        (first_later IndexEscapes (WhereEscape t s) range contained found.rule found.statement first))

    pub range_first : far h body ≡ true → IsFirstOf (also_from_range s names t no_rules) (Some (record { rule = Range; statement = s }))
    range_first holds = here_first Range (WhereLoop t s far) scalar s (loop, holds, refl) scalar_above

    pub scalar_first : far h body ≡ false → unsummable h body ≡ true → IsFirstOf (also_from_range s names t no_rules) (Some (record { rule = NotScalar; statement = s }))
    scalar_first near holds =
        first_later Range (WhereLoop t s far) scalar (not_where far near) NotScalar s
        (here_first NotScalar (WhereLoop t s unsummable) constant s (loop, holds, refl) constant_above)

    pub constant_first : far h body ≡ false → unsummable h body ≡ false → open_bound h body ≡ true → IsFirstOf (also_from_range s names t no_rules) (Some (record { rule = NotConstant; statement = s }))
    constant_first near fit holds =
        first_later Range (WhereLoop t s far) scalar (not_where far near) NotConstant s
        (first_later NotScalar (WhereLoop t s unsummable) constant (not_where unsummable fit) NotConstant s
        (here_first NotConstant (WhereLoop t s open_bound) no_rules s (loop, holds, refl) (none_above 14)))

    pub clear : far h body ≡ false → unsummable h body ≡ false → open_bound h body ≡ false → IsFirstOf (also_from_range s names t no_rules) None
    clear near fit bound =
        none_later Range (WhereLoop t s far) scalar (not_where far near)
        (none_later NotScalar (WhereLoop t s unsummable) constant (not_where unsummable fit)
        (none_later NotConstant (WhereLoop t s open_bound) no_rules (not_where open_bound bound) none_at_end))

    pub private_first : private h body ≡ true → IsFirstOf (behind_limit s names t) (Some (record { rule = AlreadyPrivate; statement = s }))
    private_first holds = here_first AlreadyPrivate (WhereLoop t s private) no_sum s (loop, holds, refl) no_sum_above

    pub no_sum_first : private h body ≡ false → (n : ℕ) → WhereNoSum t s names n → IsFirstOf (behind_limit s names t) (Some (record { rule = NotSum; statement = n }))
    no_sum_first fine n p =
        first_later AlreadyPrivate (WhereLoop t s private) no_sum (not_where private fine) NotSum n
        (here_first NotSum (WhereNoSum t s names) no_rules n p (none_above 19))

    -- no statement refers to a name without being a sum of it
    pub no_sum_nowhere : first_beside_sums t s (statements_count body + 1) names ≡ None → (n : ℕ) → WhereNoSum t s names n → ⊥
    no_sum_nowhere none n p =
        let same = (one_loop t s p.0 loop).1 in
        none_some n (sym none ∙ ap (λ (ss : StmtTrees). first_beside_sums t s (statements_count ss + 1) names) (sym same) ∙ p.1)

    pub none_behind : private h body ≡ false → ((n : ℕ) → WhereNoSum t s names n → ⊥) → IsFirstOf (behind_limit s names t) None
    none_behind fine none =
        none_later AlreadyPrivate (WhereLoop t s private) no_sum (not_where private fine)
        (none_later NotSum (WhereNoSum t s names) no_rules none none_at_end)
