-- The sums of a list that is live may be kept apart in what has come of the program by lowering the lists before it: what its rules say of the program holds there, too.
use Rattle.std.proofs.Common.{◌≡◌, ℕ, zero, suc, ◌+◌, ◌-◌, ◌<◌, ◌≤◌, ◌==◌, List, [], ◌∷◌, ◌++◌, length, Bool, true, false, not, ◌&&◌, ◌||◌, Option, Some, None, is_some, if◌then◌else◌, inl, inr, refl, sym, ap, subst, ◌∙◌, arith}
use Rattle.std.specs.Prelude.{nat_lt}
use Rattle.std.specs.List.{list_any, range_with_len}
use Rattle.std.proofs.lemmas.Bool.{both_ways, and_parts, or_parts, ltb-true, not-false, or_right}
use Rattle.ped_base.specs.Lists.{is_same_text, is_among}
use Rattle.ped_base.proofs.NameEquality.{same_is}
use Rattle.ped_tree.proofs.NameLaws.Collected.{among_append}
use Rattle.ped_tree.specs.Accesses.{constant_names}
use Rattle.ped_tree.specs.NamesIn.{head_names, all_loop_variables, private_names_in, all_private_names_in, stmts_names}
use Rattle.ped_tree.specs.Nests.{Loop, indices_of}
use Rattle.ped_tree.specs.Numbering.{numbered, all_numbered, at_place, statements_count, statement_with}
use Rattle.ped_tree.proofs.Numbers.{length-all_numbered}
use Rattle.ped_tree.specs.Tree.{ExprTree, Int, Var, Element, Neg, Add, Sub, Mul, Div, Pow, Call, Head, StmtTree, StmtTrees, Assign, If, Do, Print, Read, Stop, Comment, ProgramTree}
use Rattle.ped_rules.specs.ped_affine.specs.Assigned.{assigned_in_all}
use Rattle.ped_rules.specs.ped_affine.specs.PairViews.{heads_of}
use Rattle.ped_refs.specs.References.{Reference, statements_references, references}
use Rattle.ped_rules.specs.ped_symbolic.specs.Substitution as substitution
use Rattle.ped_rules.specs.ped_symbols.specs.Kinds.{kind_in, names_of, table_of}
use Rattle.ped_rules.specs.ped_symbols.specs.NameRefusals.{IsValid, has_twice}
use Rattle.ped_rules.specs.ped_symbols.specs.RightUses.RightUses.{is_scalar, expr_is_right, target_is_right, head_is_right, stmts_are_right}
use Rattle.ped_rules.specs.ped_flow.specs.PlainBounds.{all_loops_round, nest_round}
use Rattle.ped_rules.specs.ped_flow.specs.Questions.{LoopOf, IsContained}
use Rattle.ped_rules.specs.ped_flow.proofs.Truths.{untrue, or_split}
use Rattle.ped_rules.specs.ped_laws.specs.Acts.Orders.{IsIn}
use Rattle.ped_rules.specs.ped_laws.proofs.FlowRunLaws.Standing.{Stand, whole_stands, first_stands, inner_stands, is_there}
use Rattle.ped_rules.specs.ped_steps.specs.Replacing.{alone}
use Rattle.ped_rules.specs.ped_steps.specs.declared.rules.Rule.TheVariants.{ParallelState, IndexEscapes, NotScalar, AlreadyPrivate}
use Rattle.ped_rules.specs.ped_steps.proofs.RunLaws.ProgramParts.{part_at}
use Rattle.ped_rules.specs.ped_steps.proofs.RunLaws.ScalarNames.{scalar_named}
use Rattle.ped_rules.specs.ped_steps.proofs.RunLaws.SparedVariables.{IsUnassigned, variables_unassigned}
use Rattle.ped_rules.specs.ped_loop_runs.proofs.TidyLaws.TidyReferencesGaps.{all_at}
use Rattle.ped_rules.specs.Spans.{Span, span_of, spans_far}
use Rattle.ped_rules.proofs.OneLoop.{one_loop}
use Rattle.ped_rules.specs.Scalars as scalars
use Rattle.ped_rules.specs.Scalars.{is_in_parallel}
use Rattle.ped_rules.specs.Scalars.{is_private_near}
use Rattle.ped_rules.proofs.HeadLaws.Contained.{contained}
use Rattle.ped_rules.proofs.NameLaws.UnnamedCells.{unnamed_statements}
use Rattle.ped_reduce.specs.Lists.{list_of, without_list}
use Rattle.ped_reduce.specs.Sums.{sum_of, sum_to}
use Rattle.ped_reduce.specs.Lowering.{Partials, and_then, near_only, fresh_arrays, Lowered, not_lowered, lowered_at}
use Rattle.ped_reduce.specs.Reducing.{is_unsummable, has_unsummable, has_private_or_twice, sum_at, IsLive, Lowers}
use Rattle.ped_reduce.proofs.LoopsRoundGaps.{gap_loops, gap_nest, gap_stands}
use Rattle.ped_reduce.proofs.LoweredPrograms.{IsMadeBy, made_by}
use Rattle.ped_reduce.proofs.Resembling.{scalars_of, IsSummable}
use Rattle.ped_reduce.proofs.SumShapes.{scalar_among}
use Rattle.ped_reduce.proofs.LoweredStages.{IsStage, IsPlace, IsResembling, lowered_place, lowered_resembles, first_least}
use Rattle.ped_reduce.proofs.ReferencesInGaps.{loop, from_number, to_number}
use Rattle.ped_reduce.proofs.ResemblingReferences.{gap_heads, scalar_names, in_sum, of_program}
use Rattle.ped_reduce.proofs.ResemblingSettings.{gap_has}
use Rattle.ped_reduce.proofs.StillContained.{stage_loop, still_contained}
use Rattle.ped_reduce.proofs.DistinctArrays.{AreArrays, arrays_left, arrays_differ, left_named, left_unused, are_arrays, have_arrays, array_from}
use Rattle.ped_reduce.proofs.SumStores.{is_array_of, is_array}
use Rattle.ped_reduce.proofs.SumBodies.{AreClear}
use Rattle.ped_reduce.proofs.SumClear.{more_outside, clear_all, without_clear}
use Rattle.ped_reduce.proofs.SumKeeps.{in_whole}
use Rattle.ped_reduce.proofs.SumApart.{none_outer, none_near, found}
use Rattle.ped_reduce.proofs.SumGoals.{kept_apart, MayKeepApart, LiveMayKeepApart}

false_or : (b : Bool) → (b ≡ true → ⊥) → b ≡ false
false_or true h = absurd (h refl)
false_or false h = refl

one_partials : (a b : List Partials) → Some a ≡ Some b → a ≡ b
one_partials a b e = cc

one_span : (a b : Span) → Some a ≡ Some b → a ≡ b
one_span a b e = cc

-- values that literals have
near_of : (o : Option Span) (v : Span) → near_only o ≡ Some v → (o ≡ Some v) × (spans_far v ≡ false)
near_of None v e = absurd cc
near_of (Some w) v e = by (spans_far w) refl e
  where
    by : (b : Bool) → spans_far w ≡ b → (if b then None else Some w) ≡ Some v → (Some w ≡ Some v) × (spans_far v ≡ false)
    by true f k = absurd cc
    by false f k = (k, ap spans_far (sym (one_span w v k)) ∙ f)

-- what none of the names is, one of them isn't
none_among : (f : List ℕ → Bool) (names : List (List ℕ)) (x : List ℕ) → list_any f names ≡ false → is_among x names ≡ true → f x ≡ false
none_among f [] x h e = untrue e
none_among f (y ∷ ys) x h e =
    let p = or_parts (f y) (list_any f ys) h in
    elim (or_split (is_same_text x y) (is_among x ys) e) [ inl k ↦ ap f (same_is x y k) ∙ p.0 | inr k ↦ none_among f ys x p.1 k ]

-- what is asked of DO loops by their heads
any_heads : (f : Head → Bool) (ls : List Loop) → list_any (λ (m : Loop). f m.head) ls ≡ list_any f (heads_of ls)
any_heads f [] = refl
any_heads f (l ∷ ls) = ap (λ (b : Bool). f l.head || b) (any_heads f ls)

-- the same statements stand in two programs
same_place : (t u : ProgramTree) (xs : List StmtTree) (n m i : ℕ) → Stand t n xs → Stand u m xs → i < length xs → statement_with (n + i) t ≡ statement_with (m + i) u
same_place t u [] n m i st su h = absurd (omega (arith, h))
same_place t u (x ∷ xs) n m zero st su h =
    let a : n + 0 ≡ n = omega arith in
    let b : m + 0 ≡ m = omega arith in
    ap (λ (j : ℕ). statement_with j t) a ∙ is_there t x xs n st ∙ sym (is_there u x xs m su) ∙ ap (λ (j : ℕ). statement_with j u) (sym b)
same_place t u (x ∷ xs) n m (suc i) st su h =
    let a : n + suc i ≡ n + 1 + i = omega arith in
    let b : m + 1 + i ≡ m + suc i = omega arith in
    ap (λ (j : ℕ). statement_with j t) a ∙ same_place t u xs (n + 1) (m + 1) i (inner_stands t x xs n st) (inner_stands u x xs m su) (omega (arith, h)) ∙ ap (λ (j : ℕ). statement_with j u) b

-- a statement that is a sum of a scalar assigns it
record IsAssigned (x : List ℕ) (s : StmtTree) : Type 0 where
  right : ExprTree
  is : s ≡ Assign (Var x) right

left_is : (x : List ℕ) (e : ExprTree) → substitution.is_scalar x e ≡ true → e ≡ Var x
left_is x (Var y) h = ap Var (sym (same_is x y h))
left_is x (Int n) h = untrue h
left_is x (Element y es) h = untrue h
left_is x (Neg a) h = untrue h
left_is x (Add a b) h = untrue h
left_is x (Sub a b) h = untrue h
left_is x (Mul a b) h = untrue h
left_is x (Div a b) h = untrue h
left_is x (Pow a b) h = untrue h
left_is x (Call f es) h = untrue h

assigned_by_sum : (x : List ℕ) (s : StmtTree) → is_some (sum_to x s) ≡ true → IsAssigned x s
assigned_by_sum x (Assign left right) h = by (substitution.is_scalar x left) refl h
  where
    by : (b : Bool) → substitution.is_scalar x left ≡ b → is_some (if b then sum_of x right else None) ≡ true → IsAssigned x (Assign left right)
    by true e k = record { right = right; is = ap (λ (z : ExprTree). Assign z right) (left_is x left e) }
    by false e k = untrue k
assigned_by_sum x (If c a b) h = untrue h
assigned_by_sum x (Do g body) h = untrue h
assigned_by_sum x (Print items) h = untrue h
assigned_by_sum x (Read items) h = untrue h
assigned_by_sum x Stop h = untrue h
assigned_by_sum x (Comment text) h = untrue h

record IsSumThere (t : ProgramTree) (n : ℕ) (x : List ℕ) : Type 0 where
  statement : StmtTree
  stands : statement_with n t ≡ Some statement
  sums : is_some (sum_to x statement) ≡ true

sum_there : (t : ProgramTree) (n : ℕ) (x : List ℕ) → is_some (sum_at t x n) ≡ true → IsSumThere t n x
sum_there t n x h = by (statement_with n t) refl h
  where
    by : (o : Option StmtTree) → statement_with n t ≡ o → is_some (and_then o (sum_to x)) ≡ true → IsSumThere t n x
    by None e k = untrue k
    by (Some s) e k = record { statement = s; stands = e; sums = k }

-- a statement in a DO, which is one of so many, is a sum of the scalar
record IsSumIn (t : ProgramTree) (s count : ℕ) (x : List ℕ) : Type 0 where
  place : ℕ
  inside : place < count + 1
  right : ExprTree
  stands : statement_with (s + place) t ≡ Some (Assign (Var x) right)

module _ (t : ProgramTree) (s : ℕ) (p q w : Lowered) (valid : IsValid t) (stage_valid : IsValid p.tree) (lowers : Lowers t (range_with_len 1 (s - 1)) (not_lowered t) p) (live : IsLive t s p q) (makes : lowered_at false p s (list_of live.loop.body) ≡ Some w) where
  abbrev h : Head
  h = live.loop.head

  abbrev body : StmtTrees
  body = live.loop.body

  abbrev names : List (List ℕ)
  names = list_of live.loop.body

  abbrev k : ℕ
  k = s + p.more

  both : IsStage t p × IsPlace t s live.loop false p w
  both = lowered_place t s p q w false lowers live makes

  stage : IsStage t p
  stage = both.0

  place : IsPlace t s live.loop false p w
  place = both.1

  abbrev here : LoopOf p.tree (s + p.more)
  here = stage_loop t s live.loop false p w stage place

  -- how it is lowered
  made_new : IsMadeBy false p s (list_of live.loop.body) w
  made_new = made_by false p s (list_of live.loop.body) w makes

  made_live : IsMadeBy true p s (list_of live.loop.body) q
  made_live = made_by true p s (list_of live.loop.body) q live.makes

  abbrev ps : List Partials
  ps = made_new.partials

  abbrev v : Span
  v = made_new.span

  head_is : made_new.head ≡ live.loop.head
  head_is = (one_loop p.tree (s + p.more) (record { head = made_new.head; body = made_new.body; is = made_new.is }) here).0

  live_head_is : made_live.head ≡ live.loop.head
  live_head_is = (one_loop p.tree (s + p.more) (record { head = made_live.head; body = made_live.body; is = made_live.is }) here).0

  same_partials : made_live.partials ≡ made_new.partials
  same_partials = one_partials made_live.partials made_new.partials (sym made_live.arrays ∙ made_new.arrays)

  near : (span_of (table_of p.tree).constants live.loop.head ≡ Some made_new.span) × (spans_far made_new.span ≡ false)
  near = near_of (span_of (table_of p.tree).constants live.loop.head) made_new.span (ap (λ (g : Head). near_only (span_of (table_of p.tree).constants g)) (sym head_is) ∙ made_new.spans)

  live_near : span_of (table_of p.tree).constants live.loop.head ≡ Some made_live.span
  live_near = (near_of (span_of (table_of p.tree).constants live.loop.head) made_live.span (ap (λ (g : Head). near_only (span_of (table_of p.tree).constants g)) (sym live_head_is) ∙ made_live.spans)).0

  same_span : made_live.span ≡ made_new.span
  same_span = one_span made_live.span made_new.span (sym live_near ∙ near.0)

  summable : IsSummable t s made_new.partials live.loop.head live.loop.body
  summable = subst (λ (z : List Partials). IsSummable t s z live.loop.head live.loop.body) (one_partials place.partials made_new.partials (sym place.arrays ∙ made_new.arrays)) place.summable

  -- what its rules say
  in_order_old : is_in_parallel t s live.loop.head live.loop.body ≡ false
  in_order_old = false_or (is_in_parallel t s live.loop.head live.loop.body) (λ e. live.free.0 ParallelState s (inr (inl (refl, (live.loop, e, refl)))))

  unsummable : has_unsummable t s (list_of live.loop.body) live.loop.head live.loop.body ≡ false
  unsummable = false_or (has_unsummable t s (list_of live.loop.body) live.loop.head live.loop.body) (λ e. live.free.0 NotScalar s (inr (inr (inr (inr (inl (refl, (live.loop, e, refl))))))))

  unshared : (list_any (is_private_near t s live.loop.head live.loop.body) (list_of live.loop.body) ≡ false) × (has_twice (list_of live.loop.body) ≡ false)
  unshared = or_parts (list_any (is_private_near t s live.loop.head live.loop.body) (list_of live.loop.body)) (has_twice (list_of live.loop.body))
      (false_or (has_private_or_twice t s (list_of live.loop.body) live.loop.head live.loop.body) (λ e. live.free.0 AlreadyPrivate s (inr (inr (inr (inr (inr (inr (inl (refl, (live.loop, e, refl)))))))))))

  -- the arrays
  arrays : AreArrays (list_of live.loop.body) (fresh_arrays p.tree) made_new.partials
  arrays = are_arrays (list_of live.loop.body) (fresh_arrays p.tree) made_new.partials (arrays_differ p.tree) unshared.1 made_new.arrays

  fresh : (o : Partials) (x : List ℕ) → IsIn o made_new.partials → is_array_of o x ≡ true → is_among x (names_of p.tree) ≡ false
  fresh o x i e = left_unused p.tree x (arrays_left p.tree x (array_from (fresh_arrays p.tree) o x (arrays.from o i) e))

  unused : (y : List ℕ) → is_array made_new.partials y ≡ true → is_among y (stmts_names live.loop.body) ≡ false
  unused y e =
      let o = found (λ (o : Partials). is_array_of o y) made_new.partials e in
      let absent = unnamed_statements p.tree y (fresh o.0 y o.1 o.2) in
      false_or (is_among y (stmts_names live.loop.body)) (λ there. both_ways (is_among y (stmts_names p.tree.body)) absent (
      ap (λ (ts : StmtTrees). is_among y (stmts_names ts)) place.old
      ∙ in_whole y (Do live.loop.head live.loop.body) place.other (among_append y (head_names live.loop.head) (stmts_names live.loop.body) ∙ or_right (is_among y (head_names live.loop.head)) (is_among y (stmts_names live.loop.body)) there)
      ))

  -- the DO loops round it have the heads that they had
  round_same : (f : Head → Bool) → list_any (λ (m : Loop). f m.head) (nest_round p.tree (s + p.more)) ≡ list_any (λ (m : Loop). f m.head) (nest_round t s)
  round_same f =
      let new_round : nest_round p.tree (s + p.more) ≡ gap_loops place.other 1 =
      ap (λ (ts : StmtTrees). all_loops_round (s + p.more) ts 1) place.old ∙ gap_nest (s + p.more) (alone (Do live.loop.head live.loop.body)) (omega arith) place.other 1 place.number in
      let old_round : nest_round t s ≡ gap_loops place.gap 1 =
      ap (λ (ts : StmtTrees). all_loops_round s ts 1) place.stands ∙ gap_nest s (alone (Do live.loop.head live.loop.body)) (omega arith) place.gap 1 place.at in
      any_heads f (nest_round p.tree (s + p.more)) ∙ ap (λ (ls : List Loop). list_any f (heads_of ls)) new_round ∙ ap (list_any f) (gap_heads t p.live place.gap 1 1 place.other place.alike)
      ∙ ap (λ (ls : List Loop). list_any f (heads_of ls)) (sym old_round) ∙ sym (any_heads f (nest_round t s))

  in_order : is_in_parallel p.tree (s + p.more) live.loop.head live.loop.body ≡ false
  in_order = ap (λ (b : Bool). live.loop.head.parallel || b) (round_same (λ g. g.parallel)) ∙ in_order_old

  is_contained : IsContained p.tree (s + p.more)
  is_contained = still_contained t s live.loop false p w stage place (contained t s live.loop (λ n e. live.free.0 IndexEscapes n (inr (inr (inl (refl, e))))))

  -- where its statements stand
  old_stands : Stand t s (numbered (Do live.loop.head live.loop.body))
  old_stands =
      first_stands t s (numbered (Do live.loop.head live.loop.body)) []
      (subst (λ (n : ℕ). Stand t n (all_numbered (alone (Do live.loop.head live.loop.body)))) place.at
      (gap_stands t place.gap (alone (Do live.loop.head live.loop.body)) 1 (subst (λ (ts : StmtTrees). Stand t 1 (all_numbered ts)) place.stands (whole_stands t))))

  new_stands : Stand p.tree (s + p.more) (numbered (Do live.loop.head live.loop.body))
  new_stands =
      first_stands p.tree (s + p.more) (numbered (Do live.loop.head live.loop.body)) []
      (subst (λ (n : ℕ). Stand p.tree n (all_numbered (alone (Do live.loop.head live.loop.body)))) place.number
      (gap_stands p.tree place.other (alone (Do live.loop.head live.loop.body)) 1 (subst (λ (ts : StmtTrees). Stand p.tree 1 (all_numbered ts)) place.old (whole_stands p.tree))))

  -- the scalars
  module _ (x : List ℕ) (among : is_among x (scalars_of made_new.partials) ≡ true) where
    listed : is_among x (list_of live.loop.body) ≡ true
    listed = ap (is_among x) (sym summable.scalars) ∙ among

    own_rule : ((not (scalars.is_scalar t x) || is_among x (all_loop_variables t.body)) ≡ false) × (not (scalars.is_referred t s live.loop.body x) ≡ false)
    own_rule =
        or_parts (not (scalars.is_scalar t x) || is_among x (all_loop_variables t.body)) (not (scalars.is_referred t s live.loop.body x))
        (none_among (is_unsummable t s live.loop.body) (list_of live.loop.body) x unsummable listed)

    no_loop_old : is_among x (all_loop_variables t.body) ≡ false
    no_loop_old = (or_parts (not (scalars.is_scalar t x)) (is_among x (all_loop_variables t.body)) own_rule.0).1

    no_loop : is_among x (all_loop_variables p.tree.body) ≡ false
    no_loop =
        ap (λ (ts : StmtTrees). is_among x (all_loop_variables ts)) place.old
        ∙ gap_has x t p.live (alone (Do live.loop.head live.loop.body)) (alone (Do live.loop.head live.loop.body)) refl place.gap 1 place.other place.alike
        ∙ ap (λ (ts : StmtTrees). is_among x (all_loop_variables ts)) (sym place.stands) ∙ no_loop_old

    shared_old : is_private_near t s live.loop.head live.loop.body x ≡ false
    shared_old = none_among (is_private_near t s live.loop.head live.loop.body) (list_of live.loop.body) x unshared.0 listed

    shared : is_private_near p.tree (s + p.more) live.loop.head live.loop.body x ≡ false
    shared = ap (λ (b : Bool). is_among x (private_names_in (Do live.loop.head live.loop.body)) || b) (round_same (λ g. is_among x g.private)) ∙ shared_old

    -- a reference to it stands in a sum of it in the DO
    sum_by : (r : Reference) → IsIn r (references t) → scalars.is_reference_in s (statements_count live.loop.body + 1) x r ≡ true → IsSumIn t s (statements_count live.loop.body) x
    sum_by r i refers =
        let first = and_parts (nat_lt s r.statement && nat_lt r.statement (s + (statements_count live.loop.body + 1))) (is_same_text x r.access.name) refers in
        let bounds = and_parts (nat_lt s r.statement) (nat_lt r.statement (s + (statements_count live.loop.body + 1))) first.0 in
        let from : s < r.statement = ltb-true s r.statement bounds.0 in
        let to : r.statement < s + (statements_count live.loop.body + 1) = ltb-true r.statement (s + (statements_count live.loop.body + 1)) bounds.1 in
        let name : x ≡ r.access.name = same_is x r.access.name first.1 in
        let summed = in_sum t s made_new.partials live.loop.head live.loop.body summable r i from (omega (arith, to)) (ap (λ (z : List ℕ). is_among z (scalars_of made_new.partials)) (sym name) ∙ among) in
        let is : s + (r.statement - s) ≡ r.statement = omega (arith, from) in
        sum_in_by r.statement (r.statement - s) is (omega (arith, from, to)) (sum_there t r.statement x (ap (λ (z : List ℕ). is_some (sum_at t z r.statement)) name ∙ summed))
      where
        sum_in_by : (n j : ℕ) → s + j ≡ n → j < statements_count live.loop.body + 1 → IsSumThere t n x → IsSumIn t s (statements_count live.loop.body) x
        sum_in_by n j is less there =
            let assigned = assigned_by_sum x there.statement there.sums in
            record { place = j; inside = less; right = assigned.right; stands = ap (λ (k : ℕ). statement_with k t) is ∙ there.stands ∙ ap (λ (z : StmtTree). Some z) assigned.is }

    sum_in : IsSumIn t s (statements_count live.loop.body) x
    sum_in =
        let r = found (scalars.is_reference_in s (statements_count live.loop.body + 1) x) (references t) (not-false (scalars.is_referred t s live.loop.body x) own_rule.1) in
        sum_by r.0 r.1 r.2

    -- so one stands in the DO of the other program, which is right, too
    scalar_there : is_scalar (kind_in p.tree) x ≡ true
    scalar_there = right_by sum_in
      where
        length_numbered : (g : Head) (ts : StmtTrees) → length (numbered (Do g ts)) ≡ statements_count ts + 1
        length_numbered g ts = let e = length-all_numbered ts in omega (arith, e)

        right_by : IsSumIn t s (statements_count live.loop.body) x → is_scalar (kind_in p.tree) x ≡ true
        right_by m =
            let long = length_numbered live.loop.head live.loop.body in
            let less = m.inside in
            let same = same_place t p.tree (numbered (Do live.loop.head live.loop.body)) s (s + p.more) m.place old_stands new_stands (omega (arith, long, less)) in
            let part = part_at p.tree stage_valid (s + p.more + m.place) (Assign (Var x) m.right) (sym same ∙ m.stands) in
            (and_parts (target_is_right (kind_in p.tree) (Var x)) (expr_is_right (kind_in p.tree) m.right) part.right).0

    outside : is_among x (indices_of (nest_round t s ++ loop s live.loop.head ∷ [])) ≡ false
    outside =
        let near_it = or_parts (is_same_text x live.loop.head.variable) (is_among x (all_loop_variables live.loop.body)) (none_near t s live.loop x no_loop_old) in
        more_outside x (nest_round t s) s live.loop.head (none_outer t s live.loop x no_loop_old) near_it.0

    inner : is_among x (all_loop_variables live.loop.body) ≡ false
    inner = (or_parts (is_same_text x live.loop.head.variable) (is_among x (all_loop_variables live.loop.body)) (none_near t s live.loop x no_loop_old)).1

    private : is_among x (all_private_names_in live.loop.body) ≡ false
    private =
        let own = (or_parts (is_among x (private_names_in (Do live.loop.head live.loop.body))) (list_any (λ (m : Loop). is_among x m.head.private) (nest_round t s)) shared_old).0 in
        (or_parts (is_among x live.loop.head.private) (is_among x (all_private_names_in live.loop.body)) (sym (among_append x live.loop.head.private (all_private_names_in live.loop.body)) ∙ own)).1

    unnamed : is_among x (constant_names t.decls) ≡ false
    unnamed = scalar_named t x valid (scalar_names t s made_new.partials live.loop.head live.loop.body summable x among)

  -- the body
  unassigned : is_among live.loop.head.variable (assigned_in_all live.loop.body) ≡ false
  unassigned = (all_at (IsUnassigned t (kind_in t)) live.loop.head live.loop.body t.body 1 (s - 1) s (omega (arith, some)) there (variables_unassigned t valid)).1
    where
      some : 1 ≤ s
      some = first_least t s live.loop

      there : at_place (all_numbered t.body) (s - 1) ≡ Some (Do live.loop.head live.loop.body)
      there = place_of (s == 0) refl live.loop.is
        where
          place_of : (b : Bool) → (s == 0) ≡ b → (if b then None else at_place (all_numbered t.body) (s - 1)) ≡ Some (Do live.loop.head live.loop.body) → at_place (all_numbered t.body) (s - 1) ≡ Some (Do live.loop.head live.loop.body)
          place_of true e g = absurd cc
          place_of false e g = g

  resembling : IsResembling t s live.loop w.tree (s + p.more)
  resembling = (lowered_resembles t s p q w lowers live makes).0

  sums : (r : Reference) → IsIn r (statements_references (constant_names t.decls) (nest_round t s ++ loop s live.loop.head ∷ []) (s + 1) live.loop.body) → is_among r.access.name (scalars_of made_new.partials) ≡ true
      → is_some (and_then (statement_with r.statement t) (sum_to r.access.name)) ≡ true
  sums r i among =
      let nest = nest_round t s ++ loop s live.loop.head ∷ [] in
      let from = from_number (constant_names t.decls) nest (s + 1) live.loop.body r i in
      let to = to_number (constant_names t.decls) nest (s + 1) live.loop.body r i in
      in_sum t s made_new.partials live.loop.head live.loop.body summable r (of_program t w.tree s (s + p.more) live.loop resembling valid r i) (omega (arith, from)) (omega (arith, to)) among

  clear : AreClear made_new.partials live.loop.head.variable (without_list live.loop.body)
  clear =
      let part = part_at t valid s (Do live.loop.head live.loop.body) live.loop.is in
      without_clear made_new.partials live.loop.head.variable live.loop.body
      (clear_all made_new.partials t (kind_in t) (constant_names t.decls) live.loop.head.variable (scalar_names t s made_new.partials live.loop.head live.loop.body summable) unnamed
      (nest_round t s ++ loop s live.loop.head ∷ []) (s + 1) live.loop.body (inner_stands t (Do live.loop.head live.loop.body) (all_numbered live.loop.body) s old_stands) outside
      (and_parts (head_is_right (kind_in t) live.loop.head) (stmts_are_right (kind_in t) live.loop.body) part.right).1 sums unused inner private unassigned)

  may : MayKeepApart p.tree (s + p.more) here made_new.partials made_new.span
  may = record {
    valid = stage_valid;
    in_order = in_order;
    contained = is_contained;
    spans = near.0;
    near = near.1;
    scalar = λ o i. scalar_there o.scalar (scalar_among o made_new.partials i);
    no_loop = λ o i. no_loop o.scalar (scalar_among o made_new.partials i);
    shared = λ o i. shared o.scalar (scalar_among o made_new.partials i);
    clear = clear;
    arrays = have_arrays (list_of live.loop.body) (fresh_arrays p.tree) made_new.partials arrays;
    distinct = arrays.distinct;
    name = λ o x i e. left_named p.tree x (arrays_left p.tree x (array_from (fresh_arrays p.tree) o x (arrays.from o i) e));
    fresh = fresh;
  }

  new_is : w.tree ≡ kept_apart false p.tree (s + p.more) made_new.partials made_new.span
  new_is = ap (λ (z : Lowered). z.tree) made_new.made

  live_is : q.tree ≡ kept_apart true p.tree (s + p.more) made_new.partials made_new.span
  live_is = ap (λ (z : Lowered). z.tree) made_live.made ∙ (λ i. kept_apart true p.tree (s + p.more) (same_partials i) (same_span i))

-- so it may
pub live_may_keep_apart : LiveMayKeepApart
live_may_keep_apart t s p q w valid stage_valid lowers live makes = (
  here t s p q w valid stage_valid lowers live makes,
  ps t s p q w valid stage_valid lowers live makes,
  v t s p q w valid stage_valid lowers live makes,
  may t s p q w valid stage_valid lowers live makes,
  new_is t s p q w valid stage_valid lowers live makes,
  live_is t s p q w valid stage_valid lowers live makes,
)
