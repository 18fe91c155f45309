-- What statements assign stays where DO loops in them are lowered, but for the names of the arrays; and what a lowered DO assigns, but for the scalars.
use Rattle.std.proofs.Common.{◌≡◌, ◌⊎◌, ℕ, ◌+◌, ◌-◌, ◌≤◌, ◌<◌, ◌==◌, List, [], ◌∷◌, ◌++◌, length, Bool, true, false, not, ◌&&◌, ◌||◌, Option, Some, None, is_some, if◌then◌else◌, refl, sym, ap, subst, ◌∙◌, inl, inr, arith, eqb-true, append-nil, append_assoc}
use Rattle.std.specs.Prelude.{nat_lt}
use Rattle.std.specs.List.{list_any}
use Rattle.std.proofs.lemmas.Bool.{and_parts, both_ways, ltb-true, or_left, or_right}
use Rattle.ped_base.specs.Lists.{is_same_text, is_among}
use Rattle.ped_base.proofs.NameEquality.{same_itself, same_is}
use Rattle.ped_tree.proofs.NameLaws.Collected.{among_append}
use Rattle.ped_tree.proofs.Numbers.{at_place-back, length-all_numbered}
use Rattle.ped_tree.specs.Tree.{ExprTree, Var, Head, StmtTree, StmtTrees, Assign, If, Do, Print, Read, Stop, Comment, no_stmts, more_stmts, ProgramTree}
use Rattle.ped_tree.specs.NamesIn.{stmts_names}
use Rattle.ped_tree.specs.Numbering.{numbered, all_numbered, at_place, statement_with, statement_count, statements_count}
use Rattle.ped_refs.specs.References.{Reference, references}
use Rattle.ped_rules.specs.ped_affine.specs.Assigned.{assigned_left, assigned_in, assigned_in_all}
use Rattle.ped_rules.specs.ped_flow.proofs.Truths.{untrue, or_none, or_split}
use Rattle.ped_rules.specs.ped_flow.proofs.Answering.{at_place-within}
use Rattle.ped_rules.specs.ped_steps.specs.declared.rules.Rule.TheVariants.{NotScalar}
use Rattle.ped_rules.specs.ped_steps.specs.Replacing.{followed, alone, all_replaced}
use Rattle.ped_rules.specs.ped_steps.specs.Runs.Gaps.{Gap, at_front, past, in_then, in_else, in_body, filled}
use Rattle.ped_rules.specs.ped_steps.proofs.RunLaws.ReplacedTrees.{HasGap, program_gap}
use Rattle.ped_rules.specs.ped_laws.specs.Acts.Orders.{IsIn}
use Rattle.ped_rules.specs.ped_laws.proofs.ActLaws.Lists.{in_parts}
use Rattle.ped_rules.specs.ped_laws.proofs.FlowRunLaws.Standing.{Stand, whole_stands, first_stands, inner_stands}
use Rattle.ped_rules.specs.Scalars.{is_reference_in, is_referred}
use Rattle.ped_rules.specs.Scalars as scalars
use Rattle.ped_tree.specs.NamesIn.{all_loop_variables}
use Rattle.ped_reduce.specs.Lists.{list_of, listed_name, unless_named, without_list}
use Rattle.ped_reduce.specs.Sums.{Sum, sum_to}
use Rattle.ped_reduce.specs.Lowering.{Partials, and_then, zeros, added_apart, sum_apart, summed, all_summed, exits, bare, lowered_loop}
use Rattle.ped_reduce.specs.Reducing.{is_unsummable, sum_at}
use Rattle.ped_reduce.proofs.Resembling.{arrays_of, scalars_of, IsSummable, Becomes, AllBecome, GapBecomes, filled_pasts}
use Rattle.ped_reduce.proofs.LoopsRoundGaps.{gap_stands}
use Rattle.ped_reduce.proofs.SumShapes.{IsApart, IsBare, apart_or_bare, arrays_among, scalar_among, sum_is}
use Rattle.ped_reduce.proofs.ResemblingReferences.{in_sum}

false_or : (b : Bool) → (b ≡ true → ⊥) → b ≡ false
false_or true h = absurd (h refl)
false_or false h = refl

-- a statement of a list, by its place there
placed_in : (xs : List StmtTree) (k : ℕ) (s : StmtTree) → at_place xs k ≡ Some s → IsIn s xs
placed_in [] k s e = absurd cc
placed_in (x ∷ xs) k s e = by (k == 0) e (placed_in xs (k - 1) s)
  where
    one : (a b : StmtTree) → Some a ≡ Some b → a ≡ b
    one a b q = cc

    by : (b : Bool) → (if b then Some x else at_place xs (k - 1)) ≡ Some s → (at_place xs (k - 1) ≡ Some s → IsIn s xs) → IsIn s (x ∷ xs)
    by true q more = inl (sym (one x s q))
    by false q more = inr (more q)

-- a statement with a number inside statements that stand there is one of these
module _ (t : ProgramTree) (n : ℕ) (xs : List StmtTree) (stand : Stand t n xs) (j : ℕ) (from : n ≤ j) (to : j < n + length xs) where
  found_inside : (s : StmtTree) → statement_with j t ≡ Some s → IsIn s xs
  found_inside s e =
      let front = stand.front in
      let at = stand.number in
      let place : (j - n) + length front ≡ j - 1 = omega (arith, from, at) in
      let none : (j == 0) ≡ false = grind (arith, from, at, eqb-true) in
      let whole : at_place (all_numbered t.body) (j - 1) ≡ Some s = sym (ap (λ (b : Bool). if b then None else at_place (all_numbered t.body) (j - 1)) none) ∙ e in
      placed_in xs (j - n) s
      (sym (at_place-within xs stand.back (j - n) (omega (arith, from, to))) ∙ sym (at_place-back front (xs ++ stand.back) (j - 1) (j - n) place) ∙ ap (λ (ys : List StmtTree). at_place ys (j - 1)) (sym stand.whole) ∙ whole)

module _ (y : List ℕ) where
  -- the statements assign the name
  abbrev pub has : StmtTrees → Bool
  has ss = is_among y (assigned_in_all ss)

  all_of : (a b : StmtTrees) → assigned_in_all (followed a b) ≡ assigned_in_all a ++ assigned_in_all b
  all_of no_stmts b = refl
  all_of (more_stmts s a) b = ap (λ (z : List (List ℕ)). assigned_in s ++ z) (all_of a b) ∙ sym (append_assoc (assigned_in s) (assigned_in_all a) (assigned_in_all b))

  followed_has : (a b : StmtTrees) → has (followed a b) ≡ (has a || has b)
  followed_has a b = ap (is_among y) (all_of a b) ∙ among_append y (assigned_in_all a) (assigned_in_all b)

  pub alone_has : (s : StmtTree) → has (alone s) ≡ is_among y (assigned_in s)
  alone_has s = ap (is_among y) (append-nil (assigned_in s))

  -- an assignment among statements assigns its variable
  mutual
    one_assigns : (s : StmtTree) (right : ExprTree) → IsIn (Assign (Var y) right) (numbered s) → is_among y (assigned_in s) ≡ true
    one_assigns (Assign left right) e i = elim i [ inl q ↦ ap (λ (z : StmtTree). is_among y (assigned_in z)) (sym q) ∙ or_left (is_same_text y y) false (same_itself y) | inr w ↦ absurd w ]
    one_assigns (If c a b) e i = elim i [
      | inl q ↦ absurd cc
      | inr w ↦ elim (in_parts (Assign (Var y) e) (all_numbered a) (all_numbered b) w) [
        | inl j ↦ among_append y (assigned_in_all a) (assigned_in_all b) ∙ or_left (has a) (has b) (all_assign a e j)
        | inr j ↦ among_append y (assigned_in_all a) (assigned_in_all b) ∙ or_right (has a) (has b) (all_assign b e j)
      ]
    ]
    one_assigns (Do h body) e i = elim i [
      | inl q ↦ absurd cc
      | inr w ↦ or_right (is_same_text y h.variable) (is_among y (h.private ++ assigned_in_all body)) (among_append y h.private (assigned_in_all body) ∙ or_right (is_among y h.private) (has body) (all_assign body e w))
    ]
    one_assigns (Print items) e i = elim i [ inl q ↦ absurd cc | inr w ↦ absurd w ]
    one_assigns (Read items) e i = elim i [ inl q ↦ absurd cc | inr w ↦ absurd w ]
    one_assigns Stop e i = elim i [ inl q ↦ absurd cc | inr w ↦ absurd w ]
    one_assigns (Comment text) e i = absurd i

    all_assign : (ss : StmtTrees) (right : ExprTree) → IsIn (Assign (Var y) right) (all_numbered ss) → has ss ≡ true
    all_assign no_stmts e i = absurd i
    all_assign (more_stmts s rest) e i = elim (in_parts (Assign (Var y) e) (numbered s) (all_numbered rest) i) [
      | inl j ↦ among_append y (assigned_in s) (assigned_in_all rest) ∙ or_left (is_among y (assigned_in s)) (has rest) (one_assigns s e j)
      | inr j ↦ among_append y (assigned_in s) (assigned_in_all rest) ∙ or_right (is_among y (assigned_in s)) (has rest) (all_assign rest e j)
    ]

  -- the scalars of a list are assigned in the body of the DO: its sums are there
  module _ (t : ProgramTree) (n : ℕ) (ps : List Partials) (h : Head) (body : StmtTrees) (m : IsSummable t n ps h body) (summed_here : is_among y (scalars_of ps) ≡ true) where
    referred : is_referred t n body y ≡ true
    referred = by (is_referred t n body y) refl
      where
        by : (b : Bool) → is_referred t n body y ≡ b → b ≡ true
        by true e = refl
        by false e = absurd (m.free NotScalar n (inr (inr (inr (inr (inl (refl, (record { head = h; body = body; is = m.is }, some (list_of body) (ap (is_among y) (sym m.scalars) ∙ summed_here), refl))))))))
          where
            unsummable : is_unsummable t n body y ≡ true
            unsummable = or_right (not (scalars.is_scalar t y) || is_among y (all_loop_variables t.body)) (not (is_referred t n body y)) (ap not e)

            some : (names : List (List ℕ)) → is_among y names ≡ true → list_any (is_unsummable t n body) names ≡ true
            some [] g = untrue g
            some (z ∷ zs) g = elim (or_split (is_same_text y z) (is_among y zs) g) [
              | inl q ↦ or_left (is_unsummable t n body z) (list_any (is_unsummable t n body) zs) (ap (is_unsummable t n body) (sym (same_is y z q)) ∙ unsummable)
              | inr q ↦ or_right (is_unsummable t n body z) (list_any (is_unsummable t n body) zs) (some zs q)
            ]

    body_stands : Stand t (n + 1) (all_numbered body)
    body_stands =
        let gap : HasGap (λ u. alone u) n (Do h body) 1 t.body (all_replaced (λ u. alone u) n t.body 1) = program_gap (λ u. alone u) n (Do h body) t m.is in
        inner_stands t (Do h body) (all_numbered body) n
        (first_stands t n (numbered (Do h body)) []
        (subst (λ (k : ℕ). Stand t k (all_numbered (alone (Do h body)))) gap.number
        (gap_stands t gap.gap (alone (Do h body)) 1 (subst (λ (ts : StmtTrees). Stand t 1 (all_numbered ts)) gap.old_is (whole_stands t)))))

    sum_found : (r : Reference) → IsIn r (references t) → is_reference_in n (statements_count body + 1) y r ≡ true → has body ≡ true
    sum_found r i e =
        let parts = and_parts (nat_lt n r.statement && nat_lt r.statement (n + (statements_count body + 1))) (is_same_text y r.access.name) e in
        let bounds = and_parts (nat_lt n r.statement) (nat_lt r.statement (n + (statements_count body + 1))) parts.0 in
        let name : y ≡ r.access.name = same_is y r.access.name parts.1 in
        let from = ltb-true n r.statement bounds.0 in
        let to = ltb-true r.statement (n + (statements_count body + 1)) bounds.1 in
        let sums : is_some (sum_at t y r.statement) ≡ true =
        ap (λ (z : List ℕ). is_some (sum_at t z r.statement)) name ∙ in_sum t n ps h body m r i from (omega (arith, to)) (ap (λ (z : List ℕ). is_among z (scalars_of ps)) (sym name) ∙ summed_here) in
        by (statement_with r.statement t) refl sums from to
      where
        of_sum : (s : StmtTree) → is_some (sum_to y s) ≡ true → (right : ExprTree) × (s ≡ Assign (Var y) right)
        of_sum (Assign left right) q = go (sum_to y (Assign left right)) refl q
          where
            go : (o : Option Sum) → sum_to y (Assign left right) ≡ o → is_some o ≡ true → (e : ExprTree) × (Assign left right ≡ Assign (Var y) e)
            go (Some sum) is p = (right, ap (λ (z : ExprTree). Assign z right) (sum_is y sum left right is).written)
            go None is p = untrue p
        of_sum (If c a b) q = untrue q
        of_sum (Do g inner) q = untrue q
        of_sum (Print items) q = untrue q
        of_sum (Read items) q = untrue q
        of_sum Stop q = untrue q
        of_sum (Comment text) q = untrue q

        by : (o : Option StmtTree) → statement_with r.statement t ≡ o → is_some (and_then o (sum_to y)) ≡ true → n < r.statement → r.statement < n + (statements_count body + 1) → has body ≡ true
        by None found q from to = untrue q
        by (Some s) found q from to =
            let assign = of_sum s q in
            let long = length-all_numbered body in
            let there = found_inside t (n + 1) (all_numbered body) body_stands r.statement (omega (arith, from)) (omega (arith, to, long)) s found in
            all_assign body assign.0 (subst (λ (z : StmtTree). IsIn z (all_numbered body)) assign.1 there)

    pub scalar_assigned : has body ≡ true
    scalar_assigned = each (references t) (λ r i. i) referred
      where
        each : (rs : List Reference) → ((r : Reference) → IsIn r rs → IsIn r (references t)) → list_any (is_reference_in n (statements_count body + 1) y) rs ≡ true → has body ≡ true
        each [] sub e = untrue e
        each (r ∷ rs) sub e = elim (or_split (is_reference_in n (statements_count body + 1) y r) (list_any (is_reference_in n (statements_count body + 1) y) rs) e) [
          | inl q ↦ sum_found r (sub r (inl refl)) q
          | inr q ↦ each rs (λ s j. sub s (inr j)) q
        ]

  -- a list assigns nothing
  unless_has : (o : Option (List ℕ)) (text : List ℕ) (rest : StmtTrees) → assigned_in_all (without_list rest) ≡ assigned_in_all rest → assigned_in_all (unless_named o (more_stmts (Comment text) rest) (without_list rest)) ≡ assigned_in_all rest
  unless_has None text rest e = refl
  unless_has (Some x) text rest e = e

  without_has : (ts : StmtTrees) → assigned_in_all (without_list ts) ≡ assigned_in_all ts
  without_has no_stmts = refl
  without_has (more_stmts (Comment text) rest) = unless_has (listed_name text) text rest (without_has rest)
  without_has (more_stmts (Assign left right) rest) = refl
  without_has (more_stmts (If c a b) rest) = refl
  without_has (more_stmts (Do h body) rest) = refl
  without_has (more_stmts (Print items) rest) = refl
  without_has (more_stmts (Read items) rest) = refl
  without_has (more_stmts Stop rest) = refl

  zeros_has : (v : List ℕ) (ps : List Partials) → is_among y (arrays_of ps) ≡ false → has (zeros v ps) ≡ false
  zeros_has v [] h = refl
  zeros_has v (p ∷ ps) h =
      let a = or_none (is_same_text y p.high) (is_among y (p.low ∷ p.flag ∷ arrays_of ps)) h in
      let b = or_none (is_same_text y p.low) (is_among y (p.flag ∷ arrays_of ps)) a.1 in
      let c = or_none (is_same_text y p.flag) (is_among y (arrays_of ps)) b.1 in
      let rest = zeros_has v ps c.1 in
      λ i. a.0 i || (b.0 i || (c.0 i || rest i))

  -- the exits assign the scalars
  exits_has : (v : List ℕ) (ps : List Partials) → has (exits v ps) ≡ is_among y (scalars_of ps)
  exits_has v [] = refl
  exits_has v (p ∷ ps) = ap (λ (b : Bool). is_same_text y p.scalar || b) (exits_has v ps)

  differs : (z : List ℕ) (names : List (List ℕ)) → is_among z names ≡ true → is_among y names ≡ false → is_same_text y z ≡ false
  differs z names among apart = false_or (is_same_text y z) (λ e. both_ways (is_among y names) apart (ap (λ (x : List ℕ). is_among x names) (same_is y z e) ∙ among))

  -- the body of a DO by what its body assigns
  pub do_has : (h : Head) (a b : StmtTrees) → has a ≡ has b → is_among y (assigned_in (Do h a)) ≡ is_among y (assigned_in (Do h b))
  do_has h a b e =
      ap (λ (c : Bool). is_same_text y h.variable || c)
      (among_append y h.private (assigned_in_all a) ∙ ap (λ (c : Bool). is_among y h.private || c) e ∙ sym (among_append y h.private (assigned_in_all b)))

  module _ (v : List ℕ) (ps : List Partials) (no_array : is_among y (arrays_of ps) ≡ false) where
    module _ (no_scalar : is_among y (scalars_of ps) ≡ false) where
      apart_has : (p : Partials) (sum : Sum) → IsIn p ps → has (added_apart v p sum) ≡ false
      apart_has p sum i =
          let among = arrays_among p ps i in
          let a = differs p.high (arrays_of ps) among.high no_array in
          let b = differs p.low (arrays_of ps) among.low no_array in
          let c = differs p.flag (arrays_of ps) among.flag no_array in
          λ j. a j || (b j || (c j || false))

      assigned_has : (left right : ExprTree) (ws : StmtTrees) → IsApart v ps left right ws ⊎ IsBare ps left right ws → has ws ≡ is_among y (assigned_left left)
      assigned_has left right ws (inl a) =
          let other = differs a.partials.scalar (scalars_of ps) (scalar_among a.partials ps a.among) no_scalar in
          let none : is_among y (assigned_left (Var a.partials.scalar)) ≡ false = λ i. other i || false in
          ap has a.is ∙ apart_has a.partials a.sum a.among ∙ sym (ap (λ (e : ExprTree). is_among y (assigned_left e)) a.of.written ∙ none)
      assigned_has left right ws (inr b) = ap has b.is ∙ alone_has (Assign left right)

      -- where sums of the scalars are kept apart, the same is assigned but for the scalars
      mutual
        one_summed : (s : StmtTree) → has (summed v ps s) ≡ is_among y (assigned_in s)
        one_summed (Assign left right) = assigned_has left right (sum_apart v ps (Assign left right)) (apart_or_bare v left right ps)
        one_summed (If c a b) =
            let first = all_summed_has a in
            let second = all_summed_has b in
            alone_has (If c (all_summed v ps a) (all_summed v ps b)) ∙ among_append y (assigned_in_all (all_summed v ps a)) (assigned_in_all (all_summed v ps b)) ∙ (λ i. first i || second i) ∙ sym (among_append y (assigned_in_all a) (assigned_in_all b))
        one_summed (Do h body) = alone_has (Do h (all_summed v ps body)) ∙ do_has h (all_summed v ps body) body (all_summed_has body)
        one_summed (Print items) = alone_has (Print items)
        one_summed (Read items) = alone_has (Read items)
        one_summed Stop = refl
        one_summed (Comment text) = refl

        all_summed_has : (ss : StmtTrees) → has (all_summed v ps ss) ≡ has ss
        all_summed_has no_stmts = refl
        all_summed_has (more_stmts s rest) =
            let first = one_summed s in
            let second = all_summed_has rest in
            followed_has (summed v ps s) (all_summed v ps rest) ∙ (λ i. first i || second i) ∙ sym (among_append y (assigned_in s) (assigned_in_all rest))

      pub mine_has : (body : StmtTrees) → has (followed (zeros v ps) (all_summed v ps (without_list body))) ≡ has body
      mine_has body =
          let first = zeros_has v ps no_array in
          let second : has (all_summed v ps (without_list body)) ≡ has body = all_summed_has (without_list body) ∙ ap (is_among y) (without_has body) in
          followed_has (zeros v ps) (all_summed v ps (without_list body)) ∙ (λ i. first i || second i)

  -- a DO alone, without its exits: the same but for the scalars
  pub alone_same : (parallel : Bool) (ps : List Partials) (h : Head) (body : StmtTrees) → is_among y (arrays_of ps) ≡ false → is_among y (scalars_of ps) ≡ false
      → is_among y (assigned_in (Do (record h { parallel = parallel }) (followed (zeros h.variable ps) (all_summed h.variable ps (without_list body))))) ≡ is_among y (assigned_in (Do h body))
  alone_same parallel ps h body no_array no_scalar = do_has h (followed (zeros h.variable ps) (all_summed h.variable ps (without_list body))) body (mine_has h.variable ps no_array no_scalar body)

  twice : (a b c : Bool) → c ≡ false → ((a || b) || (a || c)) ≡ (a || b)
  twice true b c e = refl
  twice false true c e = refl
  twice false false c e = e

  both_true : (a b c p d : Bool) → c ≡ true → d ≡ true → ((a || b) || (a || c)) ≡ (a || (p || d))
  both_true true b c p d e g = refl
  both_true false true c true d e g = refl
  both_true false true c false d e g = sym g
  both_true false false c true d e g = e
  both_true false false c false d e g = e ∙ sym g

  -- with its exits: the same
  lowered_has : (parallel : Bool) (ps : List Partials) (h : Head) (body : StmtTrees) → is_among y (arrays_of ps) ≡ false → (is_among y (scalars_of ps) ≡ true → has body ≡ true) → has (lowered_loop parallel ps h body) ≡ is_among y (assigned_in (Do h body))
  lowered_has parallel ps h body no_array assigned = by (is_among y (scalars_of ps)) refl
    where
      mine : StmtTrees
      mine = followed (zeros h.variable ps) (all_summed h.variable ps (without_list body))

      own : Bool
      own = is_same_text y h.variable

      behind : has (alone (Do (bare h) (exits h.variable ps))) ≡ (is_same_text y h.variable || is_among y (scalars_of ps))
      behind = alone_has (Do (bare h) (exits h.variable ps)) ∙ ap (λ (b : Bool). is_same_text y h.variable || b) (exits_has h.variable ps)

      whole : has (lowered_loop parallel ps h body) ≡ (is_among y (assigned_in (Do h mine)) || (is_same_text y h.variable || is_among y (scalars_of ps)))
      whole = among_append y (assigned_in (Do h mine)) (assigned_in_all (alone (Do (bare h) (exits h.variable ps)))) ∙ ap (λ (b : Bool). is_among y (assigned_in (Do h mine)) || b) behind

      by : (b : Bool) → is_among y (scalars_of ps) ≡ b → has (lowered_loop parallel ps h body) ≡ is_among y (assigned_in (Do h body))
      by true e =
          whole ∙ both_true (is_same_text y h.variable) (is_among y (h.private ++ assigned_in_all mine)) (is_among y (scalars_of ps)) (is_among y h.private) (has body) e (assigned e)
          ∙ ap (λ (c : Bool). is_same_text y h.variable || c) (sym (among_append y h.private (assigned_in_all body)))
      by false e = whole ∙ twice (is_same_text y h.variable) (is_among y (h.private ++ assigned_in_all mine)) (is_among y (scalars_of ps)) e ∙ do_has h mine body (mine_has h.variable ps no_array e body)

  if_has : (a b rest : StmtTrees) → is_among y ((assigned_in_all a ++ assigned_in_all b) ++ assigned_in_all rest) ≡ ((has a || has b) || has rest)
  if_has a b rest =
      among_append y (assigned_in_all a ++ assigned_in_all b) (assigned_in_all rest)
      ∙ ap (λ (z : Bool). z || has rest) (among_append y (assigned_in_all a) (assigned_in_all b))

  module _ (t : ProgramTree) (live : List ℕ) (there : is_among y (stmts_names t.body) ≡ true) where
    -- a name of the program is none of the arrays
    pub no_array : (n : ℕ) (ps : List Partials) (h : Head) (body : StmtTrees) → IsSummable t n ps h body → is_among y (arrays_of ps) ≡ false
    no_array n ps h body m = false_or (is_among y (arrays_of ps)) (λ e. both_ways (is_among y (stmts_names t.body)) (m.fresh y e).body there)

    pub whole_same : (parallel : Bool) (n : ℕ) (ps : List Partials) (h : Head) (body : StmtTrees) → IsSummable t n ps h body → has (lowered_loop parallel ps h body) ≡ is_among y (assigned_in (Do h body))
    whole_same parallel n ps h body m = lowered_has parallel ps h body (no_array n ps h body m) (scalar_assigned t n ps h body m)

    mutual
      one_same : (s : StmtTree) (n : ℕ) (ws : StmtTrees) → Becomes t live s n ws → has ws ≡ is_among y (assigned_in s)
      one_same (Assign left right) n ws is = ap has is ∙ alone_has (Assign left right)
      one_same (If c a b) n ws (x, z, p, q, is) =
          let first = all_same a (n + 1) x p in
          let second = all_same b (n + 1 + statements_count a) z q in
          ap has is ∙ alone_has (If c x z) ∙ among_append y (assigned_in_all x) (assigned_in_all z) ∙ (λ i. first i || second i) ∙ sym (among_append y (assigned_in_all a) (assigned_in_all b))
      one_same (Do h body) n ws (inl (x, p, is)) = ap has is ∙ alone_has (Do h x) ∙ do_has h x body (all_same body (n + 1) x p)
      one_same (Do h body) n ws (inr (ps, low, m, is)) = ap has is ∙ whole_same true n ps h body m
      one_same (Print items) n ws is = ap has is ∙ alone_has (Print items)
      one_same (Read items) n ws is = ap has is ∙ alone_has (Read items)
      one_same Stop n ws is = ap has is
      one_same (Comment text) n ws is = ap has is

      all_same : (ss : StmtTrees) (n : ℕ) (ws : StmtTrees) → AllBecome t live ss n ws → has ws ≡ has ss
      all_same no_stmts n ws is = ap has is
      all_same (more_stmts s rest) n ws (x, z, p, q, is) =
          let first = one_same s n x p in
          let second = all_same rest (n + statement_count s) z q in
          ap has is ∙ followed_has x z ∙ (λ i. first i || second i) ∙ sym (among_append y (assigned_in s) (assigned_in_all rest))

    module _ (old new : StmtTrees) (same : has new ≡ has old) where
      abbrev filled_new : Gap → Bool
      filled_new g = has (filled g new)

      pub gap_same : (gap : Gap) (n : ℕ) (other : Gap) → GapBecomes t live gap n other → has (filled other new) ≡ has (filled gap old)
      gap_same (at_front rest) n other is = ap filled_new is ∙ followed_has new rest ∙ ap (λ (b : Bool). b || has rest) same ∙ sym (followed_has old rest)
      gap_same (past s gap) n other (x, g, p, q, is) =
          let first = one_same s n x p in
          let second = gap_same gap (n + statement_count s) g q in
          ap filled_new is ∙ ap has (filled_pasts x g new) ∙ followed_has x (filled g new) ∙ (λ i. first i || second i) ∙ sym (among_append y (assigned_in s) (assigned_in_all (filled gap old)))
      gap_same (in_then c gap b rest) n other (g, q, is) =
          let inner = gap_same gap (n + 1) g q in
          ap filled_new is ∙ if_has (filled g new) b rest ∙ ap (λ (z : Bool). (z || has b) || has rest) inner ∙ sym (if_has (filled gap old) b rest)
      gap_same (in_else c a gap rest) n other (x, g, p, q, is) =
          let first = all_same a (n + 1) x p in
          let inner = gap_same gap (n + 1 + statements_count a) g q in
          ap filled_new is ∙ if_has x (filled g new) rest ∙ (λ i. (first i || inner i) || has rest) ∙ sym (if_has a (filled gap old) rest)
      gap_same (in_body h gap rest) n other (g, q, is) =
          let inner = do_has h (filled g new) (filled gap old) (gap_same gap (n + 1) g q) in
          ap filled_new is ∙ among_append y (assigned_in (Do h (filled g new))) (assigned_in_all rest) ∙ ap (λ (z : Bool). z || has rest) inner ∙ sym (among_append y (assigned_in (Do h (filled gap old))) (assigned_in_all rest))
