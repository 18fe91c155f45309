-- Two DO loops that get one variable: what keeps its value in the outermost DO still does, and no STOP comes into a DO.
use Rattle.std.proofs.Common.{Bool, List, Option, Some, [], ap, arith, false, if◌then◌else◌, map, refl, subst, sym, true, ℕ, ◌&&◌, ◌++◌, ◌+◌, ◌<◌, ◌||◌, ◌∙◌, ◌∷◌, ◌≡◌}
use Rattle.std.proofs.lemmas.Bool.{and_parts, both_ways}
use Rattle.std.specs.List.{flat_map, list_all}
use Rattle.ped_base.proofs.NameEquality.{same_is}
use Rattle.ped_base.specs.Lists.{is_among, is_same_text}
use Rattle.ped_tree.specs.NamesIn.{all_loop_variables, loop_variables}
use Rattle.ped_tree.specs.Nests.{Loop}
use Rattle.ped_tree.specs.Numbering.{all_numbered, numbered, statement_count, statement_with, statements_count}
use Rattle.ped_tree.specs.Tree.{Add, Assign, Call, Comment, Div, Do, Element, ExprTree, Head, If, Int, Mul, Neg, Pow, Print, ProgramTree, Read, StmtTree, StmtTrees, Stop, Sub, Var, more_stmts, no_stmts}
use Rattle.ped_rules.proofs.NestLaws.InnerPlaces.{loops_of_program}
use Rattle.ped_rules.proofs.NameLaws.SubstitutedPaths.{stops_kept}
use Rattle.ped_rules.specs.ped_loop_runs.proofs.LoopLaws.OneForOneStands.{false_unless}
use Rattle.ped_rules.specs.ped_loop_runs.proofs.TidyLaws.TidyPathsGaps.{gap_variables}
use Rattle.ped_rules.specs.ped_loop_runs.proofs.TidyLaws.TidyPathsSums.{append_more, or_more}
use Rattle.ped_rules.specs.ped_steps.proofs.RunLaws.SubstitutedShapes.{indices_kept}
use Rattle.ped_rules.specs.ped_steps.specs.Replacing.{alone, followed}
use Rattle.ped_rules.specs.ped_steps.specs.Runs.Gaps.{Gap, at_front, filled, in_body, in_else, in_then, number_at, past}
use Rattle.ped_rules.specs.ped_flow.specs.PlainBounds.{IsFixed, Values, all_loops_round, assigned_by, nest_round, outermost_or}
use Rattle.ped_rules.specs.ped_laws.proofs.ActLaws.Renamings.{or_left, or_right}
use Rattle.ped_rules.specs.ped_laws.proofs.ActLaws.SameCells.{text_itself}
use Rattle.ped_rules.specs.ped_laws.proofs.FlowRunLaws.Standing.{Stand, else_stands, first_stands, inner_stands, is_there, rest_stands, whole_stands}
use Rattle.ped_rules.specs.ped_laws.proofs.FlowRunLaws.Stopping.{fitting_stops}
use Rattle.ped_rules.specs.ped_laws.specs.FlowRuns.Covering.{has_stop, some_stop, some_stops_in_loop, stops_in_loop}
use Rattle.ped_rules.specs.ped_affine.specs.Assigned.{assigned_in, assigned_in_all, assigned_left}
use Rattle.ped_symbolic.specs.Substitution.{statement_substituted, statements_substituted, substituted}
use Rattle.ped_rules.specs.ped_symbols.proofs.RightUseLaws.Whole.{right_program}
use Rattle.ped_rules.specs.ped_symbols.specs.Kinds.{kind_in}
use Rattle.ped_rules.specs.ped_symbols.specs.NameRefusals.{IsValid}
use Rattle.ped_rules.specs.ped_symbols.specs.RightUses.RightUses.{NameKinds, cond_is_right, expr_is_right, head_is_right, stmt_is_right, stmts_are_right, target_is_right}
use Rattle.ped_splits.proofs.CoverGaps.{followed_assigned, gap_loops, gap_nest}
use Rattle.ped_splits.proofs.FuseFacts.{renamed, renamed_next, renamed_pair}
use Rattle.ped_splits.proofs.JoinSame.{quiet_loops, quiet_stop}
use Rattle.ped_splits.proofs.SplitPieces.{gap_stands}
use Rattle.ped_splits.specs.Neighbours.{Neighbour, renamed_body}

-- what stands at the front of a gap has the gap's number
pub front_there : (t : ProgramTree) (z : StmtTree) (xs : List StmtTree) (rest : StmtTrees) (gap : Gap) (s : ℕ) → numbered z ≡ z ∷ xs → number_at gap 1 ≡ s → t.body ≡ filled gap (more_stmts z rest) → statement_with s t ≡ Some z
front_there t z xs rest gap s numbers at is =
    is_there t z xs s (subst (Stand t s) numbers (first_stands t s (numbered z) (all_numbered rest) (subst (λ (n : ℕ). Stand t n (all_numbered (more_stmts z rest))) at (gap_stands t gap (more_stmts z rest) 1 (subst (λ (ts : StmtTrees). Stand t 1 (all_numbered ts)) is (whole_stands t))))))

-- statements in a gap of right ones are right
module _ (k : NameKinds) where
  right_second : (ts us : StmtTrees) → stmts_are_right k (followed ts us) ≡ true → stmts_are_right k us ≡ true
  right_second no_stmts us h = h
  right_second (more_stmts z rest) us h = right_second rest us (and_parts (stmt_is_right k z) (stmts_are_right k (followed rest us)) h).1

  right_first : (ts us : StmtTrees) → stmts_are_right k (followed ts us) ≡ true → stmts_are_right k ts ≡ true
  right_first no_stmts us h = refl
  right_first (more_stmts z rest) us h = let both = and_parts (stmt_is_right k z) (stmts_are_right k (followed rest us)) h in λ i. both.0 i && right_first rest us both.1 i

  right_filled : (gap : Gap) (old : StmtTrees) → stmts_are_right k (filled gap old) ≡ true → stmts_are_right k old ≡ true
  right_filled (at_front rest) old h = right_first old rest h
  right_filled (past z gap) old h = right_filled gap old (and_parts (stmt_is_right k z) (stmts_are_right k (filled gap old)) h).1
  right_filled (in_then c gap b rest) old h =
      let whole = (and_parts (stmt_is_right k (If c (filled gap old) b)) (stmts_are_right k rest) h).0 in
      right_filled gap old (and_parts (cond_is_right k c) (stmts_are_right k (filled gap old)) (and_parts (cond_is_right k c && stmts_are_right k (filled gap old)) (stmts_are_right k b) whole).0).1
  right_filled (in_else c a gap rest) old h =
      let whole = (and_parts (stmt_is_right k (If c a (filled gap old))) (stmts_are_right k rest) h).0 in
      right_filled gap old (and_parts (cond_is_right k c && stmts_are_right k a) (stmts_are_right k (filled gap old)) whole).1
  right_filled (in_body d gap rest) old h =
      let whole = (and_parts (stmt_is_right k (Do d (filled gap old))) (stmts_are_right k rest) h).0 in
      right_filled gap old (and_parts (head_is_right k d) (stmts_are_right k (filled gap old)) whole).1

-- another variable in the place of one: what else is assigned was so before
module _ (k : NameKinds) (y x w : List ℕ) (other : is_same_text y w ≡ false) where
  left_kept : (z : ExprTree) → target_is_right k z ≡ true → is_among y (assigned_left (substituted x (Var w) z)) ≡ true → is_among y (assigned_left z) ≡ true
  left_kept (Var v) r h = by (is_same_text x v) h
    where
      by : (b : Bool) → is_among y (assigned_left (if b then Var w else Var v)) ≡ true → is_among y (v ∷ []) ≡ true
      by true g = absurd (both_ways (is_same_text y w || false) (λ i. other i || false) g)
      by false g = g
  left_kept (Element v es) r h = h
  left_kept (Int n) r h = absurd cc
  left_kept (Neg a) r h = absurd cc
  left_kept (Add a b) r h = absurd cc
  left_kept (Sub a b) r h = absurd cc
  left_kept (Mul a b) r h = absurd cc
  left_kept (Div a b) r h = absurd cc
  left_kept (Pow a b) r h = absurd cc
  left_kept (Call f es) r h = absurd cc

  lefts_kept : (zs : List ExprTree) → list_all (target_is_right k) zs ≡ true → is_among y (flat_map assigned_left (map (substituted x (Var w)) zs)) ≡ true → is_among y (flat_map assigned_left zs) ≡ true
  lefts_kept [] r h = h
  lefts_kept (z ∷ zs) r h =
      let right = and_parts (target_is_right k z) (list_all (target_is_right k) zs) r in
      append_more y (assigned_left (substituted x (Var w) z)) (flat_map assigned_left (map (substituted x (Var w)) zs)) (assigned_left z) (flat_map assigned_left zs) (left_kept z right.0) (lefts_kept zs right.1) h

  mutual
    assigned_kept : (z : StmtTree) → stmt_is_right k z ≡ true → is_among y (assigned_in (statement_substituted x (Var w) z)) ≡ true → is_among y (assigned_in z) ≡ true
    assigned_kept (Assign left right) r h = left_kept left (and_parts (target_is_right k left) (expr_is_right k right) r).0 h
    assigned_kept (If c a b) r h =
        let right = and_parts (cond_is_right k c && stmts_are_right k a) (stmts_are_right k b) r in
        append_more y (assigned_in_all (statements_substituted x (Var w) a)) (assigned_in_all (statements_substituted x (Var w) b)) (assigned_in_all a) (assigned_in_all b) (all_assigned_kept a (and_parts (cond_is_right k c) (stmts_are_right k a) right.0).1) (all_assigned_kept b right.1) h
    assigned_kept (Do g body) r h =
        or_more (is_same_text y g.variable) (is_among y (g.private ++ assigned_in_all (statements_substituted x (Var w) body))) (is_same_text y g.variable) (is_among y (g.private ++ assigned_in_all body)) (λ e. e)
        (append_more y g.private (assigned_in_all (statements_substituted x (Var w) body)) g.private (assigned_in_all body) (λ e. e) (all_assigned_kept body (and_parts (head_is_right k g) (stmts_are_right k body) r).1)) h
    assigned_kept (Print items) r h = h
    assigned_kept (Read items) r h = lefts_kept items r h
    assigned_kept Stop r h = h
    assigned_kept (Comment text) r h = h

    all_assigned_kept : (zs : StmtTrees) → stmts_are_right k zs ≡ true → is_among y (assigned_in_all (statements_substituted x (Var w) zs)) ≡ true → is_among y (assigned_in_all zs) ≡ true
    all_assigned_kept no_stmts r h = h
    all_assigned_kept (more_stmts z rest) r h =
        let right = and_parts (stmt_is_right k z) (stmts_are_right k rest) r in
        append_more y (assigned_in (statement_substituted x (Var w) z)) (assigned_in_all (statements_substituted x (Var w) rest)) (assigned_in z) (assigned_in_all rest) (assigned_kept z right.0) (all_assigned_kept rest right.1) h

-- statements that assign no more, in a gap
module _ (y : List ℕ) (new old : StmtTrees) (less : is_among y (assigned_in_all new) ≡ true → is_among y (assigned_in_all old) ≡ true) where
  do_more : (d : Head) (us ws : StmtTrees) → (is_among y (assigned_in_all us) ≡ true → is_among y (assigned_in_all ws) ≡ true) → is_among y (assigned_in (Do d us)) ≡ true → is_among y (assigned_in (Do d ws)) ≡ true
  do_more d us ws inner =
      or_more (is_same_text y d.variable) (is_among y (d.private ++ assigned_in_all us)) (is_same_text y d.variable) (is_among y (d.private ++ assigned_in_all ws)) (λ e. e)
      (append_more y d.private (assigned_in_all us) d.private (assigned_in_all ws) (λ e. e) inner)

  assigned_more : (g : Gap) → is_among y (assigned_in_all (filled g new)) ≡ true → is_among y (assigned_in_all (filled g old)) ≡ true
  assigned_more (at_front rest) h =
      followed_assigned y old rest ∙ or_more (is_among y (assigned_in_all new)) (is_among y (assigned_in_all rest)) (is_among y (assigned_in_all old)) (is_among y (assigned_in_all rest)) less (λ e. e) (sym (followed_assigned y new rest) ∙ h)
  assigned_more (past z g) h = append_more y (assigned_in z) (assigned_in_all (filled g new)) (assigned_in z) (assigned_in_all (filled g old)) (λ e. e) (assigned_more g) h
  assigned_more (in_then c g b rest) h =
      append_more y (assigned_in_all (filled g new) ++ assigned_in_all b) (assigned_in_all rest) (assigned_in_all (filled g old) ++ assigned_in_all b) (assigned_in_all rest)
      (append_more y (assigned_in_all (filled g new)) (assigned_in_all b) (assigned_in_all (filled g old)) (assigned_in_all b) (assigned_more g) (λ e. e)) (λ e. e) h
  assigned_more (in_else c a g rest) h =
      append_more y (assigned_in_all a ++ assigned_in_all (filled g new)) (assigned_in_all rest) (assigned_in_all a ++ assigned_in_all (filled g old)) (assigned_in_all rest)
      (append_more y (assigned_in_all a) (assigned_in_all (filled g new)) (assigned_in_all a) (assigned_in_all (filled g old)) (λ e. e) (assigned_more g)) (λ e. e) h
  assigned_more (in_body d g rest) h = append_more y (assigned_in (Do d (filled g new))) (assigned_in_all rest) (assigned_in (Do d (filled g old))) (assigned_in_all rest) (do_more d (filled g new) (filled g old) (assigned_more g)) (λ e. e) h

  -- the outermost DO round the gap assigns no more
  module _ (t u : ProgramTree) where
    abbrev Less : ℕ → Type 0
    Less n = is_among y (assigned_by (statement_with n u)) ≡ true → is_among y (assigned_by (statement_with n t)) ≡ true

    outermost_more : (g : Gap) (n : ℕ) → Stand t n (all_numbered (filled g old)) → Stand u n (all_numbered (filled g new)) → (l : Loop) (ls : List Loop) → gap_loops g n ≡ l ∷ ls → Less l.number
    outermost_more (at_front rest) n a b l ls e = absurd cc
    outermost_more (past z g) n a b l ls e = outermost_more g (n + statement_count z) (rest_stands t z (filled g old) n a) (rest_stands u z (filled g new) n b) l ls e
    outermost_more (in_then c g other rest) n a b l ls e =
        outermost_more g (n + 1)
        (first_stands t (n + 1) (all_numbered (filled g old)) (all_numbered other) (inner_stands t (If c (filled g old) other) (all_numbered (filled g old) ++ all_numbered other) n (first_stands t n (numbered (If c (filled g old) other)) (all_numbered rest) a)))
        (first_stands u (n + 1) (all_numbered (filled g new)) (all_numbered other) (inner_stands u (If c (filled g new) other) (all_numbered (filled g new) ++ all_numbered other) n (first_stands u n (numbered (If c (filled g new) other)) (all_numbered rest) b))) l ls e
    outermost_more (in_else c other g rest) n a b l ls e =
        outermost_more g (n + 1 + statements_count other)
        (else_stands t other (filled g old) (n + 1) (inner_stands t (If c other (filled g old)) (all_numbered other ++ all_numbered (filled g old)) n (first_stands t n (numbered (If c other (filled g old))) (all_numbered rest) a)))
        (else_stands u other (filled g new) (n + 1) (inner_stands u (If c other (filled g new)) (all_numbered other ++ all_numbered (filled g new)) n (first_stands u n (numbered (If c other (filled g new))) (all_numbered rest) b))) l ls e
    outermost_more (in_body d g rest) n a b l ls e = subst Less (ap (λ (k : Loop). k.number) same) here
      where
        same : record { number = n; head = d } ≡ l
        same = cc

        old_there : statement_with n t ≡ Some (Do d (filled g old))
        old_there = is_there t (Do d (filled g old)) (all_numbered (filled g old)) n (first_stands t n (numbered (Do d (filled g old))) (all_numbered rest) a)

        new_there : statement_with n u ≡ Some (Do d (filled g new))
        new_there = is_there u (Do d (filled g new)) (all_numbered (filled g new)) n (first_stands u n (numbered (Do d (filled g new))) (all_numbered rest) b)

        here : Less n
        here h =
            ap (λ (o : Option StmtTree). is_among y (assigned_by o)) old_there
            ∙ do_more d (filled g new) (filled g old) (assigned_more g) (sym (ap (λ (o : Option StmtTree). is_among y (assigned_by o)) new_there) ∙ h)

-- statements that stop alike, in a gap
module _ (new old : StmtTrees) (same : some_stop new ≡ some_stop old) (in_loops : some_stops_in_loop new ≡ some_stops_in_loop old) where
  or_assoc : (a b c : Bool) → a || (b || c) ≡ (a || b) || c
  or_assoc true b c = refl
  or_assoc false b c = refl

  followed_stop : (ts us : StmtTrees) → some_stop (followed ts us) ≡ some_stop ts || some_stop us
  followed_stop no_stmts us = refl
  followed_stop (more_stmts z rest) us = ap (λ (b : Bool). has_stop z || b) (followed_stop rest us) ∙ or_assoc (has_stop z) (some_stop rest) (some_stop us)

  followed_in_loop : (ts us : StmtTrees) → some_stops_in_loop (followed ts us) ≡ some_stops_in_loop ts || some_stops_in_loop us
  followed_in_loop no_stmts us = refl
  followed_in_loop (more_stmts z rest) us = ap (λ (b : Bool). stops_in_loop z || b) (followed_in_loop rest us) ∙ or_assoc (stops_in_loop z) (some_stops_in_loop rest) (some_stops_in_loop us)

  stop_filled : (g : Gap) → some_stop (filled g new) ≡ some_stop (filled g old)
  stop_filled (at_front rest) = followed_stop new rest ∙ (λ i. same i || some_stop rest) ∙ sym (followed_stop old rest)
  stop_filled (past z g) = λ i. has_stop z || stop_filled g i
  stop_filled (in_then c g b rest) = λ i. (stop_filled g i || some_stop b) || some_stop rest
  stop_filled (in_else c a g rest) = λ i. (some_stop a || stop_filled g i) || some_stop rest
  stop_filled (in_body d g rest) = λ i. stop_filled g i || some_stop rest

  pub stops_filled : (g : Gap) → some_stops_in_loop (filled g new) ≡ some_stops_in_loop (filled g old)
  stops_filled (at_front rest) = followed_in_loop new rest ∙ (λ i. in_loops i || some_stops_in_loop rest) ∙ sym (followed_in_loop old rest)
  stops_filled (past z g) = λ i. stops_in_loop z || stops_filled g i
  stops_filled (in_then c g b rest) = λ i. (stops_filled g i || some_stops_in_loop b) || some_stops_in_loop rest
  stops_filled (in_else c a g rest) = λ i. (some_stops_in_loop a || stops_filled g i) || some_stops_in_loop rest
  stops_filled (in_body d g rest) = λ i. stop_filled g i || some_stops_in_loop rest

-- the program in which both have one variable
module _ (t : ProgramTree) (s : ℕ) (x : Neighbour t s) (valid : IsValid t) (unprivate : x.next.private ≡ []) where
  abbrev old : StmtTrees
  old = more_stmts (Do x.own x.own_body) (followed x.between (alone (Do x.next x.next_body)))

  abbrev new : StmtTrees
  new = renamed_pair x

  abbrev second : StmtTrees
  second = renamed_body x.own x.next x.next_body

  some_new : 0 < statements_count (renamed_pair x)
  some_new = omega arith

  -- the DO loops round the two are the same
  new_nest : nest_round (renamed x) s ≡ gap_loops x.gap 1
  new_nest = gap_nest s (renamed_pair x) some_new x.gap 1 x.numbered

  old_nest : nest_round t s ≡ gap_loops x.gap 1
  old_nest = ap (λ (ts : StmtTrees). all_loops_round s ts 1) x.stands ∙ gap_nest s old (omega arith) x.gap 1 x.numbered

  pub same_nest : nest_round t s ≡ nest_round (renamed x) s
  same_nest = old_nest ∙ sym new_nest

  second_stop : some_stop second ≡ some_stop x.next_body
  second_stop = by (is_same_text x.own.variable x.next.variable)
    where
      by : (b : Bool) → some_stop (if b then x.next_body else statements_substituted x.next.variable (Var x.own.variable) x.next_body) ≡ some_stop x.next_body
      by true = refl
      by false = stops_kept x.next.variable (Var x.own.variable) x.next_body

  second_loops : all_loop_variables second ≡ all_loop_variables x.next_body
  second_loops = by (is_same_text x.own.variable x.next.variable)
    where
      by : (b : Bool) → all_loop_variables (if b then x.next_body else statements_substituted x.next.variable (Var x.own.variable) x.next_body) ≡ all_loop_variables x.next_body
      by true = refl
      by false = indices_kept x.next.variable (Var x.own.variable) x.next_body

  quiet_in_loop : (ts us : StmtTrees) → statements_count ts ≡ 0 → some_stops_in_loop (followed ts us) ≡ some_stops_in_loop us
  quiet_in_loop no_stmts us none = refl
  quiet_in_loop (more_stmts (Comment text) rest) us none = quiet_in_loop rest us (omega (arith, none))
  quiet_in_loop (more_stmts (Assign left right) rest) us none = absurd (omega (arith, none))
  quiet_in_loop (more_stmts (If c a b) rest) us none = absurd (omega (arith, none))
  quiet_in_loop (more_stmts (Do h b) rest) us none = absurd (omega (arith, none))
  quiet_in_loop (more_stmts (Print items) rest) us none = absurd (omega (arith, none))
  quiet_in_loop (more_stmts (Read items) rest) us none = absurd (omega (arith, none))
  quiet_in_loop (more_stmts Stop rest) us none = absurd (omega (arith, none))

  pub still_unstopped : some_stops_in_loop (renamed x).body ≡ false
  still_unstopped =
      stops_filled new old
      (λ i. some_stop x.own_body || (quiet_stop x.between (alone (renamed_next x)) x.comments ∙ (λ j. second_stop j || false) ∙ sym (quiet_stop x.between (alone (Do x.next x.next_body)) x.comments)) i)
      (λ i. some_stop x.own_body || (quiet_in_loop x.between (alone (renamed_next x)) x.comments ∙ (λ j. second_stop j || false) ∙ sym (quiet_in_loop x.between (alone (Do x.next x.next_body)) x.comments)) i) x.gap
      ∙ ap some_stops_in_loop (sym x.stands) ∙ fitting_stops t valid.fits

  module _ (y : List ℕ) (constants : Values) (keeps : IsFixed constants t s y) where
    first_there : statement_with s t ≡ Some (Do x.own x.own_body)
    first_there = front_there t (Do x.own x.own_body) (all_numbered x.own_body) (followed x.between (alone (Do x.next x.next_body))) x.gap s refl x.numbered x.stands

    new_first_there : statement_with s (renamed x) ≡ Some (Do x.own x.own_body)
    new_first_there = front_there (renamed x) (Do x.own x.own_body) (all_numbered x.own_body) (followed x.between (alone (renamed_next x))) x.gap s refl x.numbered refl

    -- it is no variable of a DO
    own_among : is_among x.own.variable (all_loop_variables t.body) ≡ true
    own_among = loops_of_program t s (record { head = x.own; body = x.own_body; is = first_there }) x.own.variable (or_left (is_same_text x.own.variable x.own.variable) (is_among x.own.variable (all_loop_variables x.own_body)) (text_itself x.own.variable))

    apart : is_same_text y x.own.variable ≡ false
    apart = false_unless (is_same_text y x.own.variable) (λ h. both_ways (is_among y (all_loop_variables t.body)) keeps.other (ap (λ (w : List ℕ). is_among w (all_loop_variables t.body)) (same_is y x.own.variable h) ∙ own_among))

    loops_less : is_among y (all_loop_variables new) ≡ true → is_among y (all_loop_variables old) ≡ true
    loops_less h =
        append_more y (loop_variables (Do x.own x.own_body)) (all_loop_variables (followed x.between (alone (renamed_next x)))) (loop_variables (Do x.own x.own_body)) (all_loop_variables (followed x.between (alone (Do x.next x.next_body)))) (λ e. e)
        (λ e. ap (is_among y) (quiet_loops x.between (alone (Do x.next x.next_body)) x.comments)
        ∙ append_more y (loop_variables (renamed_next x)) [] (loop_variables (Do x.next x.next_body)) [] inner (λ r. r)
        (sym (ap (is_among y) (quiet_loops x.between (alone (renamed_next x)) x.comments)) ∙ e)) h
      where
        inner : is_among y (loop_variables (renamed_next x)) ≡ true → is_among y (loop_variables (Do x.next x.next_body)) ≡ true
        inner e =
            or_right (is_same_text y x.next.variable) (is_among y (all_loop_variables x.next_body))
            (ap (is_among y) (sym second_loops) ∙ (λ i. sym apart i || is_among y (all_loop_variables second)) ∙ e)

    pub no_loop : is_among y (all_loop_variables (renamed x).body) ≡ false
    no_loop = false_unless (is_among y (all_loop_variables (renamed x).body)) (λ h. both_ways (is_among y (all_loop_variables t.body)) keeps.other (ap (λ (ts : StmtTrees). is_among y (all_loop_variables ts)) x.stands ∙ gap_variables y old new loops_less x.gap h))

    -- it isn't assigned in the outermost DO
    second_right : stmts_are_right (kind_in t) x.next_body ≡ true
    second_right =
        let whole = right_filled (kind_in t) x.gap old (ap (stmts_are_right (kind_in t)) (sym x.stands) ∙ (right_program t valid).statements) in
        let rest = (and_parts (stmt_is_right (kind_in t) (Do x.own x.own_body)) (stmts_are_right (kind_in t) (followed x.between (alone (Do x.next x.next_body)))) whole).1 in
        let next = (and_parts (stmt_is_right (kind_in t) (Do x.next x.next_body)) true (right_second (kind_in t) x.between (alone (Do x.next x.next_body)) rest)).0 in
        (and_parts (head_is_right (kind_in t) x.next) (stmts_are_right (kind_in t) x.next_body) next).1

    second_assigned : is_among y (assigned_in_all second) ≡ true → is_among y (assigned_in_all x.next_body) ≡ true
    second_assigned = by (is_same_text x.own.variable x.next.variable)
      where
        by : (b : Bool) → is_among y (assigned_in_all (if b then x.next_body else statements_substituted x.next.variable (Var x.own.variable) x.next_body)) ≡ true → is_among y (assigned_in_all x.next_body) ≡ true
        by true h = h
        by false h = all_assigned_kept (kind_in t) y x.next.variable x.own.variable apart x.next_body second_right h

    next_assigned : is_among y (assigned_in (renamed_next x)) ≡ true → is_among y (assigned_in (Do x.next x.next_body)) ≡ true
    next_assigned h =
        or_right (is_same_text y x.next.variable) (is_among y (x.next.private ++ assigned_in_all x.next_body))
        (append_more y x.next.private (assigned_in_all second) x.next.private (assigned_in_all x.next_body) (λ e. e) second_assigned ((λ i. sym apart i || is_among y (x.next.private ++ assigned_in_all second)) ∙ h))

    assigned_less : is_among y (assigned_in_all new) ≡ true → is_among y (assigned_in_all old) ≡ true
    assigned_less h =
        append_more y (assigned_in (Do x.own x.own_body)) (assigned_in_all (followed x.between (alone (renamed_next x)))) (assigned_in (Do x.own x.own_body)) (assigned_in_all (followed x.between (alone (Do x.next x.next_body)))) (λ e. e)
        (λ e. followed_assigned y x.between (alone (Do x.next x.next_body))
        ∙ or_more (is_among y (assigned_in_all x.between)) (is_among y (assigned_in_all (alone (renamed_next x)))) (is_among y (assigned_in_all x.between)) (is_among y (assigned_in_all (alone (Do x.next x.next_body)))) (λ r. r)
        (append_more y (assigned_in (renamed_next x)) [] (assigned_in (Do x.next x.next_body)) [] next_assigned (λ r. r)) (sym (followed_assigned y x.between (alone (renamed_next x))) ∙ e)) h

    less_by : (ls : List Loop) → gap_loops x.gap 1 ≡ ls → is_among y (assigned_by (statement_with (outermost_or s ls) (renamed x))) ≡ true → is_among y (assigned_by (statement_with (outermost_or s ls) t)) ≡ true
    less_by [] e h = ap (λ (o : Option StmtTree). is_among y (assigned_by o)) (first_there ∙ sym new_first_there) ∙ h
    less_by (l ∷ ls) e h =
        outermost_more y new old assigned_less t (renamed x) x.gap 1 (subst (λ (ts : StmtTrees). Stand t 1 (all_numbered ts)) x.stands (whole_stands t)) (whole_stands (renamed x)) l ls e h

    pub unassigned_there : is_among y (assigned_by (statement_with (outermost_or s (nest_round (renamed x) s)) (renamed x))) ≡ false
    unassigned_there = false_unless (is_among y (assigned_by (statement_with (outermost_or s (nest_round (renamed x) s)) (renamed x)))) (λ h.
        both_ways (is_among y (assigned_by (statement_with (outermost_or s (nest_round t s)) t))) keeps.kept
        (ap (λ (ls : List Loop). is_among y (assigned_by (statement_with (outermost_or s ls) t))) old_nest
        ∙ less_by (gap_loops x.gap 1) refl (ap (λ (ls : List Loop). is_among y (assigned_by (statement_with (outermost_or s ls) (renamed x)))) (sym new_nest) ∙ h)))
