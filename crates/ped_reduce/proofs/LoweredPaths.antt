-- The paths of what comes of a program by lowering say no more than those of the program, of a scalar to which nothing is added.
use Rattle.std.proofs.Common.{◌≡◌, ◌⊎◌, ℕ, ◌+◌, Bool, true, false, not, ◌&&◌, ◌||◌, List, [], ◌∷◌, ◌++◌, map, Option, Some, None, refl, sym, ap, subst, ◌∙◌, if◌then◌else◌, inl, inr, append-nil, append_assoc}
use Rattle.std.proofs.lemmas.Bool.{or_left, or_right}
use Rattle.ped_base.specs.Lists.{is_same_text, is_among}
use Rattle.ped_base.proofs.NameEquality.{same_is}
use Rattle.ped_tree.proofs.NameLaws.Collected.{among_append}
use Rattle.ped_tree.specs.Tree.{ExprTree, Int, Var, Add, Mul, Div, Call, no_exprs, more_exprs, Head, StmtTree, StmtTrees, Assign, If, Do, Print, Read, Stop, Comment, no_stmts, more_stmts}
use Rattle.ped_tree.specs.declared.expressions.Intrinsic.TheVariants.{Mod}
use Rattle.ped_tree.specs.Numbering.{statement_count, statements_count}
use Rattle.ped_tree.specs.NamesIn.{loop_variables, all_loop_variables}
use Rattle.ped_rules.specs.ped_flow.specs.Events.{event, reads, assigns, unless_constant, scalars_in, reads_of, left_events, own_events, copied}
use Rattle.ped_rules.specs.ped_flow.specs.Summaries.{least_of, when, passing, summary_in_turn, summary_either, summary_trips, summary_events, summary_loop, summary_of, summary_of_all}
use Rattle.ped_rules.specs.ped_flow.proofs.Truths.{untrue, or_none}
use Rattle.ped_rules.specs.ped_flow.proofs.SumLaws.{in_turn-assoc}
use Rattle.ped_rules.specs.ped_steps.specs.Replacing.{followed, alone}
use Rattle.ped_rules.specs.ped_loop_runs.proofs.TidyLaws.TidyPathsSums.{Summary, AreNoMore, own_exit, events_keep, own_overwrites, own_lefts}
use Rattle.ped_rules.specs.ped_loop_runs.proofs.TidyLaws.TidyPathsGaps.{followed_sum}
use Rattle.ped_reduce.specs.Lists.{listed_name, unless_named, without_list}
use Rattle.ped_reduce.specs.Sums.{Sum, plus, minus}
use Rattle.ped_reduce.specs.Lowering.{Partials, at, zeros, with_sum, added_apart, sum_apart, summed, all_summed, addition, exit, exits, bare, lowered_loop}
use Rattle.ped_reduce.proofs.Resembling.{scalars_of}
use Rattle.ped_reduce.proofs.SumShapes.{operand, IsSumOf, IsApart, IsBare, apart_or_bare, scalar_among}
use Rattle.ped_reduce.proofs.LesserPaths.{IsLess, less_itself, less_by, in_turn_less, either_less, behind_less, cut_less, touches, quiet_events, touches_append, touched_by, read_first, events_end, own_less, loop_less, all_same_less}

-- the variables of DO loops stay where sums are kept apart
module _ (v : List ℕ) (ps : List Partials) where
  pub loops_followed : (a b : StmtTrees) → all_loop_variables (followed a b) ≡ all_loop_variables a ++ all_loop_variables b
  loops_followed no_stmts b = refl
  loops_followed (more_stmts s a) b = ap (λ (z : List (List ℕ)). loop_variables s ++ z) (loops_followed a b) ∙ sym (append_assoc (loop_variables s) (all_loop_variables a) (all_loop_variables b))

  assigned_loops : (left right : ExprTree) (ws : StmtTrees) → IsApart v ps left right ws ⊎ IsBare ps left right ws → all_loop_variables ws ≡ []
  assigned_loops left right ws (inl a) = ap all_loop_variables a.is
  assigned_loops left right ws (inr b) = ap all_loop_variables b.is

  mutual
    same_loops : (s : StmtTree) → all_loop_variables (summed v ps s) ≡ loop_variables s
    same_loops (Assign left right) = assigned_loops left right (sum_apart v ps (Assign left right)) (apart_or_bare v left right ps)
    same_loops (If c a b) = append-nil (all_loop_variables (all_summed v ps a) ++ all_loop_variables (all_summed v ps b)) ∙ (λ i. all_same_loops a i ++ all_same_loops b i)
    same_loops (Do h body) = append-nil (h.variable ∷ all_loop_variables (all_summed v ps body)) ∙ ap (λ (z : List (List ℕ)). h.variable ∷ z) (all_same_loops body)
    same_loops (Print items) = refl
    same_loops (Read items) = refl
    same_loops Stop = refl
    same_loops (Comment text) = refl

    pub all_same_loops : (ss : StmtTrees) → all_loop_variables (all_summed v ps ss) ≡ all_loop_variables ss
    all_same_loops no_stmts = refl
    all_same_loops (more_stmts s rest) = loops_followed (summed v ps s) (all_summed v ps rest) ∙ (λ i. same_loops s i ++ all_same_loops rest i)

module _ (cs : List (List ℕ)) (w : List ℕ) (v : List ℕ) (ps : List Partials) (unsummed : is_among w (scalars_of ps) ≡ false) where
  -- a scalar that isn't the DO's variable
  module _ (other : is_same_text w v ≡ false) where
    among_one : (x : List ℕ) → is_same_text w x ≡ false → is_among w (unless_constant cs x) ≡ false
    among_one x h = by (is_among x cs)
      where
        by : (b : Bool) → is_among w (if b then [] else x ∷ []) ≡ false
        by true = refl
        by false = ap (λ (b : Bool). b || false) h

    pub neither : (xs ys : List (List ℕ)) → is_among w xs ≡ false → is_among w ys ≡ false → is_among w (xs ++ ys) ≡ false
    neither xs ys h k = among_append w xs ys ∙ (λ i. h i || k i)

    -- an element at the DO's variable reads that alone
    pub element_none : (array : List ℕ) → is_among w (scalars_in cs (at array v)) ≡ false
    element_none array = neither (unless_constant cs v) [] (among_one v other) refl

    reads_quiet : (n : ℕ) (xs : List (List ℕ)) → is_among w xs ≡ false → touches w (reads_of n xs) ≡ false
    reads_quiet n xs h = touched_by w reads n xs ∙ h

    -- an assignment to an element at the DO's variable
    pub element_touches : (n : ℕ) (array : List ℕ) (e : ExprTree) → is_among w (scalars_in cs e) ≡ false → touches w (own_events cs n (Assign (at array v) e)) ≡ false
    element_touches n array e h =
        touches_append w (reads_of n (scalars_in cs e)) (reads_of n (scalars_in cs (at array v))) (reads_quiet n (scalars_in cs e) h) (reads_quiet n (scalars_in cs (at array v)) (element_none array))

    element_quiet : (n : ℕ) (array : List ℕ) (e : ExprTree) → is_among w (scalars_in cs e) ≡ false → summary_events w (own_events cs n (Assign (at array v) e)) ≡ passing
    element_quiet n array e h =
        quiet_events w (own_events cs n (Assign (at array v) e)) (element_touches n array e h)

    turns : (a b : Summary) → a ≡ passing → b ≡ passing → summary_in_turn a b ≡ passing
    turns a b h k = λ i. summary_in_turn (h i) (k i)

    zeros_pass : (qs : List Partials) (m : ℕ) → summary_of_all cs w (zeros v qs) m ≡ passing
    zeros_pass [] m = refl
    zeros_pass (p ∷ qs) m =
        λ i. summary_in_turn (element_quiet m p.high (Int 0) refl i) (summary_in_turn (element_quiet (m + 1) p.low (Int 0) refl i) (summary_in_turn (element_quiet (m + 1 + 1) p.flag (Int 0) refl i) (zeros_pass qs (m + 1 + 1 + 1) i)))

    pub with_none : (array : List ℕ) (sum : Sum) → is_among w (scalars_in cs (operand sum)) ≡ false → is_among w (scalars_in cs (with_sum (at array v) sum)) ≡ false
    with_none array (plus e) h = neither (scalars_in cs (at array v)) (scalars_in cs e) (element_none array) h
    with_none array (minus e) h = neither (scalars_in cs (at array v)) (scalars_in cs e) (element_none array) h

    -- a sum that is kept apart, where what is added doesn't read the scalar
    apart_passes : (p : Partials) (sum : Sum) (m : ℕ) → is_among w (scalars_in cs (operand sum)) ≡ false → summary_of_all cs w (added_apart v p sum) m ≡ passing
    apart_passes p sum m h =
        let low = with_none p.low sum h in
        let high = neither (scalars_in cs (at p.high v)) (scalars_in cs (with_sum (at p.low v) sum) ++ []) (element_none p.high) (neither (scalars_in cs (with_sum (at p.low v) sum)) [] low refl) in
        let first = element_quiet m p.high (Add (at p.high v) (Div (with_sum (at p.low v) sum) (Int 65536))) high in
        let second = element_quiet (m + 1) p.low (Call Mod (more_exprs (with_sum (at p.low v) sum) (more_exprs (Int 65536) no_exprs))) (neither (scalars_in cs (with_sum (at p.low v) sum)) [] low refl) in
        let third = element_quiet (m + 1 + 1) p.flag (Int 1) refl in
        λ i. summary_in_turn (first i) (summary_in_turn (second i) (summary_in_turn (third i) passing))

    ends_turn : (a b : Summary) → a.ends ≡ false → b.ends ≡ false → (summary_in_turn a b).ends ≡ false
    ends_turn a b h k = (λ i. h i || (a.keeps && k i)) ∙ and_none a.keeps
      where
        and_none : (x : Bool) → (x && false) ≡ false
        and_none true = refl
        and_none false = refl

    apart_ends : (p : Partials) (sum : Sum) (m : ℕ) → (summary_of_all cs w (added_apart v p sum) m).ends ≡ false
    apart_ends p sum m =
        let first = summary_events w (own_events cs m (Assign (at p.high v) (Add (at p.high v) (Div (with_sum (at p.low v) sum) (Int 65536))))) in
        let second = summary_events w (own_events cs (m + 1) (Assign (at p.low v) (Call Mod (more_exprs (with_sum (at p.low v) sum) (more_exprs (Int 65536) no_exprs))))) in
        let third = summary_events w (own_events cs (m + 1 + 1) (Assign (at p.flag v) (Int 1))) in
        ends_turn first (summary_in_turn second (summary_in_turn third passing)) (events_end w (own_events cs m (Assign (at p.high v) (Add (at p.high v) (Div (with_sum (at p.low v) sum) (Int 65536))))))
        (ends_turn second (summary_in_turn third passing) (events_end w (own_events cs (m + 1) (Assign (at p.low v) (Call Mod (more_exprs (with_sum (at p.low v) sum) (more_exprs (Int 65536) no_exprs))))))
        (ends_turn third passing (events_end w (own_events cs (m + 1 + 1) (Assign (at p.flag v) (Int 1)))) refl))

    -- the scalar of a sum is another one
    not_scalar : (p : Partials) → is_among p.scalar (scalars_of ps) ≡ true → is_same_text w p.scalar ≡ false
    not_scalar p h = by (is_same_text w p.scalar) refl
      where
        by : (b : Bool) → is_same_text w p.scalar ≡ b → b ≡ false
        by true e = untrue (sym unsummed ∙ (ap (λ (x : List ℕ). is_among x (scalars_of ps)) (same_is w p.scalar e) ∙ h))
        by false e = refl

    -- what is added is read on the right side
    pub operand_less : (x : List ℕ) (left right : ExprTree) (sum : Sum) → IsSumOf x left right sum → is_among w (scalars_in cs right) ≡ false → is_among w (scalars_in cs (operand sum)) ≡ false
    operand_less x left right sum of h = elim of.shape [
      | inl q ↦ (or_none (is_among w (scalars_in cs (Var x))) (is_among w (scalars_in cs (operand sum))) (sym (among_append w (scalars_in cs (Var x)) (scalars_in cs (operand sum))) ∙ (ap (λ (e : ExprTree). is_among w (scalars_in cs e)) (sym q) ∙ h))).1
      | inr z ↦ elim z [
        | inl q ↦ (or_none (is_among w (scalars_in cs (operand sum))) (is_among w (scalars_in cs (Var x))) (sym (among_append w (scalars_in cs (operand sum)) (scalars_in cs (Var x))) ∙ (ap (λ (e : ExprTree). is_among w (scalars_in cs e)) (sym q) ∙ h))).0
        | inr q ↦ (or_none (is_among w (scalars_in cs (Var x))) (is_among w (scalars_in cs (operand sum))) (sym (among_append w (scalars_in cs (Var x)) (scalars_in cs (operand sum))) ∙ (ap (λ (e : ExprTree). is_among w (scalars_in cs e)) (sym q) ∙ h))).1
      ]
    ]

    -- a sum leaves other scalars as they are
    sum_keeps : (p : Partials) (left right : ExprTree) (sum : Sum) (n : ℕ) → is_among p.scalar (scalars_of ps) ≡ true → IsSumOf p.scalar left right sum → (summary_events w (own_events cs n (Assign left right))).keeps ≡ true
    sum_keeps p left right sum n among of =
        events_keep w (own_events cs n (Assign left right))
        ∙ ap not (own_overwrites cs w (Assign left right) n ∙ ap (λ (e : ExprTree). is_among w (own_lefts cs (Assign e right))) of.written ∙ among_one p.scalar (not_scalar p among))

    assigned_less : (left right : ExprTree) (n m : ℕ) (ws : StmtTrees) → IsApart v ps left right ws ⊎ IsBare ps left right ws → IsLess (summary_of_all cs w ws m) (summary_of cs w (Assign left right) n)
    assigned_less left right n m ws (inl a) =
        let among = scalar_among a.partials ps a.among in
        subst (λ (ts : StmtTrees). IsLess (summary_of_all cs w ts m) (summary_of cs w (Assign left right) n)) (sym a.is) (record {
          more = record {
            keeps = λ e. sum_keeps a.partials left right a.sum n among a.of;
            ends = λ e. untrue (sym (apart_ends a.partials a.sum m) ∙ e);
          };
          first = λ e. (let read = read_first w n (scalars_in cs right) (left_events cs n left) e in ap (λ (z : Summary). z.first) (apart_passes a.partials a.sum m (operand_less a.partials.scalar left right a.sum a.of read.0)));
        })
    assigned_less left right n m ws (inr b) =
        subst (λ (ts : StmtTrees). IsLess (summary_of_all cs w ts m) (summary_of cs w (Assign left right) n)) (sym b.is) (alone_less (Assign left right) (summary_of cs w (Assign left right) n) m (own_less w cs (Assign left right) m n))
      where
        alone_less : (s : StmtTree) (b : Summary) (m : ℕ) → IsLess (summary_of cs w s m) b → IsLess (summary_of_all cs w (alone s) m) b
        alone_less s b m h = behind_less (summary_of cs w s m) b passing h (λ e. refl) refl

    one_less : (s : StmtTree) (b : Summary) (m : ℕ) → IsLess (summary_of cs w s m) b → IsLess (summary_of_all cs w (alone s) m) b
    one_less s b m h = behind_less (summary_of cs w s m) b passing h (λ e. refl) refl

    pub followed_less : (a b : StmtTrees) (m : ℕ) (c d : Summary) → IsLess (summary_of_all cs w a m) c → IsLess (summary_of_all cs w b (m + statements_count a)) d → IsLess (summary_of_all cs w (followed a b) m) (summary_in_turn c d)
    followed_less a b m c d h k = subst (λ (z : Summary). IsLess z (summary_in_turn c d)) (sym (followed_sum cs w a b m)) (in_turn_less (summary_of_all cs w a m) (summary_of_all cs w b (m + statements_count a)) c d h k)

    -- the statements of the body
    mutual
      summed_less : (s : StmtTree) (n m : ℕ) → IsLess (summary_of_all cs w (summed v ps s) m) (summary_of cs w s n)
      summed_less (Assign left right) n m = assigned_less left right n m (sum_apart v ps (Assign left right)) (apart_or_bare v left right ps)
      summed_less (If c a b) n m =
          let new_a = all_summed v ps a in
          let new_b = all_summed v ps b in
          one_less (If c new_a new_b) (summary_of cs w (If c a b) n) m
          (in_turn_less (summary_events w (own_events cs m (If c a b))) (summary_either (summary_of_all cs w new_a (m + 1)) (summary_of_all cs w new_b (m + 1 + statements_count new_a)))
          (summary_events w (own_events cs n (If c a b))) (summary_either (summary_of_all cs w a (n + 1)) (summary_of_all cs w b (n + 1 + statements_count a)))
          (own_less w cs (If c a b) m n)
          (either_less (summary_of_all cs w new_a (m + 1)) (summary_of_all cs w new_b (m + 1 + statements_count new_a)) (summary_of_all cs w a (n + 1)) (summary_of_all cs w b (n + 1 + statements_count a))
          (all_summed_less a (n + 1) (m + 1)) (all_summed_less b (n + 1 + statements_count a) (m + 1 + statements_count new_a))))
      summed_less (Do h body) n m =
          let new = all_summed v ps body in
          let loops = all_same_loops v ps body in
          one_less (Do h new) (summary_of cs w (Do h body) n) m
          (in_turn_less (summary_events w (own_events cs m (Do h body))) (summary_loop w m h new (summary_of_all cs w new (m + 1))) (summary_events w (own_events cs n (Do h body))) (summary_loop w n h body (summary_of_all cs w body (n + 1)))
          (own_less w cs (Do h body) m n)
          (loop_less w cs h h new body m n (summary_of_all cs w new (m + 1)) (summary_of_all cs w body (n + 1))
          (λ e. ap (λ (xs : List (List ℕ)). is_among w (h.private ++ (if h.parallel then xs else []))) loops ∙ e)
          (λ e. ap (λ (xs : List (List ℕ)). is_among w (own_exit h ++ (h.private ++ (if h.parallel then xs else [])))) loops ∙ e)
          (all_summed_less body (n + 1) (m + 1))))
      summed_less (Print items) n m = one_less (Print items) (summary_of cs w (Print items) n) m (own_less w cs (Print items) m n)
      summed_less (Read items) n m = one_less (Read items) (summary_of cs w (Read items) n) m (own_less w cs (Read items) m n)
      summed_less Stop n m = one_less Stop (summary_of cs w Stop n) m (less_itself (summary_of cs w Stop n))
      summed_less (Comment text) n m = one_less (Comment text) passing m (less_itself passing)

      all_summed_less : (ss : StmtTrees) (n m : ℕ) → IsLess (summary_of_all cs w (all_summed v ps ss) m) (summary_of_all cs w ss n)
      all_summed_less no_stmts n m = less_itself passing
      all_summed_less (more_stmts s rest) n m =
          followed_less (summed v ps s) (all_summed v ps rest) m (summary_of cs w s n) (summary_of_all cs w rest (n + statement_count s)) (summed_less s n m) (all_summed_less rest (n + statement_count s) (m + statements_count (summed v ps s)))

    -- a list at the front says nothing
    behind_passing : (a b : Summary) → IsLess a b → IsLess a (summary_in_turn passing b)
    behind_passing a b h = record { more = record { keeps = h.more.keeps; ends = h.more.ends }; first = h.first }

    passing_before : (a b : Summary) → IsLess a b → IsLess (summary_in_turn passing a) b
    passing_before a b h = record { more = record { keeps = h.more.keeps; ends = h.more.ends }; first = h.first }

    unless_less : (o : Option (List ℕ)) (text : List ℕ) (rest : StmtTrees) (n m : ℕ) → IsLess (summary_of_all cs w (without_list rest) n) (summary_of_all cs w rest (m + 0))
        → IsLess (summary_of_all cs w (unless_named o (more_stmts (Comment text) rest) (without_list rest)) n) (summary_of_all cs w (more_stmts (Comment text) rest) m)
    unless_less None text rest n m h = all_same_less w cs (more_stmts (Comment text) rest) n m
    unless_less (Some x) text rest n m h = behind_passing (summary_of_all cs w (without_list rest) n) (summary_of_all cs w rest (m + 0)) h

    without_less : (ss : StmtTrees) (n m : ℕ) → IsLess (summary_of_all cs w (without_list ss) n) (summary_of_all cs w ss m)
    without_less no_stmts n m = less_itself passing
    without_less (more_stmts (Comment text) rest) n m = unless_less (listed_name text) text rest n m (without_less rest n (m + 0))
    without_less (more_stmts (Assign left right) rest) n m = all_same_less w cs (more_stmts (Assign left right) rest) n m
    without_less (more_stmts (If c a b) rest) n m = all_same_less w cs (more_stmts (If c a b) rest) n m
    without_less (more_stmts (Do h body) rest) n m = all_same_less w cs (more_stmts (Do h body) rest) n m
    without_less (more_stmts (Print items) rest) n m = all_same_less w cs (more_stmts (Print items) rest) n m
    without_less (more_stmts (Read items) rest) n m = all_same_less w cs (more_stmts (Read items) rest) n m
    without_less (more_stmts Stop rest) n m = all_same_less w cs (more_stmts Stop rest) n m

    -- the whole body
    body_less : (body : StmtTrees) (n m : ℕ) → IsLess (summary_of_all cs w (followed (zeros v ps) (all_summed v ps (without_list body))) m) (summary_of_all cs w body n)
    body_less body n m =
        let at_zeros = m + statements_count (zeros v ps) in
        let inner = summary_of_all cs w (all_summed v ps (without_list body)) at_zeros in
        let less = less_by inner (summary_of_all cs w (without_list body) n) (summary_of_all cs w body n) (all_summed_less (without_list body) n at_zeros) (without_less body n n) in
        subst (λ (z : Summary). IsLess z (summary_of_all cs w body n)) (sym (followed_sum cs w (zeros v ps) (all_summed v ps (without_list body)) m ∙ ap (λ (z : Summary). summary_in_turn z inner) (zeros_pass ps m)))
        (passing_before inner (summary_of_all cs w body n) less)

    -- the exit adds to other scalars
    addition_passes : (p : Partials) (m : ℕ) → is_same_text w p.scalar ≡ false → summary_events w (own_events cs m (addition v p)) ≡ passing
    addition_passes p m h =
        let right = Add (Var p.scalar) (Add (Mul (at p.high v) (Int 65536)) (at p.low v)) in
        let product = neither (scalars_in cs (at p.high v)) [] (element_none p.high) refl in
        let sum = neither (scalars_in cs (at p.high v) ++ []) (scalars_in cs (at p.low v)) product (element_none p.low) in
        quiet_events w (own_events cs m (addition v p))
        (touches_append w (reads_of m (scalars_in cs right)) (map (event m assigns) (unless_constant cs p.scalar))
        (reads_quiet m (scalars_in cs right) (neither (unless_constant cs p.scalar) (scalars_in cs (at p.high v) ++ [] ++ scalars_in cs (at p.low v)) (among_one p.scalar h) sum))
        (touched_by w assigns m (unless_constant cs p.scalar) ∙ among_one p.scalar h))

    exits_pass : (qs : List Partials) → is_among w (scalars_of qs) ≡ false → (m : ℕ) → summary_of_all cs w (exits v qs) m ≡ passing
    exits_pass [] h m = refl
    exits_pass (p ∷ qs) h m =
        let parts = or_none (is_same_text w p.scalar) (is_among w (scalars_of qs)) h in
        let flag = quiet_events w (reads_of m (scalars_in cs (at p.flag v) ++ [])) (reads_quiet m (scalars_in cs (at p.flag v) ++ []) (neither (scalars_in cs (at p.flag v)) [] (element_none p.flag) refl)) in
        let add = addition_passes p (m + 1) parts.0 in
        λ i. summary_in_turn (summary_in_turn (flag i) (summary_either (summary_in_turn (add i) passing) passing)) (exits_pass qs parts.1 (m + statement_count (exit v p)) i)

-- a lowered DO
module _ (cs : List (List ℕ)) (w : List ℕ) (ps : List Partials) (unsummed : is_among w (scalars_of ps) ≡ false) (parallel : Bool) (h : Head) (body : StmtTrees) (serial : h.parallel ≡ false) where
  abbrev head : Head
  head = record h { parallel = parallel }

  abbrev new : StmtTrees
  new = followed (zeros h.variable ps) (all_summed h.variable ps (without_list body))

  abbrev own : ℕ → Summary
  own m = summary_events w (own_events cs m (Do h body))

  -- the DO of the exit
  abbrev Exit : ℕ → Summary
  Exit m = summary_of_all cs w (alone (Do (bare h) (exits h.variable ps))) m

  -- it clears at least as much
  starts : AreNoMore w (copied h body) (copied head new)
  starts e = left_in h.private (if parallel then all_loop_variables new else []) (private_only (ap (λ (b : Bool). is_among w (h.private ++ (if b then all_loop_variables body else []))) (sym serial) ∙ e))
    where
      left_in : (xs ys : List (List ℕ)) → is_among w xs ≡ true → is_among w (xs ++ ys) ≡ true
      left_in xs ys k = among_append w xs ys ∙ or_left (is_among w xs) (is_among w ys) k

      private_only : is_among w (h.private ++ []) ≡ true → is_among w h.private ≡ true
      private_only k = ap (is_among w) (sym (append-nil h.private)) ∙ k

  exits_more : AreNoMore w (own_exit h ++ copied h body) (own_exit head ++ copied head new)
  exits_more e = right_in (own_exit head) (copied head new) (starts (ap (λ (b : Bool). is_among w ((if b then h.variable ∷ [] else []) ++ copied h body)) (sym serial) ∙ e))
    where
      right_in : (xs ys : List (List ℕ)) → is_among w ys ≡ true → is_among w (xs ++ ys) ≡ true
      right_in xs ys k = among_append w xs ys ∙ or_right (is_among w xs) (is_among w ys) k

  -- where the scalar is another than the DO's variable
  module _ (other : is_same_text w h.variable ≡ false) where
    first_less : (n m : ℕ) → IsLess (summary_of cs w (Do head new) m) (summary_of cs w (Do h body) n)
    first_less n m =
        in_turn_less (own m) (summary_loop w m head new (summary_of_all cs w new (m + 1))) (own n) (summary_loop w n h body (summary_of_all cs w body (n + 1))) (own_less w cs (Do h body) m n)
        (loop_less w cs head h new body m n (summary_of_all cs w new (m + 1)) (summary_of_all cs w body (n + 1)) starts exits_more (body_less cs w h.variable ps unsummed other body (n + 1) (m + 1)))

    exit_is : (m : ℕ) → Exit m ≡ summary_in_turn (summary_in_turn (own m) (summary_in_turn (summary_trips (summary_in_turn passing passing)) passing)) passing
    exit_is m = ap (λ (z : Summary). summary_in_turn (summary_in_turn (own m) (summary_in_turn (summary_trips (summary_in_turn passing z)) passing)) passing) (exits_pass cs w h.variable ps unsummed other ps unsummed (m + 1))

    when_none : (b : Bool) → when b None ≡ None
    when_none true = refl
    when_none false = refl

    exit_reads : (m : ℕ) → (own m).first ≡ None → (Exit m).first ≡ None
    exit_reads m e =
        ap (λ (z : Summary). z.first) (exit_is m)
        ∙ (λ i. least_of (least_of (e i) (when_none (own m).keeps i)) (when_none ((own m).keeps && true) i))

    exit_ends : (m : ℕ) → (Exit m).ends ≡ false
    exit_ends m =
        ap (λ (z : Summary). z.ends) (exit_is m)
        ∙ (λ i. (events_end w (own_events cs m (Do h body)) i || none (own m).keeps i) || none ((own m).keeps && true) i)
      where
        none : (b : Bool) → (b && false) ≡ false
        none true = refl
        none false = refl

    pub other_less : (n m : ℕ) → IsLess (summary_of_all cs w (lowered_loop parallel ps h body) m) (summary_of cs w (Do h body) n)
    other_less n m =
        let k = m + statement_count (Do head new) in
        behind_less (summary_of cs w (Do head new) m) (summary_of cs w (Do h body) n) (Exit k) (first_less n m)
        (λ e. exit_reads k ((own_less w cs (Do h body) k n).first (none_first (own n).first (when (own n).keeps (summary_loop w n h body (summary_of_all cs w body (n + 1))).first) e))) (exit_ends k)
      where
        none_first : (a b : Option ℕ) → least_of a b ≡ None → a ≡ None
        none_first None b e = refl
        none_first (Some a) None e = absurd cc
        none_first (Some a) (Some b) e = absurd cc

  -- where it is that, it is overwritten first
  own_cut : (m : ℕ) → is_same_text w h.variable ≡ true → (own m).keeps ≡ false
  own_cut m e = events_keep w (own_events cs m (Do h body)) ∙ ap not (own_overwrites cs w (Do h body) m ∙ ap (λ (b : Bool). b || false) e)

  same_variable_less : (n m : ℕ) → is_same_text w h.variable ≡ true → IsLess (summary_of_all cs w (lowered_loop parallel ps h body) m) (summary_of cs w (Do h body) n)
  same_variable_less n m e =
      let loop = summary_loop w m head new (summary_of_all cs w new (m + 1)) in
      let behind = Exit (m + statement_count (Do head new)) in
      subst (λ (z : Summary). IsLess z (summary_of cs w (Do h body) n)) (sym (in_turn-assoc (own m) loop behind))
      (cut_less (own m) (summary_in_turn loop behind) (own n) (summary_loop w n h body (summary_of_all cs w body (n + 1))) (own_less w cs (Do h body) m n) (own_cut m e))

  -- its paths say no more than those of the DO
  pub lowered_less : (n m : ℕ) → IsLess (summary_of_all cs w (lowered_loop parallel ps h body) m) (summary_of cs w (Do h body) n)
  lowered_less n m = by (is_same_text w h.variable) refl
    where
      by : (b : Bool) → is_same_text w h.variable ≡ b → IsLess (summary_of_all cs w (lowered_loop parallel ps h body) m) (summary_of cs w (Do h body) n)
      by true e = same_variable_less n m e
      by false e = other_less e n m

  -- what the DO that adds up does, where no bound reads the scalar
  abbrev pub Adding : ℕ → Summary
  Adding m = summary_of cs w (Do (bare h) (exits h.variable ps)) m

  abbrev Trips : ℕ → Summary
  Trips m = summary_loop w m (bare h) (exits h.variable ps) (summary_of_all cs w (exits h.variable ps) (m + 1))

  pub adding_first : (m : ℕ) → (own m).first ≡ None → (Adding m).first ≡ None
  adding_first m none = by (is_same_text w h.variable) refl
    where
      by : (b : Bool) → is_same_text w h.variable ≡ b → (Adding m).first ≡ None
      by false e = ap (λ (z : Summary). (summary_in_turn (own m) (summary_in_turn (summary_trips (summary_in_turn passing z)) passing)).first) (exits_pass cs w h.variable ps unsummed e ps unsummed (m + 1)) ∙ (λ i. least_of (none i) (when_none e (own m).keeps i))
      by true e = λ i. least_of (none i) (when (own_cut m e i) (Trips m).first)

  pub adding_ends : (m : ℕ) → (Adding m).ends ≡ false
  adding_ends m = by (is_same_text w h.variable) refl
    where
      none : (b : Bool) → (b && false) ≡ false
      none true = refl
      none false = refl

      by : (b : Bool) → is_same_text w h.variable ≡ b → (Adding m).ends ≡ false
      by false e = ap (λ (z : Summary). (summary_in_turn (own m) (summary_in_turn (summary_trips (summary_in_turn passing z)) passing)).ends) (exits_pass cs w h.variable ps unsummed e ps unsummed (m + 1)) ∙ (λ i. events_end w (own_events cs m (Do h body)) i || none (own m).keeps i)
      by true e = λ i. events_end w (own_events cs m (Do h body)) i || (own_cut m e i && (Trips m).ends)
