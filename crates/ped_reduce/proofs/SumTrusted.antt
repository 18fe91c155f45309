-- A program in which the sums of a DO are kept apart, in order, may be trusted where the old one may: it stays tidy, and no C$PED REJECT comes.
use Rattle.std.proofs.Common.{◌≡◌, ℕ, ◌+◌, List, [], ◌∷◌, ◌++◌, Bool, true, false, ◌&&◌, ◌||◌, not, ◌⊎◌, inl, inr, if◌then◌else◌, Option, Some, None, append-nil, refl, sym, ap, subst, ◌∙◌, arith}
use Rattle.std.specs.List.{flat_map, list_any}
use Rattle.std.proofs.lemmas.Bool.{both_ways}
use Rattle.std.proofs.lemmas.List.Concat.{flat_map-append}
use Rattle.ped_base.specs.Lists.{has_some, is_same_text, is_among}
use Rattle.ped_tree.proofs.NameLaws.Collected.{among_append}
use Rattle.ped_tree.specs.Accesses.{constants_in, constant_names}
use Rattle.ped_tree.specs.NamesIn.{loop_variables, all_loop_variables}
use Rattle.ped_tree.specs.Nests.{Loop}
use Rattle.ped_tree.specs.Numbering.{statement_count, statements_count}
use Rattle.ped_tree.specs.Tree.{ExprTree, Int, CondTree, Rel, Head, StmtTree, StmtTrees, Assign, If, Do, Print, Read, Stop, Comment, no_stmts, more_stmts, DeclTree, ProgramTree}
use Rattle.ped_tree.specs.declared.conditions.Relation.TheVariants.{Eq}
use Rattle.ped_rules.specs.ped_flow.proofs.Truths.{or_none, and_split}
use Rattle.ped_rules.specs.ped_flow.specs.PlainBounds.{all_loops_round, nest_round}
use Rattle.ped_rules.specs.ped_flow.specs.Questions.{LoopOf, IsShownBehind}
use Rattle.ped_rules.specs.ped_flow.specs.Summaries.{summary_of, summary_of_all}
use Rattle.ped_rules.specs.ped_laws.proofs.FlowRunLaws.Stopping.{fitting_stops, loop_stops}
use Rattle.ped_rules.specs.ped_laws.specs.Acts.Orders.{IsIn}
use Rattle.ped_rules.specs.ped_laws.specs.FlowRuns.Covering.{has_stop, some_stop}
use Rattle.ped_rules.specs.ped_steps.specs.Replacing.{followed, alone}
use Rattle.ped_rules.specs.ped_steps.specs.Runs.Gaps.{Gap, at_front, past, in_then, in_else, in_body, filled}
use Rattle.ped_rules.specs.ped_steps.proofs.RunLaws.ReplacedTrees.{HasGap, program_gap}
use Rattle.ped_rules.specs.ped_loop_runs.specs.Exchanges.{Exchange, start_of, loop_of, IsExchanged}
use Rattle.ped_rules.specs.ped_loop_runs.specs.Unrejected.{has_rejection, some_rejection, IsTrusted}
use Rattle.ped_rules.specs.ped_loop_runs.specs.Writing.{writes_name, writes, all_write, writes_index, some_write_index}
use Rattle.ped_rules.specs.ped_loop_runs.proofs.TidyLaws.TidyPathsPrivate.{cleared_private}
use Rattle.ped_rules.specs.ped_loop_runs.proofs.TidyLaws.TidyReferencesFilled.{all_followed}
use Rattle.ped_rules.specs.ped_loop_runs.proofs.TidyLaws.WrittenIndices.{none_of, of_none, written, followed_index}
use Rattle.ped_rules.specs.OnlyLoops.{on_loop}
use Rattle.ped_rules.specs.Spans.{Span}
use Rattle.ped_rules.proofs.NestLaws.InnerPlaces.{loops_of_program}
use Rattle.ped_rules.proofs.NameLaws.UnnamedCells.{all_loops_named, unnamed_statements}
use Rattle.ped_reduce.specs.Lists.{listed_name, unless_named, without_list}
use Rattle.ped_reduce.specs.Sums.{Sum}
use Rattle.ped_reduce.specs.Lowering.{Partials, declarations, at, zeros, added_apart, sum_apart, summed, all_summed, addition, exit, exits, bare, lowered_loop}
use Rattle.ped_reduce.proofs.LoopsRoundGaps.{gap_loops, gap_nest}
use Rattle.ped_reduce.proofs.SumShapes.{IsApart, IsBare, apart_or_bare}
use Rattle.ped_reduce.proofs.LoweredPaths.{loops_followed, all_same_loops}
use Rattle.ped_reduce.proofs.LoweredBehind.{without_loops}
use Rattle.ped_reduce.proofs.SumStores.{is_array_of}
use Rattle.ped_reduce.proofs.SumDeclared.{saved_declared}
use Rattle.ped_reduce.proofs.SumGoals.{kept_apart, MayKeepApart, KeptApartTrusted}
use Rattle.ped_reduce.proofs.TidyExchanges.{tidy_unwritten, KeepVariables, keeps_trust}

or_false : (a : Bool) → (a || false) ≡ a
or_false true = refl
or_false false = refl

or_assoc : (a b c : Bool) → (a || (b || c)) ≡ ((a || b) || c)
or_assoc true b c = refl
or_assoc false b c = refl

again : (a b : Bool) → ((a || b) || (a || false)) ≡ (a || b)
again true b = refl
again false b = or_false b

-- a list is comments, of which nothing is told
module _ (all : StmtTrees → Bool) (told : StmtTree → Bool) (more : (s : StmtTree) (rest : StmtTrees) → all (more_stmts s rest) ≡ (told s || all rest)) (commented : (text : List ℕ) → told (Comment text) ≡ false) where
  unless_tells : (o : Option (List ℕ)) (text : List ℕ) (rest : StmtTrees) → all (without_list rest) ≡ all rest → all (unless_named o (more_stmts (Comment text) rest) (without_list rest)) ≡ all (more_stmts (Comment text) rest)
  unless_tells None text rest e = refl
  unless_tells (Some y) text rest e = e ∙ sym (more (Comment text) rest ∙ ap (λ (b : Bool). b || all rest) (commented text))

  without_tells : (ts : StmtTrees) → all (without_list ts) ≡ all ts
  without_tells no_stmts = refl
  without_tells (more_stmts (Comment text) rest) = unless_tells (listed_name text) text rest (without_tells rest)
  without_tells (more_stmts (Assign left right) rest) = refl
  without_tells (more_stmts (If c a b) rest) = refl
  without_tells (more_stmts (Do h body) rest) = refl
  without_tells (more_stmts (Print items) rest) = refl
  without_tells (more_stmts (Read items) rest) = refl
  without_tells (more_stmts Stop rest) = refl

-- what is told of statements by "or", and of no assignment and no comment, is told of statements in which sums are kept apart as of the old ones
module _ (all : StmtTrees → Bool) (told : StmtTree → Bool) (own : Head → Bool) (none : all no_stmts ≡ false) (more : (s : StmtTree) (rest : StmtTrees) → all (more_stmts s rest) ≡ (told s || all rest))
    (assigned : (left right : ExprTree) → told (Assign left right) ≡ false) (commented : (text : List ℕ) → told (Comment text) ≡ false)
    (of_if : (c : CondTree) (a b : StmtTrees) → told (If c a b) ≡ (all a || all b)) (of_do : (h : Head) (body : StmtTrees) → told (Do h body) ≡ (own h || all body))
    (v : List ℕ) (ps : List Partials) where
  alone_tells : (s : StmtTree) → all (alone s) ≡ told s
  alone_tells s = more s no_stmts ∙ ap (λ (b : Bool). told s || b) none ∙ or_false (told s)

  followed_tells : (a b : StmtTrees) → all (followed a b) ≡ (all a || all b)
  followed_tells no_stmts b = ap (λ (x : Bool). x || all b) (sym none)
  followed_tells (more_stmts s a) b = more s (followed a b) ∙ ap (λ (x : Bool). told s || x) (followed_tells a b) ∙ or_assoc (told s) (all a) (all b) ∙ ap (λ (x : Bool). x || all b) (sym (more s a))

  one_more : (left right : ExprTree) (rest : StmtTrees) → all rest ≡ false → all (more_stmts (Assign left right) rest) ≡ false
  one_more left right rest e = more (Assign left right) rest ∙ (λ i. assigned left right i || e i)

  zeros_tell : (qs : List Partials) → all (zeros v qs) ≡ false
  zeros_tell [] = none
  zeros_tell (p ∷ qs) = one_more (at p.high v) (Int 0) _ (one_more (at p.low v) (Int 0) _ (one_more (at p.flag v) (Int 0) (zeros v qs) (zeros_tell qs)))

  exits_tell : (qs : List Partials) → all (exits v qs) ≡ false
  exits_tell [] = none
  exits_tell (p ∷ qs) = more (exit v p) (exits v qs) ∙ (λ i. exit_tells i || exits_tell qs i)
    where
      addition_tells : all (alone (addition v p)) ≡ false
      addition_tells = one_more _ _ no_stmts none

      exit_tells : told (exit v p) ≡ false
      exit_tells = of_if (Rel Eq (at p.flag v) (Int 1)) (alone (addition v p)) no_stmts ∙ (λ i. addition_tells i || none i)

  added_tells : (p : Partials) (sum : Sum) → all (added_apart v p sum) ≡ false
  added_tells p sum = one_more _ _ _ (one_more _ _ _ (one_more _ _ no_stmts none))

  assigned_tells : (left right : ExprTree) (ws : StmtTrees) → IsApart v ps left right ws ⊎ IsBare ps left right ws → all ws ≡ told (Assign left right)
  assigned_tells left right ws (inl a) = ap all a.is ∙ added_tells a.partials a.sum ∙ sym (assigned left right)
  assigned_tells left right ws (inr b) = ap all b.is ∙ alone_tells (Assign left right)

  mutual
    one_tells : (s : StmtTree) → all (summed v ps s) ≡ told s
    one_tells (Assign left right) = assigned_tells left right (sum_apart v ps (Assign left right)) (apart_or_bare v left right ps)
    one_tells (If c a b) = alone_tells (If c (all_summed v ps a) (all_summed v ps b)) ∙ of_if c (all_summed v ps a) (all_summed v ps b) ∙ (λ i. all_tell a i || all_tell b i) ∙ sym (of_if c a b)
    one_tells (Do h body) = alone_tells (Do h (all_summed v ps body)) ∙ of_do h (all_summed v ps body) ∙ ap (λ (x : Bool). own h || x) (all_tell body) ∙ sym (of_do h body)
    one_tells (Print items) = alone_tells (Print items)
    one_tells (Read items) = alone_tells (Read items)
    one_tells Stop = alone_tells Stop
    one_tells (Comment text) = alone_tells (Comment text)

    all_tell : (ss : StmtTrees) → all (all_summed v ps ss) ≡ all ss
    all_tell no_stmts = refl
    all_tell (more_stmts s rest) = followed_tells (summed v ps s) (all_summed v ps rest) ∙ (λ i. one_tells s i || all_tell rest i) ∙ sym (more s rest)

  body_tells : (body : StmtTrees) → all (followed (zeros v ps) (all_summed v ps (without_list body))) ≡ all body
  body_tells body = followed_tells (zeros v ps) (all_summed v ps (without_list body)) ∙ (λ i. zeros_tell ps i || (all_tell (without_list body) ∙ without_tells all told more commented body) i)

  loops_tell : (h g : Head) (body : StmtTrees) → all (more_stmts (Do h (followed (zeros v ps) (all_summed v ps (without_list body)))) (alone (Do g (exits v ps)))) ≡ ((own h || all body) || own g)
  loops_tell h g body =
      more (Do h (followed (zeros v ps) (all_summed v ps (without_list body)))) (alone (Do g (exits v ps)))
      ∙ (λ i. (of_do h (followed (zeros v ps) (all_summed v ps (without_list body))) ∙ ap (λ (x : Bool). own h || x) (body_tells body)) i
      || (alone_tells (Do g (exits v ps)) ∙ of_do g (exits v ps) ∙ ap (λ (x : Bool). own g || x) (exits_tell ps) ∙ or_false (own g)) i)

-- no STOP comes
lowered_stop : (ps : List Partials) (h : Head) (body : StmtTrees) → some_stop body ≡ false → some_stop (lowered_loop false ps h body) ≡ false
lowered_stop ps h body e =
    loops_tell some_stop has_stop (λ g. false) refl (λ s rest. refl) (λ left right. refl) (λ text. refl) (λ c a b. refl) (λ g b. refl) h.variable ps (record h { parallel = false }) (bare h) body
    ∙ (λ i. (false || e i) || false)

-- and no C$PED REJECT
lowered_rejection : (ps : List Partials) (h : Head) (body : StmtTrees) → some_rejection (alone (Do h body)) ≡ false → some_rejection (lowered_loop false ps h body) ≡ false
lowered_rejection ps h body e =
    loops_tell some_rejection has_rejection (λ g. has_some g.rejected) refl (λ s rest. refl) (λ left right. refl) (λ text. refl) (λ c a b. refl) (λ g b. refl) h.variable ps (record h { parallel = false }) (bare h) body
    ∙ e

-- which names are written where sums are kept apart
module _ (cs : List (List ℕ)) (v : List ℕ) (ps : List Partials) where
  -- the name is that of no array
  abbrev IsOther : List ℕ → Type 0
  IsOther w = (p : Partials) → IsIn p ps → is_array_of p w ≡ false

  name_unwritten : (w y : List ℕ) → is_same_text w y ≡ false → writes_name cs w y ≡ false
  name_unwritten w y e = by (is_among y cs)
    where
      by : (b : Bool) → (if b then false else is_same_text w y) ≡ false
      by true = refl
      by false = e

  module _ (w : List ℕ) (other : IsOther w) where
    added_unwritten : (p : Partials) → IsIn p ps → (sum : Sum) → all_write cs w (added_apart v p sum) ≡ false
    added_unwritten p among sum =
        let first = or_none (is_same_text w p.high) (is_same_text w p.low || is_same_text w p.flag) (other p among) in
        let second = or_none (is_same_text w p.low) (is_same_text w p.flag) first.1 in
        λ i. name_unwritten w p.high first.0 i || (name_unwritten w p.low second.0 i || (name_unwritten w p.flag second.1 i || false))

    assigned_unwritten : (left right : ExprTree) (ws : StmtTrees) → IsApart v ps left right ws ⊎ IsBare ps left right ws → writes cs w (Assign left right) ≡ false → all_write cs w ws ≡ false
    assigned_unwritten left right ws (inl a) e = ap (all_write cs w) a.is ∙ added_unwritten a.partials a.among a.sum
    assigned_unwritten left right ws (inr b) e = ap (all_write cs w) b.is ∙ (λ i. e i || false)

    mutual
      one_unwritten : (s : StmtTree) → writes cs w s ≡ false → all_write cs w (summed v ps s) ≡ false
      one_unwritten (Assign left right) e = assigned_unwritten left right (sum_apart v ps (Assign left right)) (apart_or_bare v left right ps) e
      one_unwritten (If c a b) e = let p = or_none (all_write cs w a) (all_write cs w b) e in λ i. (all_unwritten a p.0 i || all_unwritten b p.1 i) || false
      one_unwritten (Do h body) e = let p = or_none (list_any (writes_name cs w) h.private) (all_write cs w body) e in λ i. (p.0 i || all_unwritten body p.1 i) || false
      one_unwritten (Print items) e = λ i. e i || false
      one_unwritten (Read items) e = λ i. e i || false
      one_unwritten Stop e = refl
      one_unwritten (Comment text) e = refl

      all_unwritten : (ss : StmtTrees) → all_write cs w ss ≡ false → all_write cs w (all_summed v ps ss) ≡ false
      all_unwritten no_stmts e = refl
      all_unwritten (more_stmts s rest) e =
          let p = or_none (writes cs w s) (all_write cs w rest) e in
          all_followed cs w (summed v ps s) (all_summed v ps rest) ∙ (λ i. one_unwritten s p.0 i || all_unwritten rest p.1 i)

  -- no PARALLEL DO writes its variables, where none of these is one of the arrays
  round : (a : Bool) (b c : Bool) → (a && b) ≡ false → (b ≡ false → c ≡ false) → (a && c) ≡ false
  round true b c e k = k e
  round false b c e k = refl

  -- these names are those of no arrays
  abbrev AreOther : List (List ℕ) → Type 0
  AreOther names = (w : List ℕ) → is_among w names ≡ true → IsOther w

  left_among : (w : List ℕ) (xs ys : List (List ℕ)) → is_among w xs ≡ true → is_among w (xs ++ ys) ≡ true
  left_among w xs ys e = among_append w xs ys ∙ ap (λ (b : Bool). b || is_among w ys) e

  right_among : (w : List ℕ) (xs ys : List (List ℕ)) → is_among w ys ≡ true → is_among w (xs ++ ys) ≡ true
  right_among w xs ys e = among_append w xs ys ∙ late (is_among w xs) (is_among w ys) e
    where
      late : (a b : Bool) → b ≡ true → (a || b) ≡ true
      late true b e = refl
      late false b e = e

  assigned_index : (left right : ExprTree) (ws : StmtTrees) → IsApart v ps left right ws ⊎ IsBare ps left right ws → some_write_index cs ws ≡ false
  assigned_index left right ws (inl a) = ap (some_write_index cs) a.is
  assigned_index left right ws (inr b) = ap (some_write_index cs) b.is

  mutual
    one_index : (s : StmtTree) → AreOther (loop_variables s) → writes_index cs s ≡ false → some_write_index cs (summed v ps s) ≡ false
    one_index (Assign left right) other e = assigned_index left right (sum_apart v ps (Assign left right)) (apart_or_bare v left right ps)
    one_index (If c a b) other e =
        let p = or_none (some_write_index cs a) (some_write_index cs b) e in
        let first = all_index a (λ w k. other w (left_among w (all_loop_variables a) (all_loop_variables b) k)) p.0 in
        let second = all_index b (λ w k. other w (right_among w (all_loop_variables a) (all_loop_variables b) k)) p.1 in
        λ i. (first i || second i) || false
    one_index (Do h body) other e =
        let p = or_none (h.parallel && written cs h body) (some_write_index cs body) e in
        let inner = all_index body (λ w k. other w (right_among w (h.variable ∷ []) (all_loop_variables body) k)) p.1 in
        λ i. (round h.parallel (written cs h body) (written cs h (all_summed v ps body)) p.0 none i || inner i) || false
      where
        here : (w : List ℕ) → is_among w (h.variable ∷ all_loop_variables (all_summed v ps body)) ≡ true → is_among w (h.variable ∷ all_loop_variables body) ≡ true
        here w k = ap (λ (names : List (List ℕ)). is_among w (h.variable ∷ names)) (sym (all_same_loops v ps body)) ∙ k

        none : written cs h body ≡ false → written cs h (all_summed v ps body) ≡ false
        none old =
            none_of (λ w. all_write cs w (all_summed v ps body)) (h.variable ∷ all_loop_variables (all_summed v ps body))
            (λ w k. all_unwritten w (other w (here w k)) body (of_none (λ z. all_write cs z body) (h.variable ∷ all_loop_variables body) w old (here w k)))
    one_index (Print items) other e = refl
    one_index (Read items) other e = refl
    one_index Stop other e = refl
    one_index (Comment text) other e = refl

    all_index : (ss : StmtTrees) → AreOther (all_loop_variables ss) → some_write_index cs ss ≡ false → some_write_index cs (all_summed v ps ss) ≡ false
    all_index no_stmts other e = refl
    all_index (more_stmts s rest) other e =
        let p = or_none (writes_index cs s) (some_write_index cs rest) e in
        let first = one_index s (λ w k. other w (left_among w (loop_variables s) (all_loop_variables rest) k)) p.0 in
        let second = all_index rest (λ w k. other w (right_among w (loop_variables s) (all_loop_variables rest) k)) p.1 in
        followed_index cs (summed v ps s) (all_summed v ps rest) ∙ (λ i. first i || second i)

  zeros_index : (qs : List Partials) → some_write_index cs (zeros v qs) ≡ false
  zeros_index [] = refl
  zeros_index (p ∷ qs) = zeros_index qs

  exits_index : (qs : List Partials) → some_write_index cs (exits v qs) ≡ false
  exits_index [] = refl
  exits_index (p ∷ qs) = exits_index qs

  body_index : (body : StmtTrees) → AreOther (all_loop_variables body) → some_write_index cs body ≡ false → some_write_index cs (followed (zeros v ps) (all_summed v ps (without_list body))) ≡ false
  body_index body other e =
      followed_index cs (zeros v ps) (all_summed v ps (without_list body))
      ∙ (λ i. zeros_index ps i || all_index (without_list body) (λ w k. other w (ap (is_among w) (sym (without_loops body)) ∙ k)) (without_tells (some_write_index cs) (writes_index cs) (λ s rest. refl) (λ text. refl) body ∙ e) i)

-- in a gap round which no PARALLEL DO stands
module _ (cs : List (List ℕ)) (old new : StmtTrees) (unwritten : some_write_index cs old ≡ false → some_write_index cs new ≡ false) where
  serial_gap : (g : Gap) (n : ℕ) → list_any (λ (m : Loop). m.head.parallel) (gap_loops g n) ≡ false → some_write_index cs (filled g old) ≡ false → some_write_index cs (filled g new) ≡ false
  serial_gap (at_front rest) n serial e =
      let p = or_none (some_write_index cs old) (some_write_index cs rest) (sym (followed_index cs old rest) ∙ e) in
      followed_index cs new rest ∙ (λ i. unwritten p.0 i || p.1 i)
  serial_gap (past s g) n serial e =
      let p = or_none (writes_index cs s) (some_write_index cs (filled g old)) e in
      λ i. p.0 i || serial_gap g (n + statement_count s) serial p.1 i
  serial_gap (in_then c g b rest) n serial e =
      let p = or_none (some_write_index cs (filled g old) || some_write_index cs b) (some_write_index cs rest) e in
      let q = or_none (some_write_index cs (filled g old)) (some_write_index cs b) p.0 in
      λ i. (serial_gap g (n + 1) serial q.0 i || q.1 i) || p.1 i
  serial_gap (in_else c a g rest) n serial e =
      let p = or_none (some_write_index cs a || some_write_index cs (filled g old)) (some_write_index cs rest) e in
      let q = or_none (some_write_index cs a) (some_write_index cs (filled g old)) p.0 in
      λ i. (q.0 i || serial_gap g (n + 1 + statements_count a) serial q.1 i) || p.1 i
  serial_gap (in_body h g rest) n serial e =
      let both = or_none h.parallel (list_any (λ (m : Loop). m.head.parallel) (gap_loops g (n + 1))) serial in
      let p = or_none ((h.parallel && written cs h (filled g old)) || some_write_index cs (filled g old)) (some_write_index cs rest) e in
      let q = or_none (h.parallel && written cs h (filled g old)) (some_write_index cs (filled g old)) p.0 in
      λ i. ((both.0 i && written cs h (filled g new)) || serial_gap g (n + 1) both.1 q.1 i) || p.1 i

-- the new declarations name no constants
constants_none : (v : Span) (ps : List Partials) → flat_map constants_in (declarations v ps) ≡ []
constants_none v [] = refl
constants_none v (p ∷ ps) = constants_none v ps

constants_declared : (ds : List DeclTree) (v : Span) (ps : List Partials) → constant_names (ds ++ declarations v ps) ≡ constant_names ds
constants_declared ds v ps = flat_map-append constants_in ds (declarations v ps) ∙ ap (λ (xs : List (List ℕ)). flat_map constants_in ds ++ xs) (constants_none v ps) ∙ append-nil (flat_map constants_in ds)

-- the new statements before the loop of the exits, and in it, have no DO loops of their own
zeros_loops : (v : List ℕ) (ps : List Partials) → all_loop_variables (zeros v ps) ≡ []
zeros_loops v [] = refl
zeros_loops v (p ∷ ps) = zeros_loops v ps

exits_loops : (v : List ℕ) (ps : List Partials) → all_loop_variables (exits v ps) ≡ []
exits_loops v [] = refl
exits_loops v (p ∷ ps) = exits_loops v ps

module _ (t : ProgramTree) (s : ℕ) (loop : LoopOf t s) (ps : List Partials) (v : Span) (may : MayKeepApart t s loop ps v) where
  -- the old DO, and the new one
  abbrev d : Head
  d = loop.head

  abbrev h : Head
  h = record d { parallel = false }

  abbrev body : StmtTrees
  body = loop.body

  -- the new body, and the new statements
  abbrev inner : StmtTrees
  inner = followed (zeros loop.head.variable ps) (all_summed loop.head.variable ps (without_list loop.body))

  abbrev new : StmtTrees
  new = lowered_loop false ps loop.head loop.body

  abbrev cs : List (List ℕ)
  cs = constant_names t.decls

  abbrev u : ProgramTree
  u = kept_apart false t s ps v

  gap : HasGap (on_loop (lowered_loop false ps)) s (Do loop.head loop.body) 1 t.body u.body
  gap = program_gap (on_loop (lowered_loop false ps)) s (Do loop.head loop.body) t loop.is

  -- one is exchanged for the other
  abbrev exchange : Exchange
  exchange = record { gap = gap.gap; front = no_stmts; head = loop.head; body = loop.body; new = lowered_loop false ps loop.head loop.body }

  exchanged : IsExchanged exchange t u
  exchanged = record {
    old_body = gap.old_is;
    comments = no_stmts;
    uncounted = refl;
    new_body = gap.new_is;
    constants = constants_declared t.decls v ps;
    saved = saved_declared t.decls v ps;
    unstopped = lowered_stop ps loop.head loop.body (loop_stops t s loop (fitting_stops t may.valid.fits));
  }

  -- the variables of DO loops are the same
  inner_loops : all_loop_variables inner ≡ all_loop_variables body
  inner_loops =
      loops_followed d.variable ps (zeros d.variable ps) (all_summed d.variable ps (without_list body))
      ∙ (λ i. zeros_loops d.variable ps i ++ (all_same_loops d.variable ps (without_list body) ∙ without_loops body) i)

  only : (w : List ℕ) → is_among w (all_loop_variables (alone (Do d body))) ≡ is_among w (loop_variables (Do d body))
  only w = ap (is_among w) (append-nil (loop_variables (Do d body)))

  same_variables : (w : List ℕ) → is_among w (all_loop_variables new) ≡ is_among w (loop_variables (Do d body))
  same_variables w =
      (λ i. is_among w ((d.variable ∷ inner_loops i) ++ ((d.variable ∷ exits_loops d.variable ps i) ++ [])))
      ∙ among_append w (loop_variables (Do d body)) (d.variable ∷ [])
      ∙ again (is_same_text w d.variable) (is_among w (all_loop_variables body))

  stands_at : loop_of exchange ≡ s
  stands_at = let n = gap.number in omega (arith, n)

  unshown : (w : List ℕ) → is_among w (all_loop_variables (alone (Do d body))) ≡ true → IsShownBehind t (loop_of exchange) w → ⊥
  unshown w among shown = (may.contained w (record { loop = loop; among = sym (only w) ∙ among })).1 (inr (subst (λ (n : ℕ). IsShownBehind t n w) stands_at shown))

  -- none of them is one of the arrays
  other : (w : List ℕ) → is_among w (loop_variables (Do d body)) ≡ true → (p : Partials) → IsIn p ps → is_array_of p w ≡ false
  other w among p i = go (is_array_of p w) refl
    where
      go : (c : Bool) → is_array_of p w ≡ c → is_array_of p w ≡ false
      go true e = absurd (both_ways (is_among w (all_loop_variables t.body)) (all_loops_named w t.body (unnamed_statements t w (may.fresh p w i e))) (loops_of_program t s loop w among))
      go false e = e

  new_index : some_write_index cs (alone (Do d body)) ≡ false → some_write_index cs new ≡ false
  new_index none =
      let first = or_none ((d.parallel && written cs d body) || some_write_index cs body) false none in
      let old = or_none (d.parallel && written cs d body) (some_write_index cs body) first.0 in
      λ i. body_index cs d.variable ps body (λ w k. other w (right_among cs d.variable ps w (d.variable ∷ []) (all_loop_variables body) k)) old.1 i || (exits_index cs d.variable ps ps i || false)

  -- no PARALLEL DO stands round the DO
  serial : list_any (λ (m : Loop). m.head.parallel) (gap_loops gap.gap 1) ≡ false
  serial =
      ap (λ (ls : List Loop). list_any (λ (m : Loop). m.head.parallel) ls)
      (sym (ap (λ (ts : StmtTrees). all_loops_round s ts 1) gap.old_is ∙ gap_nest s (alone (Do d body)) (omega arith) gap.gap 1 gap.number))
      ∙ (or_none d.parallel (list_any (λ (m : Loop). m.head.parallel) (nest_round t s)) may.in_order).1

  leaves : (w : List ℕ) → is_among w (all_loop_variables new) ≡ false → (summary_of_all cs w new (start_of exchange)).keeps ≡ true → (summary_of_all cs w (alone (Do d body)) (start_of exchange)).keeps ≡ true
  leaves w none keeps =
      let n : ℕ = start_of exchange in
      let outside : is_among w (loop_variables (Do d body)) ≡ false = sym (same_variables w) ∙ none in
      let new_outside : is_among w (loop_variables (Do h inner)) ≡ false = ap (λ (names : List (List ℕ)). is_among w (d.variable ∷ names)) inner_loops ∙ outside in
      let first = (and_split (summary_of cs w (Do h inner) n).keeps (summary_of_all cs w (alone (Do (bare d) (exits d.variable ps))) (n + statement_count (Do h inner))).keeps keeps).0 in
      let unprivate : not (is_among w d.private) ≡ true = sym (cleared_private cs w h inner n new_outside) ∙ first in
      λ i. (cleared_private cs w d body n outside ∙ unprivate) i && true

  module _ (trusted : IsTrusted t) where
    keep : KeepVariables exchange t u
    keep = record {
      is = exchanged;
      body = gap.new_is;
      variables = λ w. same_variables w ∙ sym (only w);
      unshown = unshown;
      unwritten = ap (some_write_index cs) gap.new_is ∙ serial_gap cs (alone (Do d body)) new new_index gap.gap 1 serial (ap (some_write_index cs) (sym gap.old_is) ∙ tidy_unwritten t trusted.tidy);
      leaves = leaves;
    }

    stays_trusted : IsTrusted u
    stays_trusted = keeps_trust exchange t u keep (lowered_rejection ps d body) trusted

pub kept_apart_trusted : KeptApartTrusted
kept_apart_trusted t s loop ps v may valid trusted = stays_trusted t s loop ps v may trusted
