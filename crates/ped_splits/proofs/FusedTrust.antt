-- What the one DO leaves alone that two neighbours left alone: it has no other variables, writes no other names, has no C$PED REJECT where they had none, and its PARALLEL DOs write their variables no more than theirs.
use Rattle.std.proofs.Common.{◌≡◌, ◌⊎◌, ℕ, ◌+◌, ◌<◌, ◌==◌, List, [], ◌∷◌, ◌++◌, Bool, true, false, not, ◌||◌, ◌&&◌, if◌then◌else◌, inl, inr, refl, sym, ap, subst, ◌∙◌, append-nil, arith, eq-eqb, ne_eqb}
use Rattle.std.specs.List.{list_any}
use Rattle.std.proofs.lemmas.Bool.{and_parts, both_ways, or_parts}
use Rattle.ped_base.proofs.NameEquality.{same_itself, same_is, same_flip}
use Rattle.ped_base.specs.Lists.{has_some, is_among, is_same_text}
use Rattle.ped_tree.proofs.NameLaws.Collected.{among_append}
use Rattle.ped_tree.specs.Accesses.{constant_names}
use Rattle.ped_tree.specs.Names.Collecting.{with_names}
use Rattle.ped_tree.specs.NamesIn.{all_loop_variables, cond_names, head_names, loop_variables, stmt_names, stmts_names}
use Rattle.ped_tree.specs.Numbering.{statement_count, statements_count}
use Rattle.ped_tree.specs.Tree.{Var, Head, StmtTree, StmtTrees, Assign, If, Do, Print, Read, Stop, Comment, no_stmts, more_stmts, ProgramTree}
use Rattle.ped_rules.proofs.NameLaws.SubstitutedReferences.{all_unwritten, all_variables_stay, other_unwritten, variables_followed}
use Rattle.ped_rules.proofs.NameLaws.SubstitutedRejections.{rejections_kept}
use Rattle.ped_rules.specs.ped_loop_runs.proofs.TidyLaws.TidyPathsGaps.{LeaveNoMore, followed_sum, gap_behind}
use Rattle.ped_rules.specs.ped_loop_runs.proofs.TidyLaws.TidyPathsPrivate.{cleared_private}
use Rattle.ped_rules.specs.ped_loop_runs.proofs.TidyLaws.TidyPathsShown.{shown_by}
use Rattle.ped_rules.specs.ped_loop_runs.proofs.TidyLaws.TidyPathsStops.{all_behind_unstopped}
use Rattle.ped_rules.specs.ped_loop_runs.proofs.TidyLaws.TidyPathsSums.{Summary, IsNoMore, any_numbers}
use Rattle.ped_rules.specs.ped_loop_runs.proofs.TidyLaws.TidyReferencesFilled.{all_followed}
use Rattle.ped_rules.specs.ped_loop_runs.proofs.TidyLaws.UnrejectedTrees.{followed_rejection}
use Rattle.ped_rules.specs.ped_loop_runs.proofs.TidyLaws.WrittenIndices.{followed_index}
use Rattle.ped_rules.specs.ped_loop_runs.specs.Unrejected.{has_rejection, some_rejection}
use Rattle.ped_rules.specs.ped_loop_runs.specs.Writing.{all_write, some_write_index, writes, writes_index, writes_name}
use Rattle.ped_rules.specs.ped_steps.proofs.RunLaws.ProgramParts.{part_at}
use Rattle.ped_rules.specs.ped_steps.specs.Replacing.{followed, alone}
use Rattle.ped_rules.specs.ped_flow.proofs.Truths.{untrue, or_split}
use Rattle.ped_rules.specs.ped_flow.specs.Questions.{IsContained, IsShownBehind}
use Rattle.ped_rules.specs.ped_flow.specs.Summaries.{summary_in_turn, summary_either, summary_loop, summary_of, summary_of_all, summary_at_once, summary_behind, summary_behind_all}
use Rattle.ped_rules.specs.ped_laws.proofs.FlowRunLaws.Stopping.{fitting_stops, loop_stops}
use Rattle.ped_rules.specs.ped_laws.specs.FlowRuns.Covering.{has_stop, some_stop}
use Rattle.ped_rules.specs.ped_symbols.specs.Kinds.{kind_in}
use Rattle.ped_rules.specs.ped_symbols.specs.NameRefusals.{IsValid}
use Rattle.ped_rules.specs.ped_symbols.specs.RightUses.RightUses.{NameKinds, cond_is_right, head_is_right, stmt_is_right, stmts_are_right}
use Rattle.ped_symbolic.specs.Substitution.{statement_substituted, statements_substituted}
use Rattle.ped_splits.specs.Neighbours.{Neighbour, AreAlike, joined_head, renamed_body, joined_loop, fused, next_number}
use Rattle.ped_splits.proofs.NeighbourLoops.{pair, pair_count, own_loop, next_loop, fused_loop, next_is}
use Rattle.ped_splits.proofs.UnitTests.{only_comment}
use Rattle.ped_splits.proofs.UnwrittenVariable.{own_unwritten}

-- what no comment tells, comments don't tell together
quiet : (all : StmtTrees → Bool) (told : StmtTree → Bool) → all no_stmts ≡ false → ((z : StmtTree) (rest : StmtTrees) → all (more_stmts z rest) ≡ told z || all rest) → ((text : List ℕ) → told (Comment text) ≡ false)
    → (ts : StmtTrees) → statements_count ts ≡ 0 → all ts ≡ false
quiet all told none more silent no_stmts e = none
quiet all told none more silent (more_stmts z rest) e =
    more z rest ∙ (λ i. only_comment (λ y. told y ≡ false) silent z (omega (arith, e)) i || quiet all told none more silent rest (omega (arith, e)) i)

stops_both : (a b : StmtTrees) → some_stop (followed a b) ≡ some_stop a || some_stop b
stops_both no_stmts b = refl
stops_both (more_stmts s rest) b = ap (λ (r : Bool). has_stop s || r) (stops_both rest b) ∙ grouped (has_stop s) (some_stop rest) (some_stop b)
  where
    grouped : (x y z : Bool) → x || (y || z) ≡ (x || y) || z
    grouped true y z = refl
    grouped false y z = refl

-- a name that stands nowhere is the variable of no DO
module _ (w : List ℕ) where
  apart : (xs ys : List (List ℕ)) → is_among w (xs ++ ys) ≡ false → (is_among w xs ≡ false) × (is_among w ys ≡ false)
  apart xs ys h = or_parts (is_among w xs) (is_among w ys) (sym (among_append w xs ys) ∙ h)

  none_of_both : (xs ys : List (List ℕ)) → is_among w xs ≡ false → is_among w ys ≡ false → is_among w (xs ++ ys) ≡ false
  none_of_both xs ys e f = among_append w xs ys ∙ (λ i. e i || f i)

  mutual
    no_variable : (s : StmtTree) → is_among w (stmt_names s) ≡ false → is_among w (loop_variables s) ≡ false
    no_variable (Assign left right) h = refl
    no_variable (If c a b) h =
        let parts = apart (cond_names c ++ stmts_names a) (stmts_names b) h in
        none_of_both (all_loop_variables a) (all_loop_variables b) (no_variables a (apart (cond_names c) (stmts_names a) parts.0).1) (no_variables b parts.1)
    no_variable (Do g body) h =
        let parts = apart (head_names g) (stmts_names body) h in
        let head = apart g.rejected _ parts.0 in
        λ i. (or_parts (is_same_text w g.variable) _ head.1).0 i || no_variables body parts.1 i
    no_variable (Print items) h = refl
    no_variable (Read items) h = refl
    no_variable Stop h = refl
    no_variable (Comment text) h = refl

    no_variables : (ss : StmtTrees) → is_among w (stmts_names ss) ≡ false → is_among w (all_loop_variables ss) ≡ false
    no_variables no_stmts h = refl
    no_variables (more_stmts s rest) h = let parts = apart (stmt_names s) (stmts_names rest) h in none_of_both (loop_variables s) (all_loop_variables rest) (no_variable s parts.0) (no_variables rest parts.1)

-- a scalar in the place of another: no PARALLEL DO writes its variables where it didn't, if none has the first one
module _ (cs : List (List ℕ)) (k : NameKinds) (x v : List ℕ) where
  other_written : (w : List ℕ) → is_same_text v w ≡ false → (ss : StmtTrees) → stmts_are_right k ss ≡ true → all_write cs w ss ≡ false → all_write cs w (statements_substituted x (Var v) ss) ≡ false
  other_written w other ss r h = all_unwritten cs w k x (Var v) (other_unwritten cs w v (same_flip w v ∙ other)) ss r h

  names_unwritten : (body : StmtTrees) → stmts_are_right k body ≡ true → (ws : List (List ℕ)) → is_among v ws ≡ false → list_any (λ w. all_write cs w body) ws ≡ false
      → list_any (λ w. all_write cs w (statements_substituted x (Var v) body)) ws ≡ false
  names_unwritten body r [] fresh h = refl
  names_unwritten body r (w ∷ ws) fresh h =
      let none = or_parts (all_write cs w body) (list_any (λ w. all_write cs w body) ws) h in
      let others = or_parts (is_same_text v w) (is_among v ws) fresh in
      λ i. other_written w others.0 body r none.0 i || names_unwritten body r ws others.1 none.1 i

  mutual
    index_kept : (s : StmtTree) → stmt_is_right k s ≡ true → is_among v (loop_variables s) ≡ false → writes_index cs s ≡ false → writes_index cs (statement_substituted x (Var v) s) ≡ false
    index_kept (Assign left right) r fresh h = refl
    index_kept (If c a b) r fresh h =
        let right = and_parts (cond_is_right k c && stmts_are_right k a) (stmts_are_right k b) r in
        let none = or_parts (some_write_index cs a) (some_write_index cs b) h in
        let others = apart v (all_loop_variables a) (all_loop_variables b) fresh in
        λ i. indices_kept a (and_parts (cond_is_right k c) (stmts_are_right k a) right.0).1 others.0 none.0 i || indices_kept b right.1 others.1 none.1 i
    index_kept (Do head body) r fresh h =
        let right = (and_parts (head_is_right k head) (stmts_are_right k body) r).1 in
        let none = or_parts (head.parallel && list_any (λ w. all_write cs w body) (head.variable ∷ all_loop_variables body)) (some_write_index cs body) h in
        let others = or_parts (is_same_text v head.variable) (is_among v (all_loop_variables body)) fresh in
        λ i. own head.parallel none.0 i || indices_kept body right others.1 none.1 i
      where
        own : (b : Bool) → b && list_any (λ w. all_write cs w body) (head.variable ∷ all_loop_variables body) ≡ false
            → b && list_any (λ w. all_write cs w (statements_substituted x (Var v) body)) (head.variable ∷ all_loop_variables (statements_substituted x (Var v) body)) ≡ false
        own true q =
            (λ i. list_any (λ w. all_write cs w (statements_substituted x (Var v) body)) (head.variable ∷ all_variables_stay x (Var v) body i))
            ∙ names_unwritten body (and_parts (head_is_right k head) (stmts_are_right k body) r).1 (head.variable ∷ all_loop_variables body) fresh q
        own false q = refl
    index_kept (Print items) r fresh h = refl
    index_kept (Read items) r fresh h = refl
    index_kept Stop r fresh h = refl
    index_kept (Comment text) r fresh h = refl

    pub indices_kept : (ss : StmtTrees) → stmts_are_right k ss ≡ true → is_among v (all_loop_variables ss) ≡ false → some_write_index cs ss ≡ false → some_write_index cs (statements_substituted x (Var v) ss) ≡ false
    indices_kept no_stmts r fresh h = refl
    indices_kept (more_stmts s rest) r fresh h =
        let right = and_parts (stmt_is_right k s) (stmts_are_right k rest) r in
        let none = or_parts (writes_index cs s) (some_write_index cs rest) h in
        let others = apart v (loop_variables s) (all_loop_variables rest) fresh in
        λ i. index_kept s right.0 others.0 none.0 i || indices_kept rest right.1 others.1 none.1 i

-- what the tests of the parts come to together
joined_told : (a b c d : Bool) → a || (b || d) ≡ true → (a || b) || (c || d) ≡ true
joined_told true b c d e = refl
joined_told false true c d e = refl
joined_told false false true d e = refl
joined_told false false false d e = e

second_told : (a b c d : Bool) → (a || b) || (c || d) ≡ true → a || (b || d) ≡ false → c || d ≡ true
second_told true b c d e f = absurd cc
second_told false true c d e f = absurd cc
second_told false false c d e f = e

module _ (t : ProgramTree) (s : ℕ) (x : Neighbour t s) (valid : IsValid t) (new_valid : IsValid (fused x)) (alike : AreAlike x.own x.next x.next_body) (own_unprivate : x.own.private ≡ []) (next_unprivate : x.next.private ≡ []) (own_serial : x.own.parallel ≡ false) (next_serial : x.next.parallel ≡ false) where
  abbrev cs : List (List ℕ)
  cs = constant_names t.decls

  abbrev own : StmtTree
  own = Do x.own x.own_body

  abbrev next : StmtTree
  next = Do x.next x.next_body

  abbrev behind : StmtTrees
  behind = followed x.between (alone (Do x.next x.next_body))

  abbrev second : StmtTrees
  second = renamed_body x.own x.next x.next_body

  abbrev joined_body : StmtTrees
  joined_body = followed x.own_body (followed x.between (renamed_body x.own x.next x.next_body))

  -- what is so of the second body is so of it with the other variable
  by_renaming : (Q : StmtTrees → Type 0) → Q x.next_body → (is_same_text x.own.variable x.next.variable ≡ false → Q (statements_substituted x.next.variable (Var x.own.variable) x.next_body)) → Q second
  by_renaming Q p q = go (is_same_text x.own.variable x.next.variable) refl
    where
      go : (b : Bool) → is_same_text x.own.variable x.next.variable ≡ b → Q (if b then x.next_body else statements_substituted x.next.variable (Var x.own.variable) x.next_body)
      go true e = p
      go false e = q e

  right : stmts_are_right (kind_in t) x.next_body ≡ true
  right = (and_parts (head_is_right (kind_in t) x.next) (stmts_are_right (kind_in t) x.next_body) (part_at t valid (next_number x) (Do x.next x.next_body) (next_is t s x)).right).1

  -- where the variables differ, the first one stands nowhere in the second body
  absent : is_same_text x.own.variable x.next.variable ≡ false → is_among x.own.variable (stmts_names x.next_body) ≡ false
  absent e = by alike.variable
    where
      by : (x.own.variable ≡ x.next.variable) ⊎ (is_among x.own.variable (stmts_names x.next_body) ≡ false) → is_among x.own.variable (stmts_names x.next_body) ≡ false
      by (inl same) = absurd (both_ways (is_same_text x.own.variable x.next.variable) e (ap (is_same_text x.own.variable) (sym same) ∙ same_itself x.own.variable))
      by (inr none) = none

  -- the variables
  quiet_variables : (w : List ℕ) → is_among w (all_loop_variables x.between) ≡ false
  quiet_variables w =
      quiet (λ ts. is_among w (all_loop_variables ts)) (λ z. is_among w (loop_variables z)) refl (λ z rest. among_append w (loop_variables z) (all_loop_variables rest)) (λ text. refl) x.between x.comments

  second_variables : (w : List ℕ) → is_among w (all_loop_variables second) ≡ is_among w (all_loop_variables x.next_body)
  second_variables w =
      ap (is_among w) (by_renaming (λ ts. all_loop_variables ts ≡ all_loop_variables x.next_body) refl (λ e. all_variables_stay x.next.variable (Var x.own.variable) x.next_body))

  pub next_variables : (w : List ℕ) → is_among w (all_loop_variables behind) ≡ is_among w (loop_variables next)
  next_variables w =
      ap (is_among w) (variables_followed x.between (alone next))
      ∙ (among_append w (all_loop_variables x.between) (all_loop_variables (alone next))
      ∙ (λ i. quiet_variables w i || is_among w (append-nil (loop_variables next) i)))

  pub old_variables : (w : List ℕ) → is_among w (all_loop_variables (pair t s x)) ≡ is_among w (loop_variables own) || is_among w (loop_variables next)
  old_variables w = among_append w (loop_variables own) (all_loop_variables behind) ∙ ap (λ (b : Bool). is_among w (loop_variables own) || b) (next_variables w)

  body_variables : (w : List ℕ) → is_among w (all_loop_variables joined_body) ≡ is_among w (all_loop_variables x.own_body) || is_among w (all_loop_variables x.next_body)
  body_variables w =
      ap (is_among w) (variables_followed x.own_body (followed x.between second))
      ∙ (among_append w (all_loop_variables x.own_body) (all_loop_variables (followed x.between second))
      ∙ ap (λ (b : Bool). is_among w (all_loop_variables x.own_body) || b)
      (ap (is_among w) (variables_followed x.between second)
      ∙ (among_append w (all_loop_variables x.between) (all_loop_variables second) ∙ (λ i. quiet_variables w i || second_variables w i))))

  pub new_variables : (w : List ℕ) → is_among w (all_loop_variables (joined_loop x)) ≡ is_same_text w x.own.variable || (is_among w (all_loop_variables x.own_body) || is_among w (all_loop_variables x.next_body))
  new_variables w =
      ap (is_among w) (append-nil (loop_variables (Do (joined_head x.own x.next) joined_body))) ∙ ap (λ (b : Bool). is_same_text w x.own.variable || b) (body_variables w)

  abbrev is_own : List ℕ → Bool
  is_own w = is_same_text w x.own.variable

  abbrev in_own : List ℕ → Bool
  in_own w = is_among w (all_loop_variables x.own_body)

  abbrev is_next : List ℕ → Bool
  is_next w = is_same_text w x.next.variable

  abbrev in_next : List ℕ → Bool
  in_next w = is_among w (all_loop_variables x.next_body)

  -- the one DO has no further variables
  pub none_further : (w : List ℕ) → is_among w (all_loop_variables (joined_loop x)) ≡ true → is_among w (all_loop_variables (pair t s x)) ≡ true
  none_further w e = old_variables w ∙ joined_told (is_own w) (in_own w) (is_next w) (in_next w) (sym (new_variables w) ∙ e)

  -- one that it has no more was one of the second DO
  pub lost_next : (w : List ℕ) → is_among w (all_loop_variables (pair t s x)) ≡ true → is_among w (all_loop_variables (joined_loop x)) ≡ false → is_among w (loop_variables next) ≡ true
  lost_next w e f = second_told (is_own w) (in_own w) (is_next w) (in_next w) (sym (old_variables w) ∙ e) (sym (new_variables w) ∙ f)

  -- no other names are written
  own_renamed_unwritten : all_write cs x.own.variable second ≡ false
  own_renamed_unwritten =
      let whole : all_write cs x.own.variable joined_body ≡ false = own_unwritten (fused x) new_valid s (fused_loop t s x) in
      let first = or_parts (all_write cs x.own.variable x.own_body) (all_write cs x.own.variable (followed x.between second)) (sym (all_followed cs x.own.variable x.own_body (followed x.between second)) ∙ whole) in
      (or_parts (all_write cs x.own.variable x.between) (all_write cs x.own.variable second) (sym (all_followed cs x.own.variable x.between second) ∙ first.1)).1

  second_unwritten : (w : List ℕ) → all_write cs w x.next_body ≡ false → all_write cs w second ≡ false
  second_unwritten w none = go (is_same_text w x.own.variable) refl
    where
      go : (e : Bool) → is_same_text w x.own.variable ≡ e → all_write cs w second ≡ false
      go true f = ap (λ (v : List ℕ). all_write cs v second) (same_is w x.own.variable f) ∙ own_renamed_unwritten
      go false f = by_renaming (λ ts. all_write cs w ts ≡ false) none (λ e. all_unwritten cs w (kind_in t) x.next.variable (Var x.own.variable) (other_unwritten cs w x.own.variable f) x.next_body right none)

  quiet_writes : (w : List ℕ) → all_write cs w x.between ≡ false
  quiet_writes w = quiet (all_write cs w) (writes cs w) refl (λ z rest. refl) (λ text. refl) x.between x.comments

  pub writes_none : (w : List ℕ) → all_write cs w (pair t s x) ≡ false → all_write cs w (joined_loop x) ≡ false
  writes_none w none =
      let both = or_parts (writes cs w own) (all_write cs w behind) none in
      let first = or_parts (list_any (writes_name cs w) x.own.private) (all_write cs w x.own_body) both.0 in
      let later = or_parts (all_write cs w x.between) (all_write cs w (alone next)) (sym (all_followed cs w x.between (alone next)) ∙ both.1) in
      let last = or_parts (list_any (writes_name cs w) x.next.private) (all_write cs w x.next_body) (or_parts (writes cs w next) false later.1).0 in
      let inner : all_write cs w (followed x.between second) ≡ false = all_followed cs w x.between second ∙ (λ i. quiet_writes w i || second_unwritten w last.1 i) in
      let body : all_write cs w joined_body ≡ false = all_followed cs w x.own_body (followed x.between second) ∙ (λ i. first.1 i || inner i) in
      λ i. (first.0 i || body i) || false

  -- nor does a PARALLEL DO write its variables
  quiet_indices : some_write_index cs x.between ≡ false
  quiet_indices = quiet (some_write_index cs) (writes_index cs) refl (λ z rest. refl) (λ text. refl) x.between x.comments

  second_indices : some_write_index cs x.next_body ≡ false → some_write_index cs second ≡ false
  second_indices none =
      by_renaming (λ ts. some_write_index cs ts ≡ false) none (λ e. indices_kept cs (kind_in t) x.next.variable x.own.variable x.next_body right (no_variables x.own.variable x.next_body (absent e)) none)

  pub indices_none : some_write_index cs (pair t s x) ≡ false → some_write_index cs (joined_loop x) ≡ false
  indices_none none =
      let both = or_parts (writes_index cs own) (some_write_index cs behind) none in
      let first = or_parts (x.own.parallel && list_any (λ w. all_write cs w x.own_body) (x.own.variable ∷ all_loop_variables x.own_body)) (some_write_index cs x.own_body) both.0 in
      let later = or_parts (some_write_index cs x.between) (some_write_index cs (alone next)) (sym (followed_index cs x.between (alone next)) ∙ both.1) in
      let last = or_parts (x.next.parallel && list_any (λ w. all_write cs w x.next_body) (x.next.variable ∷ all_loop_variables x.next_body)) (some_write_index cs x.next_body) (or_parts (writes_index cs next) false later.1).0 in
      let inner : some_write_index cs (followed x.between second) ≡ false = followed_index cs x.between second ∙ (λ i. quiet_indices i || second_indices last.1 i) in
      let body : some_write_index cs joined_body ≡ false = followed_index cs x.own_body (followed x.between second) ∙ (λ i. first.1 i || inner i) in
      λ i. ((own_serial i && list_any (λ w. all_write cs w joined_body) (x.own.variable ∷ all_loop_variables joined_body)) || body i) || false

  -- none is rejected
  quiet_rejections : some_rejection x.between ≡ false
  quiet_rejections = quiet some_rejection has_rejection refl (λ z rest. refl) (λ text. refl) x.between x.comments

  none_in : (names : List (List ℕ)) → has_some names ≡ false → names ≡ []
  none_in [] e = refl
  none_in (y ∷ ys) e = absurd cc

  pub rejections_none : some_rejection (pair t s x) ≡ false → some_rejection (joined_loop x) ≡ false
  rejections_none none =
      let both = or_parts (has_rejection own) (some_rejection behind) none in
      let first = or_parts (has_some x.own.rejected) (some_rejection x.own_body) both.0 in
      let later = or_parts (some_rejection x.between) (some_rejection (alone next)) (sym (followed_rejection x.between (alone next)) ∙ both.1) in
      let last = or_parts (has_some x.next.rejected) (some_rejection x.next_body) (or_parts (has_rejection next) false later.1).0 in
      let renamed : some_rejection second ≡ false = by_renaming (λ ts. some_rejection ts ≡ false) last.1 (λ e. rejections_kept x.next.variable (Var x.own.variable) x.next_body ∙ last.1) in
      let inner : some_rejection (followed x.between second) ≡ false = followed_rejection x.between second ∙ (λ i. quiet_rejections i || renamed i) in
      let body : some_rejection joined_body ≡ false = followed_rejection x.own_body (followed x.between second) ∙ (λ i. first.1 i || inner i) in
      λ i. (has_some (with_names [] (none_in x.own.rejected first.0 i ++ none_in x.next.rejected last.0 i)) || body i) || false

  -- no STOP stands in them
  pub new_unstopped : some_stop (joined_loop x) ≡ false
  new_unstopped = λ i. loop_stops (fused x) s (fused_loop t s x) (fitting_stops (fused x) new_valid.fits) i || false

  pub old_unstopped : some_stop (pair t s x) ≡ false
  old_unstopped =
      let stops = fitting_stops t valid.fits in
      let silent : some_stop x.between ≡ false = quiet some_stop has_stop refl (λ z rest. refl) (λ text. refl) x.between x.comments in
      let later : some_stop behind ≡ false = stops_both x.between (alone next) ∙ (λ i. silent i || (loop_stops t (next_number x) (next_loop t s x) stops i || false)) in
      λ i. loop_stops t s (own_loop t s x) stops i || later i

  -- a path through them leaves another name as it is
  quiet_keeps : (w : List ℕ) (ts : StmtTrees) (n : ℕ) → statements_count ts ≡ 0 → (summary_of_all cs w ts n).keeps ≡ true
  quiet_keeps w no_stmts n e = refl
  quiet_keeps w (more_stmts z rest) n e =
      let here : (summary_of cs w z n).keeps ≡ true = only_comment (λ y. (summary_of cs w y n).keeps ≡ true) (λ text. refl) z (omega (arith, e)) in
      let later = quiet_keeps w rest (n + statement_count z) (omega (arith, e)) in
      λ i. here i && later i

  loop_keeps : (w : List ℕ) (h : Head) (body : StmtTrees) (n : ℕ) → h.private ≡ [] → is_among w (loop_variables (Do h body)) ≡ false → (summary_of cs w (Do h body) n).keeps ≡ true
  loop_keeps w h body n none other = cleared_private cs w h body n other ∙ ap (λ (names : List (List ℕ)). not (is_among w names)) none

  next_keeps : (w : List ℕ) (n : ℕ) → is_among w (loop_variables next) ≡ false → (summary_of_all cs w behind n).keeps ≡ true
  next_keeps w n other =
      let at : ℕ = n + statements_count x.between in
      let here = loop_keeps w x.next x.next_body at next_unprivate other in
      ap (λ (m : Summary). m.keeps) (followed_sum cs w x.between (alone next) n) ∙ (λ i. quiet_keeps w x.between n x.comments i && (here i && true))

  pub old_keeps : (w : List ℕ) (n : ℕ) → is_among w (all_loop_variables (pair t s x)) ≡ false → (summary_of_all cs w (pair t s x) n).keeps ≡ true
  old_keeps w n other =
      let both = or_parts (is_among w (loop_variables own)) (is_among w (loop_variables next)) (sym (old_variables w) ∙ other) in
      let here = loop_keeps w x.own x.own_body n own_unprivate both.0 in
      let later = next_keeps w (n + statement_count own) both.1 in
      λ i. here i && later i

  -- what is shown behind the second DO, and isn't its variable, is shown behind the first one
  module _ (w : List ℕ) (other : is_among w (loop_variables next) ≡ false) where
    first_left : (summary_behind cs w s own s).keeps ≡ true
    first_left = ap (λ (r : Bool). (summary_either (summary_at_once r) (summary_in_turn (summary_behind_all cs w s x.own_body (s + 1)) (summary_loop w s x.own x.own_body (summary_of_all cs w x.own_body (s + 1))))).keeps) (eq-eqb s s refl)

    pair_left : (summary_behind_all cs w s (pair t s x) s).keeps ≡ true
    pair_left = λ i. (first_left i && next_keeps w (s + statement_count own) other i) || (summary_behind_all cs w s behind (s + statement_count own)).keeps

    here : IsNoMore (summary_behind_all cs w (next_number x) (pair t s x) s) (summary_behind_all cs w s (pair t s x) s)
    here = record { keeps = λ f. pair_left; ends = λ f. untrue ((all_behind_unstopped cs w (pair t s x) (next_number x) s old_unstopped).ends f) }

    before : (i : ℕ) → i < s → (next_number x == i) ≡ (s == i)
    before i low = ne_eqb (next_number x) i (λ e. omega (arith, low, e)) ∙ sym (ne_eqb s i (λ e. omega (arith, low, e)))

    past : (i : ℕ) → (next_number x == s + statements_count (pair t s x) + i) ≡ (s == s + statements_count (pair t s x) + i)
    past i =
        let size = pair_count t s x in
        ne_eqb (next_number x) (s + statements_count (pair t s x) + i) (λ e. omega (arith, size, e)) ∙ sym (ne_eqb s (s + statements_count (pair t s x) + i) (λ e. omega (arith, size, e)))

    same : LeaveNoMore cs w (pair t s x) (pair t s x)
    same = record { summed = any_numbers cs w (pair t s x); loops = λ e. e }

    shown_first : IsShownBehind t (next_number x) w → IsShownBehind t s w
    shown_first =
        shown_by t t w (next_number x) s refl
        (subst (λ (ts : StmtTrees). IsNoMore (summary_behind_all cs w (next_number x) ts 1) (summary_behind_all cs w s ts 1)) (sym x.stands)
        (gap_behind cs w (pair t s x) (pair t s x) same s (next_number x) s before past here x.gap 1 x.numbered))

  -- the program's end shows no variable of the two behind the second one
  pub old_unshown : IsContained t s → IsContained t (next_number x) → (w : List ℕ) → is_among w (all_loop_variables (pair t s x)) ≡ true → IsShownBehind t (next_number x) w → ⊥
  old_unshown first later w there shown = go (is_among w (loop_variables next)) refl (sym (old_variables w) ∙ there)
    where
      go : (e : Bool) → is_among w (loop_variables next) ≡ e → is_among w (loop_variables own) || is_among w (loop_variables next) ≡ true → ⊥
      go true e told = (later w (record { loop = next_loop t s x; among = e })).1 (inr shown)
      go false e told = elim (or_split (is_among w (loop_variables own)) (is_among w (loop_variables next)) told) [
        | inl f ↦ (first w (record { loop = own_loop t s x; among = f })).1 (inr (shown_first w e shown))
        | inr f ↦ both_ways (is_among w (loop_variables next)) e f
      ]
