-- A program stays tidy, and without C$PED REJECT, where the statements of a block come in its place: each path of it is one of the old program.
use Rattle.std.proofs.Common.{◌≡◌, ◌⊎◌, ℕ, suc, ◌+◌, ◌<◌, ◌≤◌, ◌==◌, List, [], ◌∷◌, ◌++◌, Bool, true, false, ◌&&◌, ◌||◌, Some, inl, inr, refl, sym, ap, subst, ◌∙◌, append-nil, eqb-true, arith}
use Rattle.std.proofs.lemmas.Bool.{or_parts, or_left}
use Rattle.ped_base.specs.Lists.{is_among}
use Rattle.ped_tree.specs.Tree.{Head, StmtTree, StmtTrees, Assign, If, Do, Print, Read, Stop, Comment, no_stmts, more_stmts, ProgramTree}
use Rattle.ped_tree.specs.Numbering.{statements_count}
use Rattle.ped_tree.specs.NamesIn.{loop_variables, all_loop_variables}
use Rattle.ped_tree.specs.Accesses.{constant_names}
use Rattle.ped_rules.specs.ped_flow.specs.PlainBounds.{all_loops_round}
use Rattle.ped_rules.specs.ped_flow.specs.Questions.{LoopOf, IsIndexIn, IsShownBehind}
use Rattle.ped_rules.specs.ped_flow.specs.Summaries.{summary_of_all, summary_behind_all}
use Rattle.ped_rules.specs.ped_flow.proofs.Truths.{untrue}
use Rattle.ped_rules.specs.ped_laws.specs.Acts.Orders.{IsIn}
use Rattle.ped_rules.specs.ped_steps.specs.Replacing.{alone}
use Rattle.ped_rules.specs.ped_steps.specs.Runs.Gaps.{Gap, filled, number_at}
use Rattle.ped_rules.specs.ped_steps.specs.Tidy.{IsTidy}
use Rattle.ped_rules.specs.ped_steps.proofs.RunLaws.RunCells.{EachDos}
use Rattle.ped_rules.specs.ped_loop_runs.specs.Unrejected.{some_rejection, IsTrusted}
use Rattle.ped_rules.specs.ped_loop_runs.specs.Writing.{all_write}
use Rattle.ped_rules.specs.ped_loop_runs.proofs.TidyLaws.TidyPathsSums.{Summary, IsNoMore, any_numbers}
use Rattle.ped_rules.specs.ped_loop_runs.proofs.TidyLaws.TidyPathsGaps.{IsPlaced, LeaveNoMore, all_behind_placed, gap_behind}
use Rattle.ped_rules.specs.ped_loop_runs.proofs.TidyLaws.TidyPathsShown.{shown_by}
use Rattle.ped_rules.specs.ped_loop_runs.proofs.TidyLaws.TidyReferences.{written_is}
use Rattle.ped_rules.specs.ped_loop_runs.proofs.TidyLaws.TidyReferencesFilled.{filled_unwritten}
use Rattle.ped_rules.specs.ped_loop_runs.proofs.TidyLaws.TidyReferencesGaps.{Stands, each_stands, all_move, all_go, of_rest, each_exchanged, each_of_program}
use Rattle.ped_rules.specs.ped_loop_runs.proofs.TidyLaws.UnrejectedTrees.{followed_rejection, filled_unrejected}
use Rattle.ped_rules.proofs.NameLaws.SubstitutedReferences.{filled_variables}
use Rattle.ped_rules.specs.Settling.{behind_comments, settled}
use Rattle.ped_inline.specs.Blocks.{IsBlock}
use Rattle.ped_inline.specs.Inlining.{inlined}
use Rattle.ped_inline.proofs.InlineAnswers.{program_opened}
use Rattle.ped_inline.proofs.InlinedShape.{call_block, text, raw, gap}
use Rattle.ped_inline.proofs.SettledPrograms.{leading, leading_followed, leading_uncounted, settled_constants, settled_saved}

or_false : (a : Bool) → (a || false) ≡ a
or_false true = refl
or_false false = refl

or_true : (a : Bool) → ((a || true) && true) ≡ true
or_true true = refl
or_true false = refl

-- numbers that are told apart alike
holds : (x y : ℕ) → x ≡ y → (x == y) ≡ true
holds x y e = ap (λ (z : ℕ). x == z) (sym e) ∙ grind (arith, eqb-true)

same_test : (a b c d : ℕ) → (a ≡ b → c ≡ d) → (c ≡ d → a ≡ b) → (a == b) ≡ (c == d)
same_test a b c d f g = by (a == b) (c == d) refl refl
  where
    by : (p q : Bool) → (a == b) ≡ p → (c == d) ≡ q → (a == b) ≡ (c == d)
    by true q e h = e ∙ sym (holds c d (f (eqb-true a b e)))
    by false true e h = holds a b (g (eqb-true c d h)) ∙ sym h
    by false false e h = e ∙ sym h

-- comments at the front are on no path
front_behind : (cs : List (List ℕ)) (w : List ℕ) (m : ℕ) (ss : StmtTrees) (n : ℕ) → summary_behind_all cs w m (behind_comments ss) n ≡ summary_behind_all cs w m ss n
front_behind cs w m no_stmts n = refl
front_behind cs w m (more_stmts (Comment text) rest) n = front_behind cs w m rest n ∙ (let same : n ≡ n + 0 = omega arith in ap (λ (k : ℕ). summary_behind_all cs w m rest k) same)
front_behind cs w m (more_stmts (Assign left right) rest) n = refl
front_behind cs w m (more_stmts (If condition then_part else_part) rest) n = refl
front_behind cs w m (more_stmts (Do h body) rest) n = refl
front_behind cs w m (more_stmts (Print items) rest) n = refl
front_behind cs w m (more_stmts (Read items) rest) n = refl
front_behind cs w m (more_stmts Stop rest) n = refl

-- the paths of a block go through its body, or past it
module _ (cs : List (List ℕ)) (text : List ℕ) (ts : StmtTrees) (w : List ℕ) where
  abbrev old : StmtTrees
  old = alone (call_block text ts)

  variables_same : all_loop_variables ts ≡ all_loop_variables old
  variables_same = sym (append-nil (all_loop_variables ts ++ []) ∙ append-nil (all_loop_variables ts))

  less : LeaveNoMore cs w ts old
  less = record { summed = summed; loops = λ e. ap (is_among w) variables_same ∙ e }
    where
      summed : (n o : ℕ) → IsNoMore (summary_of_all cs w ts n) (summary_of_all cs w old o)
      summed n o =
          let inner = any_numbers cs w ts n (o + 1 + 0) in
          let first = summary_of_all cs w ts (o + 1 + 0) in
          record {
            keeps = λ e. or_true first.keeps;
            ends = λ e. or_left (first.ends || false) ((first.keeps || true) && false) (or_left first.ends false (inner.ends e));
          }

  -- a DO in the block has a number one lower than before
  module _ (s m k : ℕ) (numbered : ((m < s) × (k ≡ m)) ⊎ ((s ≤ m) × (k ≡ suc m))) where
    before : (i : ℕ) → i < s → (m == i) ≡ (k == i)
    before i low = by numbered
      where
        by : ((m < s) × (k ≡ m)) ⊎ ((s ≤ m) × (k ≡ suc m)) → (m == i) ≡ (k == i)
        by (inl p) = ap (λ (z : ℕ). z == i) (sym p.1)
        by (inr p) = let a = p.0 in let e = p.1 in same_test m i k i (λ x. omega (arith, a, e, low, x)) (λ x. omega (arith, a, e, low, x))

    old_count : statements_count old ≡ statements_count ts + 1
    old_count = omega arith

    behind : (i : ℕ) → (m == s + statements_count ts + i) ≡ (k == s + statements_count old + i)
    behind i = by numbered ∙ ap (λ (z : ℕ). k == s + z + i) (sym old_count)
      where
        by : ((m < s) × (k ≡ m)) ⊎ ((s ≤ m) × (k ≡ suc m)) → (m == s + statements_count ts + i) ≡ (k == s + (statements_count ts + 1) + i)
        by (inl p) = let a = p.0 in let e = p.1 in same_test m (s + statements_count ts + i) k (s + (statements_count ts + 1) + i) (λ x. omega (arith, a, e, x)) (λ x. omega (arith, a, e, x))
        by (inr p) = let a = p.0 in let e = p.1 in same_test m (s + statements_count ts + i) k (s + (statements_count ts + 1) + i) (λ x. omega (arith, a, e, x)) (λ x. omega (arith, a, e, x))

    inside : IsPlaced m s k (s + 1 + 0) (statements_count ts)
    inside i low = by numbered
      where
        by : ((m < s) × (k ≡ m)) ⊎ ((s ≤ m) × (k ≡ suc m)) → (m == s + i) ≡ (k == s + 1 + 0 + i)
        by (inl p) = let a = p.0 in let e = p.1 in same_test m (s + i) k (s + 1 + 0 + i) (λ x. omega (arith, a, e, x)) (λ x. omega (arith, a, e, x))
        by (inr p) = let a = p.0 in let e = p.1 in same_test m (s + i) k (s + 1 + 0 + i) (λ x. omega (arith, a, e, x)) (λ x. omega (arith, a, e, x))

    here : IsNoMore (summary_behind_all cs w m ts s) (summary_behind_all cs w k old s)
    here =
        let inner = all_behind_placed cs w ts m s k (s + 1 + 0) inside in
        let first = summary_behind_all cs w k ts (s + 1 + 0) in
        record {
          keeps = λ e. or_left ((first.keeps || false) && true) false (kept first.keeps (inner.keeps e));
          ends = λ e. or_left ((first.ends || false) || ((first.keeps || false) && false)) false (or_left (first.ends || false) ((first.keeps || false) && false) (or_left first.ends false (inner.ends e)));
        }
      where
        kept : (a : Bool) → a ≡ true → ((a || false) && true) ≡ true
        kept true e = refl
        kept false e = untrue e

    pub fewer_behind : (g : Gap) (n : ℕ) → number_at g n ≡ s → IsNoMore (summary_behind_all cs w m (filled g ts) n) (summary_behind_all cs w k (filled g old) n)
    fewer_behind = gap_behind cs w ts old less s m k before behind here

same_loop : (h g : Head) (b c : StmtTrees) → Some (Do h b) ≡ Some (Do g c) → Do h b ≡ Do g c
same_loop h g b c e = cc

-- a variable of a DO or of a DO in it
index_among : (u : ProgramTree) (m : ℕ) (p : LoopOf u m) (w : List ℕ) → IsIndexIn u m w → is_among w (loop_variables (Do p.head p.body)) ≡ true
index_among u m p w index =
    let r = index.loop in
    ap (λ (c : StmtTree). is_among w (loop_variables c)) (sym (same_loop r.head p.head r.body p.body (sym r.is ∙ p.is))) ∙ index.among

-- a PARALLEL DO leaves its variables alone: its body writes none, and none is shown behind it
abbrev Alone : ProgramTree → ℕ → Head → StmtTrees → Type 0
Alone t k h b = (w : List ℕ) → h.parallel ≡ true → is_among w (loop_variables (Do h b)) ≡ true → (all_write (constant_names t.decls) w b ≡ false) × (IsShownBehind t k w → ⊥)

-- each DO of a tidy program does so
each_alone : (t : ProgramTree) → IsTidy t → EachDos (Alone t) t.body 1
each_alone t tidy = all_move (Stands t) (Alone t) 0 1 (1 + statements_count t.body) each t.body 1 1 (omega arith) (omega arith) (omega arith) (each_stands t)
  where
    each : (k j : ℕ) (h : Head) (b : StmtTrees) → 1 ≤ k → k < 1 + statements_count t.body → j ≡ k + 0 → Stands t k h b → Alone t j h b
    each k j h b low high e stands w parallel among =
        let loop : LoopOf t k = record { head = h; body = b; is = stands } in
        let left = tidy k loop parallel w (record { loop = loop; among = among }) in
        let back : j ≡ k = omega (arith, e) in
        (sym (written_is t k loop w) ∙ left.unwritten, λ shown. left.unshown (subst (λ (n : ℕ). IsShownBehind t n w) back shown))

-- and where each does, the program is tidy
all_alone : (u : ProgramTree) → EachDos (Alone u) u.body 1 → IsTidy u
all_alone u each m p parallel w index =
    let left = each_of_program (Alone u) u each m p w parallel (index_among u m p w index) in
    record { unwritten = written_is u m p w ∙ left.0; unshown = left.1 }

module _ (t : ProgramTree) (s : ℕ) (body : StmtTrees) (b : IsBlock t s body) where
  abbrev r : ProgramTree
  r = raw t s body b

  abbrev u : ProgramTree
  u = settled (raw t s body b)

  abbrev block : StmtTrees
  block = alone (call_block (text t s body b) body)

  abbrev hole : Gap
  hole = (gap t s body b).gap

  abbrev cs : List (List ℕ)
  cs = constant_names t.decls

  constants : constant_names u.decls ≡ cs
  constants = settled_constants r

  -- what the end shows behind a DO, it showed there before
  shown_back : (m k : ℕ) (w : List ℕ) → ((m < s) × (k ≡ m)) ⊎ ((s ≤ m) × (k ≡ suc m)) → IsShownBehind u m w → IsShownBehind t k w
  shown_back m k w numbered =
      shown_by u t w m k (settled_saved r)
      (subst (λ (names : List (List ℕ)). IsNoMore (summary_behind_all names w m u.body 1) (summary_behind_all cs w k t.body 1)) (sym constants)
      (subst (λ (z : Summary). IsNoMore z (summary_behind_all cs w k t.body 1)) (sym (front_behind cs w m r.body 1))
      (subst (λ (ss : StmtTrees). IsNoMore (summary_behind_all cs w m ss 1) (summary_behind_all cs w k t.body 1)) (sym (gap t s body b).new_is)
      (subst (λ (ss : StmtTrees). IsNoMore (summary_behind_all cs w m (filled hole body) 1) (summary_behind_all cs w k ss 1)) (sym (gap t s body b).old_is)
      (fewer_behind cs (text t s body b) body w s m k numbered hole 1 (gap t s body b).number)))))

  goes : (k j : ℕ) (h : Head) (c : StmtTrees) → ((j < s) × (k ≡ j)) ⊎ ((s ≤ j) × (k ≡ suc j)) → Alone t k h c → Alone u j h c
  goes k j h c numbered alone_before w parallel among =
      let left = alone_before w parallel among in
      (ap (λ (names : List (List ℕ)). all_write names w c) constants ∙ left.0, λ shown. left.1 (shown_back j k w numbered shown))

  moves : (k j : ℕ) (h : Head) (c : StmtTrees) → s + 1 ≤ k → j + 1 ≡ k + 0 → Alone t k h c → Alone u j h c
  moves k j h c above e = goes k j h c (inr (omega (arith, above, e), omega (arith, e)))

  writes_no_more : (w : List ℕ) → all_write cs w block ≡ false → all_write cs w body ≡ false
  writes_no_more w none = sym (or_false (all_write cs w body || false) ∙ or_false (all_write cs w body)) ∙ none

  round : (n : ℕ) (h : Head) (g : Gap) → n < s → IsIn (record { number = n; head = h }) (all_loops_round s (filled hole block) 1) → Alone t n h (filled g block) → Alone u n h (filled g body)
  round n h g below there alone_before w parallel among =
      let same = filled_variables block body (variables_same cs (text t s body b) body w) g in
      let left = alone_before w parallel (ap (λ (names : List (List ℕ)). is_among w (h.variable ∷ names)) (sym same) ∙ among) in
      (ap (λ (names : List (List ℕ)). all_write names w (filled g body)) constants ∙ filled_unwritten cs w block body (writes_no_more w) g left.0, λ shown. left.1 (shown_back n n w (inl (below, refl)) shown))

  all_inside : EachDos (Alone t) block s → EachDos (Alone u) body s
  all_inside all = all_go (Alone t) (Alone u) 0 1 (s + 1) (s + 1 + 0 + statements_count body) (λ k j h c above below e. moves k j h c above e) body (s + 1 + 0) s (omega arith) (omega arith) (omega arith) all.0.0.1

  each_new : IsTidy t → EachDos (Alone u) (filled hole body) 1
  each_new tidy =
      each_exchanged (Alone t) (Alone u) block body 0 1 s (all_loops_round s (filled hole block) 1) (omega arith) (omega arith)
      (λ k j h c below e. goes k j h c (inl (omega (arith, below, e), sym e))) (λ k j h c above e. moves k j h c (omega (arith, above)) e) round all_inside
      hole 1 (gap t s body b).number (λ m i. i) (subst (λ (ss : StmtTrees). EachDos (Alone t) ss 1) (gap t s body b).old_is (each_alone t tidy))

  new_tidy : IsTidy t → IsTidy u
  new_tidy tidy =
      all_alone u
      (of_rest (Alone u) (leading r.body) u.body 1 1 (let none = leading_uncounted r.body in omega (arith, none))
      (subst (λ (ss : StmtTrees). EachDos (Alone u) ss 1) (sym (leading_followed r.body ∙ (gap t s body b).new_is)) (each_new tidy)))

  new_unrejected : some_rejection t.body ≡ false → some_rejection u.body ≡ false
  new_unrejected none =
      let all = filled_unrejected hole block body inner (sym (ap some_rejection (gap t s body b).old_is) ∙ none) in
      (or_parts (some_rejection (leading r.body)) (some_rejection u.body)
      (sym (followed_rejection (leading r.body) u.body) ∙ ap some_rejection (leading_followed r.body ∙ (gap t s body b).new_is) ∙ all)).1
    where
      inner : some_rejection block ≡ false → some_rejection body ≡ false
      inner h = sym (or_false (some_rejection body || false) ∙ or_false (some_rejection body)) ∙ h

  pub stays_trusted_inlined : IsTrusted t → IsTrusted (inlined t s)
  stays_trusted_inlined trusted =
      subst IsTrusted (ap settled (program_opened t s body b)) (record { tidy = new_tidy trusted.tidy; unrejected = new_unrejected trusted.unrejected })
