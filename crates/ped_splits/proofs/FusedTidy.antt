-- A tidy program in which two neighbours have become one DO is tidy, though the variable of the second one may be lost: a path that leaves it as it is passes the place of the second DO or a PARALLEL DO round it, and behind these nothing shows it.
use Rattle.std.proofs.Common.{◌≡◌, ◌⊎◌, ℕ, ◌+◌, ◌<◌, ◌≤◌, ◌==◌, List, ◌∷◌, ◌++◌, append-nil, Bool, true, false, ◌||◌, Some, inl, inr, refl, sym, ap, subst, ◌∙◌, ◌&&◌, arith, eqb-true, eq-eqb}
use Rattle.ped_base.specs.Lists.{is_among, is_same_text}
use Rattle.ped_tree.proofs.NameLaws.Collected.{among_append}
use Rattle.ped_tree.specs.Accesses.{constant_names}
use Rattle.ped_tree.specs.NamesIn.{all_loop_variables, loop_variables}
use Rattle.ped_tree.specs.Numbering.{statements_count}
use Rattle.ped_tree.specs.Tree.{Head, StmtTree, StmtTrees, Do, no_stmts, more_stmts, ProgramTree}
use Rattle.ped_rules.proofs.NameLaws.SubstitutedReferences.{variables_followed}
use Rattle.ped_rules.specs.ped_loop_runs.proofs.TidyLaws.ExchangedDos.{Comes, Stood, comes_from}
use Rattle.ped_rules.specs.ped_loop_runs.proofs.TidyLaws.ExchangedShown.{last_leaves, shown_by_either, staying_shown, new_shown}
use Rattle.ped_rules.specs.ped_loop_runs.proofs.TidyLaws.TidyPathsGaps.{IsOutside, LeaveNoMore, all_behind_none, followed_behind, gap_behind}
use Rattle.ped_rules.specs.ped_loop_runs.proofs.TidyLaws.TidyPathsShown.{shown_by}
use Rattle.ped_rules.specs.ped_loop_runs.proofs.TidyLaws.TidyPathsStops.{all_unstopped}
use Rattle.ped_rules.specs.ped_loop_runs.proofs.TidyLaws.TidyPathsSums.{Summary, IsNoMore, no_more_by, unreached_more}
use Rattle.ped_rules.specs.ped_loop_runs.proofs.TidyLaws.TidyPathsBut.{IsNoMoreBut}
use Rattle.ped_rules.specs.ped_loop_runs.proofs.TidyLaws.TidyReferences.{written_is}
use Rattle.ped_rules.specs.ped_loop_runs.proofs.TidyLaws.TidyReferencesGaps.{Stands, each_stands, all_move, each_of_program}
use Rattle.ped_rules.specs.ped_loop_runs.proofs.TidyLaws.WrittenIndices.{none_of, of_none, Unwritten, all_told, all_each, filled_index}
use Rattle.ped_rules.specs.ped_loop_runs.proofs.TidyLaws.UnrejectedTrees.{filled_unrejected}
use Rattle.ped_rules.specs.ped_loop_runs.specs.Exchanges.{Exchange, old_of, start_of, loop_of, IsExchanged, IsStaying}
use Rattle.ped_rules.specs.ped_loop_runs.specs.Unrejected.{some_rejection, IsTrusted}
use Rattle.ped_rules.specs.ped_loop_runs.specs.Writing.{all_write, some_write_index}
use Rattle.ped_rules.specs.ped_steps.specs.Replacing.{followed, alone}
use Rattle.ped_rules.specs.ped_steps.specs.Runs.Gaps.{Gap, at_front, past, in_then, in_else, in_body, filled, number_at}
use Rattle.ped_rules.specs.ped_steps.specs.Tidy.{is_written_in, IsTidy}
use Rattle.ped_rules.specs.ped_flow.proofs.Truths.{untrue}
use Rattle.ped_rules.specs.ped_flow.specs.Questions.{LoopOf, IsIndexIn, IsShownBehind}
use Rattle.ped_rules.specs.ped_flow.specs.Summaries.{unreached, summary_in_turn, summary_either, summary_loop, summary_of_all, summary_at_once, summary_behind, summary_behind_all}
use Rattle.ped_rules.specs.ped_laws.proofs.FlowRunLaws.Stopping.{fitting_stops, loop_stops}
use Rattle.ped_splits.specs.Neighbours.{Neighbour, joined_loop, fused, next_number}
use Rattle.ped_splits.specs.Fusing.{Match}
use Rattle.ped_splits.proofs.FuseFacts.{IsFusable}
use Rattle.ped_splits.proofs.FusedTrust as fields
use Rattle.ped_splits.proofs.NeighbourLoops.{gap_loop}
use Rattle.ped_splits.proofs.ParallelRound.{Round, outermost}
use Rattle.ped_splits.proofs.SerialPaths.{IsSerial, gap_left_behind}

or_last : (a : Bool) {b : Bool} → b ≡ true → a || b ≡ true
or_last true e = refl
or_last false e = e

-- a variable among statements in a gap is one among those round them
module _ (w : List ℕ) where
  in_first_of : (xs ys : List (List ℕ)) → is_among w xs ≡ true → is_among w (xs ++ ys) ≡ true
  in_first_of xs ys e = among_append w xs ys ∙ ap (λ (b : Bool). b || is_among w ys) e

  in_second_of : (xs ys : List (List ℕ)) → is_among w ys ≡ true → is_among w (xs ++ ys) ≡ true
  in_second_of xs ys e = among_append w xs ys ∙ or_last (is_among w xs) e

  inside_variables : (g : Gap) (ts : StmtTrees) → is_among w (all_loop_variables ts) ≡ true → is_among w (all_loop_variables (filled g ts)) ≡ true
  inside_variables (at_front rest) ts e = ap (is_among w) (variables_followed ts rest) ∙ in_first_of (all_loop_variables ts) (all_loop_variables rest) e
  inside_variables (past x g) ts e = in_second_of (loop_variables x) (all_loop_variables (filled g ts)) (inside_variables g ts e)
  inside_variables (in_then c g b rest) ts e =
      in_first_of (all_loop_variables (filled g ts) ++ all_loop_variables b) (all_loop_variables rest) (in_first_of (all_loop_variables (filled g ts)) (all_loop_variables b) (inside_variables g ts e))
  inside_variables (in_else c a g rest) ts e =
      in_first_of (all_loop_variables a ++ all_loop_variables (filled g ts)) (all_loop_variables rest) (in_second_of (all_loop_variables a) (all_loop_variables (filled g ts)) (inside_variables g ts e))
  inside_variables (in_body h g rest) ts e =
      in_first_of (h.variable ∷ all_loop_variables (filled g ts)) (all_loop_variables rest) (or_last (is_same_text w h.variable) (inside_variables g ts e))

same_loop : (h g : Head) (b c : StmtTrees) → Some (Do h b) ≡ Some (Do g c) → Do h b ≡ Do g c
same_loop h g b c e = cc

-- a variable of a DO or of a DO in it
index_among : (u : ProgramTree) (m : ℕ) (p : LoopOf u m) (w : List ℕ) → IsIndexIn u m w → is_among w (loop_variables (Do p.head p.body)) ≡ true
index_among u m p w index =
    let r = index.loop in
    ap (λ (c : StmtTree). is_among w (loop_variables c)) (sym (same_loop r.head p.head r.body p.body (sym r.is ∙ p.is))) ∙ index.among

-- no PARALLEL DO of a tidy program writes its variables
tidy_unwritten : (t : ProgramTree) → IsTidy t → some_write_index (constant_names t.decls) t.body ≡ false
tidy_unwritten t tidy = all_told (constant_names t.decls) t.body 1 (all_move (Stands t) (Unwritten (constant_names t.decls)) 0 1 (1 + statements_count t.body) unwritten t.body 1 1 (omega arith) (omega arith) (omega arith) (each_stands t))
  where
    unwritten : (k j : ℕ) (h : Head) (b : StmtTrees) → 1 ≤ k → k < 1 + statements_count t.body → j ≡ k + 0 → Stands t k h b → Unwritten (constant_names t.decls) j h b
    unwritten k j h b low high e stands parallel =
        let loop : LoopOf t k = record { head = h; body = b; is = stands } in
        none_of (λ w. all_write (constant_names t.decls) w b) (h.variable ∷ all_loop_variables b)
        (λ w among. sym (written_is t k loop w) ∙ (tidy k loop parallel w (record { loop = loop; among = among })).unwritten)

-- what is shown behind a DO that stays, where no PARALLEL DO is round the gap: so it was there, or behind the last of the old DO loops
module _ (x : Exchange) (t u : ProgramTree) (w : List ℕ) (is : IsExchanged x t u) (bare : is.comments ≡ no_stmts) (serial : IsSerial x.gap) where
  abbrev cs : List (List ℕ)
  cs = constant_names t.decls

  before_staying : (k m : ℕ) → IsStaying x k m → (i : ℕ) → 1 ≤ i → i < start_of x → (m == i) ≡ (k == i)
  before_staying k m (inl p) i a b = ap (λ (z : ℕ). z == i) p.1
  before_staying k m (inr p) i a b = let e = p.1 in let f = p.2 in grind (arith, eqb-true, b, e, f)

  behind_staying : (k m : ℕ) → IsStaying x k m → (i : ℕ) → (m == start_of x + statements_count x.new + i) ≡ (k == start_of x + statements_count (old_of x) + i)
  behind_staying k m (inl p) i = let e = p.0 in let f = p.1 in grind (arith, eqb-true, e, f)
  behind_staying k m (inr p) i = let e = p.1 in let f = p.2 in grind (arith, eqb-true, e, f)

  new_body : u.body ≡ filled x.gap x.new
  new_body = ap (λ (z : StmtTrees). followed z u.body) (sym bare) ∙ is.new_body

  pub serial_shown : (k m : ℕ) → IsStaying x k m → IsShownBehind u m w → IsShownBehind t k w ⊎ IsShownBehind t (loop_of x) w
  serial_shown k m stays =
      shown_by_either u t w m k (loop_of x) is.saved
      (subst (λ (names : List (List ℕ)). IsNoMoreBut (summary_behind_all names w m u.body 1) (summary_behind_all cs w k t.body 1) (summary_behind_all cs w (loop_of x) t.body 1)) (sym is.constants)
      (subst (λ (ts : StmtTrees). IsNoMoreBut (summary_behind_all cs w m ts 1) (summary_behind_all cs w k t.body 1) (summary_behind_all cs w (loop_of x) t.body 1)) (sym new_body)
      (subst (λ (ts : StmtTrees). IsNoMoreBut (summary_behind_all cs w m (filled x.gap x.new) 1) (summary_behind_all cs w k ts 1) (summary_behind_all cs w (loop_of x) ts 1)) (sym is.old_body)
      (gap_left_behind cs w x.new (old_of x) (start_of x) (loop_of x) is.unstopped (last_leaves cs w x.front x.head x.body (start_of x) (loop_of x) refl) k m
      (before_staying k m stays) (behind_staying k m stays) x.gap 1 (omega arith) serial refl))))

module _ (t : ProgramTree) (s : ℕ) (m : Match t s) (f : IsFusable t s m) where
  abbrev n : Neighbour t s
  n = m.neighbour

  abbrev u : ProgramTree
  u = fused m.neighbour

  abbrev cs' : List (List ℕ)
  cs' = constant_names t.decls

  abbrev exchange : Exchange
  exchange = record { gap = m.neighbour.gap; front = more_stmts (Do m.neighbour.own m.neighbour.own_body) m.neighbour.between; head = m.neighbour.next; body = m.neighbour.next_body; new = joined_loop m.neighbour }

  abbrev exchanged : IsExchanged exchange t u
  exchanged = record {
    old_body = m.neighbour.stands;
    comments = no_stmts;
    uncounted = refl;
    new_body = refl;
    constants = refl;
    saved = refl;
    unstopped = fields.new_unstopped t s n f.valid f.new_valid m.alike f.own_unprivate f.next_unprivate f.own_serial f.next_serial;
  }

  -- what is so of the fields
  writes : (w : List ℕ) → all_write cs' w (old_of exchange) ≡ false → all_write cs' w (joined_loop n) ≡ false
  writes = fields.writes_none t s n f.valid f.new_valid m.alike f.own_unprivate f.next_unprivate f.own_serial f.next_serial

  indices : some_write_index cs' (old_of exchange) ≡ false → some_write_index cs' (joined_loop n) ≡ false
  indices = fields.indices_none t s n f.valid f.new_valid m.alike f.own_unprivate f.next_unprivate f.own_serial f.next_serial

  none_further : (w : List ℕ) → is_among w (all_loop_variables (joined_loop n)) ≡ true → is_among w (all_loop_variables (old_of exchange)) ≡ true
  none_further = fields.none_further t s n f.valid f.new_valid m.alike f.own_unprivate f.next_unprivate f.own_serial f.next_serial

  old_keeps : (w : List ℕ) (i : ℕ) → is_among w (all_loop_variables (old_of exchange)) ≡ false → (summary_of_all cs' w (old_of exchange) i).keeps ≡ true
  old_keeps = fields.old_keeps t s n f.valid f.new_valid m.alike f.own_unprivate f.next_unprivate f.own_serial f.next_serial

  at_next : loop_of exchange ≡ next_number n
  at_next = let e = m.neighbour.numbered in let none = m.neighbour.comments in omega (arith, e, none)

  old_unshown : (w : List ℕ) → is_among w (all_loop_variables (old_of exchange)) ≡ true → IsShownBehind t (loop_of exchange) w → ⊥
  old_unshown w there shown =
      fields.old_unshown t s n f.valid f.new_valid m.alike f.own_unprivate f.next_unprivate f.own_serial f.next_serial f.own_contained f.next_contained w there (subst (λ (k : ℕ). IsShownBehind t k w) at_next shown)

  tidy : IsTidy t
  tidy = f.tidy

  -- no PARALLEL DO of the new program writes its variables
  new_unwritten : some_write_index cs' u.body ≡ false
  new_unwritten =
      filled_index cs' (old_of exchange) (joined_loop n) writes indices m.neighbour.gap (λ w g. untrue (sym g.1 ∙ none_further w g.0))
      (ap (some_write_index cs') (sym m.neighbour.stands) ∙ tidy_unwritten t tidy)

  loop_unwritten : (k : ℕ) (p : LoopOf u k) → p.head.parallel ≡ true → (w : List ℕ) → IsIndexIn u k w → is_written_in u k p.body w ≡ false
  loop_unwritten k p parallel w index =
      written_is u k p w
      ∙ of_none (λ v. all_write cs' v p.body) (p.head.variable ∷ all_loop_variables p.body) w
      (each_of_program (Unwritten cs') u (all_each cs' u.body 1 new_unwritten) k p parallel) (index_among u k p w index)

  -- a name that is the variable of none of the DO loops
  other_shown : (k j : ℕ) (w : List ℕ) → is_among w (all_loop_variables (old_of exchange)) ≡ false → IsStaying exchange k j → IsShownBehind u j w → IsShownBehind t k w
  other_shown k j w other stays =
      shown_by u t w j k refl
      (subst (λ (ss : StmtTrees). IsNoMore (summary_behind_all cs' w j (filled m.neighbour.gap (joined_loop n)) 1) (summary_behind_all cs' w k ss 1)) (sym m.neighbour.stands)
      (gap_behind cs' w (joined_loop n) (old_of exchange) less (start_of exchange) j k before behind here m.neighbour.gap 1 refl))
    where
      less : LeaveNoMore (constant_names t.decls) w (joined_loop m.neighbour) (old_of exchange)
      less = record {
        summed = λ i o. record { keeps = λ e. old_keeps w o other; ends = λ e. untrue ((all_unstopped (constant_names t.decls) w (joined_loop m.neighbour) i exchanged.unstopped).ends e) };
        loops = λ e. untrue (sym other ∙ e);
      }

      before : (i : ℕ) → i < start_of exchange → (j == i) ≡ (k == i)
      before i a = by stays
        where
          by : IsStaying exchange k j → (j == i) ≡ (k == i)
          by (inl p) = ap (λ (z : ℕ). z == i) p.1
          by (inr p) = let e = p.1 in let g = p.2 in grind (arith, eqb-true, a, e, g)

      behind : (i : ℕ) → (j == start_of exchange + statements_count (joined_loop m.neighbour) + i) ≡ (k == start_of exchange + statements_count (old_of exchange) + i)
      behind i = by stays
        where
          by : IsStaying exchange k j → (j == start_of exchange + statements_count (joined_loop m.neighbour) + i) ≡ (k == start_of exchange + statements_count (old_of exchange) + i)
          by (inl p) = let e = p.0 in let g = p.1 in grind (arith, eqb-true, e, g)
          by (inr p) = let e = p.1 in let g = p.2 in grind (arith, eqb-true, e, g)

      outside : IsOutside j (start_of exchange) (statements_count (joined_loop m.neighbour))
      outside i a = by stays
        where
          by : IsStaying exchange k j → (j == start_of exchange + i) ≡ false
          by (inl p) = let e = p.0 in let g = p.1 in grind (arith, eqb-true, a, e, g)
          by (inr p) = let g = p.2 in grind (arith, eqb-true, a, g)

      here : IsNoMore (summary_behind_all (constant_names t.decls) w j (joined_loop m.neighbour) (start_of exchange)) (summary_behind_all (constant_names t.decls) w k (old_of exchange) (start_of exchange))
      here =
          no_more_by (summary_behind_all (constant_names t.decls) w j (joined_loop m.neighbour) (start_of exchange)) unreached (summary_behind_all (constant_names t.decls) w k (old_of exchange) (start_of exchange))
          (all_behind_none (constant_names t.decls) w (joined_loop m.neighbour) j (start_of exchange) outside) (unreached_more (summary_behind_all (constant_names t.decls) w k (old_of exchange) (start_of exchange)))

  -- a PARALLEL DO round the gap
  module _ (r : Round m.neighbour.gap) where
    abbrev q : ℕ
    q = number_at r.outer 1

    abbrev old_round : StmtTrees
    old_round = filled r.inner (old_of exchange)

    abbrev new_round : StmtTrees
    new_round = filled r.inner (joined_loop m.neighbour)

    abbrev wider : Exchange
    wider = record { gap = r.outer; front = no_stmts; head = r.head; body = filled r.inner (old_of exchange); new = alone (Do r.head (filled r.inner (joined_loop m.neighbour))) }

    old_is : t.body ≡ filled r.outer (alone (Do r.head old_round))
    old_is = m.neighbour.stands ∙ r.fills (old_of exchange)

    new_is : u.body ≡ filled r.outer (alone (Do r.head new_round))
    new_is = r.fills (joined_loop m.neighbour)

    abbrev old_loop : LoopOf t q
    old_loop = record { head = r.head; body = old_round; is = gap_loop t r.outer (alone (Do r.head old_round)) 0 q r.head old_round old_is (omega arith) (omega arith) refl }

    abbrev new_loop : LoopOf u q
    new_loop = record { head = r.head; body = new_round; is = gap_loop u r.outer (alone (Do r.head new_round)) 0 q r.head new_round new_is (omega arith) (omega arith) refl }

    abbrev widened : IsExchanged wider t u
    widened = record {
      old_body = old_is;
      comments = no_stmts;
      uncounted = refl;
      new_body = new_is;
      constants = refl;
      saved = refl;
      unstopped = λ i. loop_stops u q new_loop (fitting_stops u f.new_valid.fits) i || false;
    }

    -- a variable of the two is one of the PARALLEL DO, so nothing shows it there
    module _ (w : List ℕ) (there : is_among w (all_loop_variables (old_of exchange)) ≡ true) where
      among_round : is_among w (loop_variables (Do r.head old_round)) ≡ true
      among_round = or_last (is_same_text w r.head.variable) (inside_variables w r.inner (old_of exchange) there)

      round_unshown : IsShownBehind t (loop_of wider) w → ⊥
      round_unshown shown = (tidy q old_loop r.parallel w (record { loop = old_loop; among = among_round })).unshown (subst (λ (k : ℕ). IsShownBehind t k w) at_q shown)
        where
          at_q : loop_of wider ≡ number_at r.outer 1
          at_q = omega arith

      module _ (k : ℕ) (p : LoopOf u k) (parallel : p.head.parallel ≡ true) (index : IsIndexIn u k w) (shown : IsShownBehind u k w) where
        round_stood : Stood wider t k p.head p.body → ⊥
        round_stood st = elim (st.variables w (index_among u k p w index)) [
          | inl among ↦ go among (is_among w (all_loop_variables wider.new)) refl
          | inr further ↦ untrue (sym further.1 ∙ (ap (is_among w) (append-nil (loop_variables (Do r.head old_round))) ∙ among_round))
        ]
          where
            never : is_among w (loop_variables (Do p.head st.body)) ≡ true → IsShownBehind t st.number w → ⊥
            never among =
                let loop : LoopOf t st.number = record { head = p.head; body = st.body; is = st.stands } in
                (tidy st.number loop parallel w (record { loop = loop; among = among })).unshown

            go : is_among w (loop_variables (Do p.head st.body)) ≡ true → (b : Bool) → is_among w (all_loop_variables wider.new) ≡ b → ⊥
            go among true e = elim (staying_shown wider t u w st.number k widened (λ there. e) st.staying shown) [
              | inl old ↦ never among old
              | inr old ↦ round_unshown old
            ]
            go among false e = elim (serial_shown wider t u w widened refl r.serial st.number k st.staying shown) [
              | inl old ↦ never among old
              | inr old ↦ round_unshown old
            ]

        round_never : ⊥
        round_never = elim (comes_from wider t u widened k p) [
          | inl c ↦ round_unshown (new_shown wider t u w k widened (λ there. c.variables w (index_among u k p w index)) c.new shown)
          | inr st ↦ round_stood st
        ]

  module _ (k : ℕ) (p : LoopOf u k) (parallel : p.head.parallel ≡ true) (w : List ℕ) (index : IsIndexIn u k w) (shown : IsShownBehind u k w) where
    -- a PARALLEL DO in the one DO
    of_new : Comes exchange k p.head p.body → ⊥
    of_new c =
        let there = c.variables w (index_among u k p w index) in
        old_unshown w (none_further w there) (new_shown exchange t u w k exchanged (λ e. there) c.new shown)

    -- one that stood in the old program, too
    of_old : Stood exchange t k p.head p.body → ⊥
    of_old st = elim (st.variables w (index_among u k p w index)) [
      | inl among ↦ go among (is_among w (all_loop_variables (joined_loop m.neighbour))) (is_among w (all_loop_variables (old_of exchange))) refl refl
      | inr further ↦ untrue (sym further.1 ∙ none_further w further.0)
    ]
      where
        never : is_among w (loop_variables (Do p.head st.body)) ≡ true → IsShownBehind t st.number w → ⊥
        never among =
            let loop : LoopOf t st.number = record { head = p.head; body = st.body; is = st.stands } in
            (tidy st.number loop parallel w (record { loop = loop; among = among })).unshown

        -- the variable of the second DO, which the one DO hasn't any more
        lost : is_among w (loop_variables (Do p.head st.body)) ≡ true → is_among w (all_loop_variables (old_of exchange)) ≡ true → IsSerial m.neighbour.gap ⊎ Round m.neighbour.gap → ⊥
        lost among e (inl serial) = elim (serial_shown exchange t u w exchanged refl serial st.number k st.staying shown) [
          | inl old ↦ never among old
          | inr old ↦ old_unshown w e old
        ]
        lost among e (inr r) = round_never r w e k p parallel index shown

        go : is_among w (loop_variables (Do p.head st.body)) ≡ true → (a b : Bool) → is_among w (all_loop_variables (joined_loop m.neighbour)) ≡ a → is_among w (all_loop_variables (old_of exchange)) ≡ b → ⊥
        go among true b e g = elim (staying_shown exchange t u w st.number k exchanged (λ there. e) st.staying shown) [
          | inl old ↦ never among old
          | inr old ↦ old_unshown w (none_further w e) old
        ]
        go among false true e g = lost among g (outermost m.neighbour.gap)
        go among false false e g = never among (other_shown st.number k w g st.staying shown)

    loop_unshown : ⊥
    loop_unshown = elim (comes_from exchange t u exchanged k p) [ inl c ↦ of_new c | inr st ↦ of_old st ]

  tidy_still : IsTidy u
  tidy_still k p parallel w index = record { unwritten = loop_unwritten k p parallel w index; unshown = λ shown. loop_unshown k p parallel w index shown }

  -- so the new program may be trusted as the old one
  pub stays_trusted_fused : some_rejection t.body ≡ false → IsTrusted u
  stays_trusted_fused unrejected = record {
    tidy = tidy_still;
    unrejected =
        filled_unrejected m.neighbour.gap (old_of exchange) (joined_loop n) (fields.rejections_none t s n f.valid f.new_valid m.alike f.own_unprivate f.next_unprivate f.own_serial f.next_serial)
        (ap some_rejection (sym m.neighbour.stands) ∙ unrejected);
  }
