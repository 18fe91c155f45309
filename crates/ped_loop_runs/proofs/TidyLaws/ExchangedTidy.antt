-- A tidy program in which statements have been exchanged for others that leave alone what a tidy program leaves alone.
use Rattle.std.proofs.Common.{◌≡◌, ℕ, ◌+◌, ◌<◌, ◌≤◌, ◌==◌, List, ◌∷◌, Bool, true, false, Some, inl, inr, refl, sym, ap, subst, ◌∙◌, arith, eqb-true}
use Rattle.ped_bodies.specs.ped_flow.specs.ped_base.specs.Lists.{is_among}
use Rattle.ped_bodies.specs.ped_flow.specs.ped_tree.specs.Tree.{Head, StmtTree, StmtTrees, Do, ProgramTree}
use Rattle.ped_bodies.specs.ped_flow.specs.ped_tree.specs.Numbering.{statements_count}
use Rattle.ped_bodies.specs.ped_flow.specs.ped_tree.specs.Accesses.{constant_names}
use Rattle.ped_bodies.specs.ped_flow.specs.ped_tree.specs.NamesIn.{loop_variables, all_loop_variables}
use Rattle.ped_bodies.specs.ped_flow.specs.Questions.{LoopOf, IsIndexIn, IsShownBehind}
use Rattle.ped_bodies.specs.ped_flow.specs.Summaries.{unreached, summary_behind_all}
use Rattle.ped_bodies.specs.ped_flow.proofs.Truths.{untrue, or_none}
use Rattle.ped_bodies.specs.ped_steps.specs.Tidy.{is_written_in, IsTidy}
use Rattle.ped_bodies.specs.ped_steps.specs.Runs.Gaps.{filled}
use Rattle.ped_loop_runs.specs.Writing.{all_write, some_write_index}
use Rattle.ped_loop_runs.specs.Unrejected.{some_rejection, IsTrusted}
use Rattle.ped_loop_runs.specs.Exchanges.{Exchange, old_of, start_of, loop_of, IsExchanged, IsStaying, IsUnused, LeavesAlone}
use Rattle.ped_loop_runs.proofs.TidyLaws.TidyPathsSums.{Summary, IsNoMore, no_more_by, unreached_more, any_numbers}
use Rattle.ped_loop_runs.proofs.TidyLaws.TidyPathsStops.{all_unstopped}
use Rattle.ped_loop_runs.proofs.TidyLaws.TidyPathsGaps.{IsOutside, LeaveNoMore, all_behind_none, gap_behind}
use Rattle.ped_loop_runs.proofs.TidyLaws.TidyPathsShown.{shown_by}
use Rattle.ped_loop_runs.proofs.TidyLaws.TidyReferences.{written_is}
use Rattle.ped_loop_runs.proofs.TidyLaws.TidyReferencesGaps.{Stands, each_stands, all_move, each_of_program}
use Rattle.ped_loop_runs.proofs.TidyLaws.Comments.{without_comments, comments_unwritten}
use Rattle.ped_loop_runs.proofs.TidyLaws.WrittenIndices.{none_of, of_none, Unwritten, all_told, all_each, filled_index}
use Rattle.ped_loop_runs.proofs.TidyLaws.UnrejectedTrees.{followed_rejection, filled_unrejected}
use Rattle.ped_loop_runs.proofs.TidyLaws.ExchangedShown.{staying_shown, new_shown}
use Rattle.ped_loop_runs.proofs.TidyLaws.ExchangedDos.{Comes, Stood, comes_from}

same_loop : (h g : Head) (b c : StmtTrees) → Some (Do h b) ≡ Some (Do g c) → Do h b ≡ Do g c
same_loop h g b c e = cc

-- a variable of a DO or of a DO in it
index_among : (u : ProgramTree) (m : ℕ) (p : LoopOf u m) (w : List ℕ) → IsIndexIn u m w → is_among w (loop_variables (Do p.head p.body)) ≡ true
index_among u m p w index =
    let r = index.loop in
    ap (λ (c : StmtTree). is_among w (loop_variables c)) (sym (same_loop r.head p.head r.body p.body (sym r.is ∙ p.is))) ∙ index.among

-- no PARALLEL DO of a tidy program writes its variables
tidy_unwritten : (t : ProgramTree) → IsTidy t → some_write_index (constant_names t.decls) t.body ≡ false
tidy_unwritten t tidy = all_told (constant_names t.decls) t.body 1 (all_move (Stands t) (Unwritten (constant_names t.decls)) 0 1 (1 + statements_count t.body) unwritten t.body 1 1 (omega arith) (omega arith) (omega arith) (each_stands t))
  where
    unwritten : (k j : ℕ) (h : Head) (b : StmtTrees) → 1 ≤ k → k < 1 + statements_count t.body → j ≡ k + 0 → Stands t k h b → Unwritten (constant_names t.decls) j h b
    unwritten k j h b low high e stands parallel =
        let loop : LoopOf t k = record { head = h; body = b; is = stands } in
        none_of (λ w. all_write (constant_names t.decls) w b) (h.variable ∷ all_loop_variables b)
        (λ w among. sym (written_is t k loop w) ∙ (tidy k loop parallel w (record { loop = loop; among = among })).unwritten)

module _ (x : Exchange) (t u : ProgramTree) (is : IsExchanged x t u) (leave : LeavesAlone x t) (tidy : IsTidy t) where
  abbrev cs : List (List ℕ)
  cs = constant_names t.decls

  -- no PARALLEL DO of the new program writes its variables
  new_unwritten : some_write_index (constant_names u.decls) u.body ≡ false
  new_unwritten =
      ap (λ (names : List (List ℕ)). some_write_index names u.body) is.constants
      ∙ (sym (comments_unwritten cs is.comments u.body is.uncounted) ∙ ap (some_write_index cs) is.new_body
      ∙ filled_index cs (old_of x) x.new leave.writes leave.unwritten x.gap
      (λ w f. ap (all_write cs w) (sym is.old_body) ∙ (leave.further w f.0 f.1).unwritten)
      (ap (some_write_index cs) (sym is.old_body) ∙ tidy_unwritten t tidy))

  loop_unwritten : (m : ℕ) (p : LoopOf u m) → p.head.parallel ≡ true → (w : List ℕ) → IsIndexIn u m w → is_written_in u m p.body w ≡ false
  loop_unwritten m p parallel w index =
      written_is u m p w
      ∙ of_none (λ v. all_write (constant_names u.decls) v p.body) (p.head.variable ∷ all_loop_variables p.body) w
      (each_of_program (Unwritten (constant_names u.decls)) u (all_each (constant_names u.decls) u.body 1 new_unwritten) m p parallel) (index_among u m p w index)

  -- what isn't saved isn't shown
  unused_unshown : (m : ℕ) (w : List ℕ) → IsUnused t w → IsShownBehind u m w → ⊥
  unused_unshown m w unused shown = untrue (sym unused.unsaved ∙ (ap (is_among w) (sym is.saved) ∙ shown.saved))

  -- a variable of new DO loops isn't shown behind the old DO
  new_unshown : (m : ℕ) (w : List ℕ) → is_among w (all_loop_variables x.new) ≡ true → IsShownBehind u m w → IsShownBehind t (loop_of x) w → ⊥
  new_unshown m w new shown old = go (is_among w (all_loop_variables (old_of x))) refl
    where
      go : (b : Bool) → is_among w (all_loop_variables (old_of x)) ≡ b → ⊥
      go true e = leave.unshown w e old
      go false e = unused_unshown m w (leave.further w new e) shown

  -- another name that is shown behind a DO that stays is shown there in the old program
  other_shown : (k m : ℕ) (w : List ℕ) → is_among w (all_loop_variables x.new) ≡ false → IsStaying x k m → IsShownBehind u m w → IsShownBehind t k w
  other_shown k m w other stays =
      shown_by u t w m k is.saved
      (subst (λ (names : List (List ℕ)). IsNoMore (summary_behind_all names w m u.body 1) (summary_behind_all cs w k t.body 1)) (sym is.constants)
      (subst (λ (a : Summary). IsNoMore a (summary_behind_all cs w k t.body 1)) (without_comments cs w m is.comments u.body 1 is.uncounted)
      (subst (λ (ss : StmtTrees). IsNoMore (summary_behind_all cs w m ss 1) (summary_behind_all cs w k t.body 1)) (sym is.new_body)
      (subst (λ (ss : StmtTrees). IsNoMore (summary_behind_all cs w m (filled x.gap x.new) 1) (summary_behind_all cs w k ss 1)) (sym is.old_body)
      (gap_behind cs w x.new (old_of x) less (start_of x) m k before behind here x.gap 1 refl)))))
    where
      less : LeaveNoMore (constant_names t.decls) w x.new (old_of x)
      less = record {
        summed = λ n o. record {
          keeps = λ e. (any_numbers (constant_names t.decls) w (old_of x) (start_of x) o).keeps (leave.leaves w other ((any_numbers (constant_names t.decls) w x.new n (start_of x)).keeps e));
          ends = λ e. untrue ((all_unstopped (constant_names t.decls) w x.new n is.unstopped).ends e);
        };
        loops = λ e. untrue (sym other ∙ leave.variables w e);
      }

      before : (i : ℕ) → i < start_of x → (m == i) ≡ (k == i)
      before i a = by stays
        where
          by : IsStaying x k m → (m == i) ≡ (k == i)
          by (inl p) = ap (λ (z : ℕ). z == i) p.1
          by (inr p) = let e = p.1 in let f = p.2 in grind (arith, eqb-true, a, e, f)

      behind : (i : ℕ) → (m == start_of x + statements_count x.new + i) ≡ (k == start_of x + statements_count (old_of x) + i)
      behind i = by stays
        where
          by : IsStaying x k m → (m == start_of x + statements_count x.new + i) ≡ (k == start_of x + statements_count (old_of x) + i)
          by (inl p) = let e = p.0 in let f = p.1 in grind (arith, eqb-true, e, f)
          by (inr p) = let e = p.1 in let f = p.2 in grind (arith, eqb-true, e, f)

      outside : IsOutside m (start_of x) (statements_count x.new)
      outside i a = by stays
        where
          by : IsStaying x k m → (m == start_of x + i) ≡ false
          by (inl p) = let e = p.0 in let f = p.1 in grind (arith, eqb-true, a, e, f)
          by (inr p) = let f = p.2 in grind (arith, eqb-true, a, f)

      here : IsNoMore (summary_behind_all (constant_names t.decls) w m x.new (start_of x)) (summary_behind_all (constant_names t.decls) w k (old_of x) (start_of x))
      here =
          no_more_by (summary_behind_all (constant_names t.decls) w m x.new (start_of x)) unreached (summary_behind_all (constant_names t.decls) w k (old_of x) (start_of x))
          (all_behind_none (constant_names t.decls) w x.new m (start_of x) outside) (unreached_more (summary_behind_all (constant_names t.decls) w k (old_of x) (start_of x)))

  module _ (m : ℕ) (p : LoopOf u m) (parallel : p.head.parallel ≡ true) (w : List ℕ) (index : IsIndexIn u m w) (shown : IsShownBehind u m w) where
    -- a PARALLEL DO among the new statements
    of_new : Comes x m p.head p.body → ⊥
    of_new c =
        let new = c.variables w (index_among u m p w index) in
        new_unshown m w new shown (new_shown x t u w m is (leave.variables w) c.new shown)

    -- one that stands in the old program, too
    of_old : Stood x t m p.head p.body → ⊥
    of_old s = elim (s.variables w (index_among u m p w index)) [
      | inl among ↦ go among (is_among w (all_loop_variables x.new)) refl
      | inr further ↦ unused_unshown m w (leave.further w further.0 further.1) shown
    ]
      where
        never : is_among w (loop_variables (Do p.head s.body)) ≡ true → IsShownBehind t s.number w → ⊥
        never among =
            let loop : LoopOf t s.number = record { head = p.head; body = s.body; is = s.stands } in
            (tidy s.number loop parallel w (record { loop = loop; among = among })).unshown

        go : is_among w (loop_variables (Do p.head s.body)) ≡ true → (b : Bool) → is_among w (all_loop_variables x.new) ≡ b → ⊥
        go among true e = elim (staying_shown x t u w s.number m is (leave.variables w) s.staying shown) [
          | inl old ↦ never among old
          | inr old ↦ new_unshown m w e shown old
        ]
        go among false e = never among (other_shown s.number m w e s.staying shown)

    loop_unshown : ⊥
    loop_unshown = elim (comes_from x t u is m p) [ inl c ↦ of_new c | inr s ↦ of_old s ]

  tidy_still : IsTidy u
  tidy_still m p parallel w index = record { unwritten = loop_unwritten m p parallel w index; unshown = λ shown. loop_unshown m p parallel w index shown }

pub exchanged_tidy : (x : Exchange) (t u : ProgramTree) → IsExchanged x t u → LeavesAlone x t → IsTidy t → IsTidy u
exchanged_tidy x t u is leave tidy = tidy_still x t u is leave tidy

-- and one without C$PED REJECT stays so
pub exchanged_trusted : (x : Exchange) (t u : ProgramTree) → IsExchanged x t u → LeavesAlone x t → (some_rejection (old_of x) ≡ false → some_rejection x.new ≡ false) → IsTrusted t → IsTrusted u
exchanged_trusted x t u is leave none trusted = record {
  tidy = exchanged_tidy x t u is leave trusted.tidy;
  unrejected = (or_none (some_rejection is.comments) (some_rejection u.body)
      (sym (followed_rejection is.comments u.body) ∙ (ap some_rejection is.new_body ∙ filled_unrejected x.gap (old_of x) x.new none (ap some_rejection (sym is.old_body) ∙ trusted.unrejected)))).1;
}
