-- A tidy program in which statements have been exchanged for others with the same variables of DO loops stays tidy, where no PARALLEL DO of the new program writes its variables: the new statements may write names that the old ones don't.
use Rattle.std.proofs.Common.{◌≡◌, ℕ, ◌+◌, ◌<◌, ◌≤◌, ◌==◌, List, ◌∷◌, Bool, true, false, Some, inl, inr, refl, sym, ap, subst, ◌∙◌, arith, eqb-true}
use Rattle.ped_base.specs.Lists.{is_among}
use Rattle.ped_tree.specs.Tree.{Head, StmtTree, StmtTrees, Do, ProgramTree}
use Rattle.ped_tree.specs.Numbering.{statements_count}
use Rattle.ped_tree.specs.Accesses.{constant_names}
use Rattle.ped_tree.specs.NamesIn.{loop_variables, all_loop_variables}
use Rattle.ped_rules.specs.ped_flow.specs.Questions.{LoopOf, IsIndexIn, IsShownBehind}
use Rattle.ped_rules.specs.ped_flow.specs.Summaries.{unreached, summary_of_all, summary_behind_all}
use Rattle.ped_rules.specs.ped_flow.proofs.Truths.{untrue}
use Rattle.ped_rules.specs.ped_steps.specs.Tidy.{is_written_in, IsTidy}
use Rattle.ped_rules.specs.ped_steps.specs.Runs.Gaps.{filled}
use Rattle.ped_rules.specs.ped_loop_runs.specs.Writing.{all_write, some_write_index}
use Rattle.ped_rules.specs.ped_loop_runs.specs.Unrejected.{some_rejection, IsTrusted}
use Rattle.ped_rules.specs.ped_loop_runs.specs.Exchanges.{Exchange, old_of, start_of, loop_of, IsExchanged, IsStaying}
use Rattle.ped_rules.specs.ped_loop_runs.proofs.TidyLaws.TidyPathsSums.{IsNoMore, no_more_by, unreached_more, any_numbers}
use Rattle.ped_rules.specs.ped_loop_runs.proofs.TidyLaws.TidyPathsStops.{all_unstopped}
use Rattle.ped_rules.specs.ped_loop_runs.proofs.TidyLaws.TidyPathsGaps.{IsOutside, LeaveNoMore, all_behind_none, gap_behind}
use Rattle.ped_rules.specs.ped_loop_runs.proofs.TidyLaws.TidyPathsShown.{shown_by}
use Rattle.ped_rules.specs.ped_loop_runs.proofs.TidyLaws.TidyReferences.{written_is}
use Rattle.ped_rules.specs.ped_loop_runs.proofs.TidyLaws.TidyReferencesGaps.{Stands, each_stands, all_move, each_of_program}
use Rattle.ped_rules.specs.ped_loop_runs.proofs.TidyLaws.WrittenIndices.{none_of, of_none, Unwritten, all_told, all_each}
use Rattle.ped_rules.specs.ped_loop_runs.proofs.TidyLaws.UnrejectedTrees.{filled_unrejected}
use Rattle.ped_rules.specs.ped_loop_runs.proofs.TidyLaws.ExchangedShown.{staying_shown, new_shown}
use Rattle.ped_rules.specs.ped_loop_runs.proofs.TidyLaws.ExchangedDos.{Comes, Stood, comes_from}

same_loop : (h g : Head) (b c : StmtTrees) → Some (Do h b) ≡ Some (Do g c) → Do h b ≡ Do g c
same_loop h g b c e = cc

-- a variable of a DO or of a DO in it
index_among : (u : ProgramTree) (m : ℕ) (p : LoopOf u m) (w : List ℕ) → IsIndexIn u m w → is_among w (loop_variables (Do p.head p.body)) ≡ true
index_among u m p w index =
    let r = index.loop in
    ap (λ (c : StmtTree). is_among w (loop_variables c)) (sym (same_loop r.head p.head r.body p.body (sym r.is ∙ p.is))) ∙ index.among

-- no PARALLEL DO of a tidy program writes its variables
pub tidy_unwritten : (t : ProgramTree) → IsTidy t → some_write_index (constant_names t.decls) t.body ≡ false
tidy_unwritten t tidy =
    all_told (constant_names t.decls) t.body 1
    (all_move (Stands t) (Unwritten (constant_names t.decls)) 0 1 (1 + statements_count t.body) unwritten t.body 1 1 (omega arith) (omega arith) (omega arith) (each_stands t))
  where
    unwritten : (k j : ℕ) (h : Head) (b : StmtTrees) → 1 ≤ k → k < 1 + statements_count t.body → j ≡ k + 0 → Stands t k h b → Unwritten (constant_names t.decls) j h b
    unwritten k j h b low high e stands parallel =
        let loop : LoopOf t k = record { head = h; body = b; is = stands } in
        none_of (λ w. all_write (constant_names t.decls) w b) (h.variable ∷ all_loop_variables b)
        (λ w among. sym (written_is t k loop w) ∙ (tidy k loop parallel w (record { loop = loop; among = among })).unwritten)

-- what is asked: the DO loops of the new statements have the variables of those of the old ones, none of which is shown behind the last of the old ones; no PARALLEL DO of the new program writes its variables; and where some path through the new statements leaves another name as it is, so does one through the old ones
pub record KeepVariables (x : Exchange) (t u : ProgramTree) : Type 0 where
  pub is : IsExchanged x t u
  pub body : u.body ≡ filled x.gap x.new
  pub variables : (w : List ℕ) → is_among w (all_loop_variables x.new) ≡ is_among w (all_loop_variables (old_of x))
  pub unshown : (w : List ℕ) → is_among w (all_loop_variables (old_of x)) ≡ true → IsShownBehind t (loop_of x) w → ⊥
  pub unwritten : some_write_index (constant_names t.decls) u.body ≡ false
  pub leaves : (w : List ℕ) → is_among w (all_loop_variables x.new) ≡ false → (summary_of_all (constant_names t.decls) w x.new (start_of x)).keeps ≡ true → (summary_of_all (constant_names t.decls) w (old_of x) (start_of x)).keeps ≡ true

module _ (x : Exchange) (t u : ProgramTree) (keep : KeepVariables x t u) (tidy : IsTidy t) where
  abbrev cs : List (List ℕ)
  cs = constant_names t.decls

  is : IsExchanged x t u
  is = keep.is

  loop_unwritten : (m : ℕ) (p : LoopOf u m) → p.head.parallel ≡ true → (w : List ℕ) → IsIndexIn u m w → is_written_in u m p.body w ≡ false
  loop_unwritten m p parallel w index =
      let none : some_write_index (constant_names u.decls) u.body ≡ false = ap (λ (names : List (List ℕ)). some_write_index names u.body) is.constants ∙ keep.unwritten in
      written_is u m p w
      ∙ of_none (λ v. all_write (constant_names u.decls) v p.body) (p.head.variable ∷ all_loop_variables p.body) w
      (each_of_program (Unwritten (constant_names u.decls)) u (all_each (constant_names u.decls) u.body 1 none) m p parallel) (index_among u m p w index)

  -- another name that is shown behind a DO that stays is shown there in the old program
  other_shown : (k m : ℕ) (w : List ℕ) → is_among w (all_loop_variables x.new) ≡ false → IsStaying x k m → IsShownBehind u m w → IsShownBehind t k w
  other_shown k m w other stays =
      shown_by u t w m k is.saved
      (subst (λ (names : List (List ℕ)). IsNoMore (summary_behind_all names w m u.body 1) (summary_behind_all cs w k t.body 1)) (sym is.constants)
      (subst (λ (ss : StmtTrees). IsNoMore (summary_behind_all cs w m ss 1) (summary_behind_all cs w k t.body 1)) (sym keep.body)
      (subst (λ (ss : StmtTrees). IsNoMore (summary_behind_all cs w m (filled x.gap x.new) 1) (summary_behind_all cs w k ss 1)) (sym is.old_body)
      (gap_behind cs w x.new (old_of x) less (start_of x) m k before behind here x.gap 1 refl))))
    where
      less : LeaveNoMore (constant_names t.decls) w x.new (old_of x)
      less = record {
        summed = λ n o. record {
          keeps = λ e. (any_numbers (constant_names t.decls) w (old_of x) (start_of x) o).keeps (keep.leaves w other ((any_numbers (constant_names t.decls) w x.new n (start_of x)).keeps e));
          ends = λ e. untrue ((all_unstopped (constant_names t.decls) w x.new n keep.is.unstopped).ends e);
        };
        loops = λ e. keep.variables w ∙ e;
      }

      before : (i : ℕ) → i < start_of x → (m == i) ≡ (k == i)
      before i a = by stays
        where
          by : IsStaying x k m → (m == i) ≡ (k == i)
          by (inl p) = ap (λ (z : ℕ). z == i) p.1
          by (inr p) = let e = p.1 in let f = p.2 in grind (arith, eqb-true, a, e, f)

      behind : (i : ℕ) → (m == start_of x + statements_count x.new + i) ≡ (k == start_of x + statements_count (old_of x) + i)
      behind i = by stays
        where
          by : IsStaying x k m → (m == start_of x + statements_count x.new + i) ≡ (k == start_of x + statements_count (old_of x) + i)
          by (inl p) = let e = p.0 in let f = p.1 in grind (arith, eqb-true, e, f)
          by (inr p) = let e = p.1 in let f = p.2 in grind (arith, eqb-true, e, f)

      outside : IsOutside m (start_of x) (statements_count x.new)
      outside i a = by stays
        where
          by : IsStaying x k m → (m == start_of x + i) ≡ false
          by (inl p) = let e = p.0 in let f = p.1 in grind (arith, eqb-true, a, e, f)
          by (inr p) = let f = p.2 in grind (arith, eqb-true, a, f)

      here : IsNoMore (summary_behind_all (constant_names t.decls) w m x.new (start_of x)) (summary_behind_all (constant_names t.decls) w k (old_of x) (start_of x))
      here =
          no_more_by (summary_behind_all (constant_names t.decls) w m x.new (start_of x)) unreached (summary_behind_all (constant_names t.decls) w k (old_of x) (start_of x))
          (all_behind_none (constant_names t.decls) w x.new m (start_of x) outside) (unreached_more (summary_behind_all (constant_names t.decls) w k (old_of x) (start_of x)))

  kept : (w : List ℕ) → is_among w (all_loop_variables (old_of x)) ≡ true → is_among w (all_loop_variables x.new) ≡ true
  kept w e = keep.variables w ∙ e

  -- a variable of the new DO loops isn't shown behind the old DO
  new_unshown : (w : List ℕ) → is_among w (all_loop_variables x.new) ≡ true → IsShownBehind t (loop_of x) w → ⊥
  new_unshown w new = keep.unshown w (sym (keep.variables w) ∙ new)

  module _ (m : ℕ) (p : LoopOf u m) (parallel : p.head.parallel ≡ true) (w : List ℕ) (index : IsIndexIn u m w) (shown : IsShownBehind u m w) where
    -- a PARALLEL DO among the new statements
    of_new : Comes x m p.head p.body → ⊥
    of_new c = new_unshown w (c.variables w (index_among u m p w index)) (new_shown x t u w m is (kept w) c.new shown)

    -- one that stands in the old program, too
    of_old : Stood x t m p.head p.body → ⊥
    of_old s = elim (s.variables w (index_among u m p w index)) [
      | inl among ↦ go among (is_among w (all_loop_variables x.new)) refl
      | inr further ↦ untrue (sym further.1 ∙ (sym (keep.variables w) ∙ further.0))
    ]
      where
        never : is_among w (loop_variables (Do p.head s.body)) ≡ true → IsShownBehind t s.number w → ⊥
        never among =
            let loop : LoopOf t s.number = record { head = p.head; body = s.body; is = s.stands } in
            (tidy s.number loop parallel w (record { loop = loop; among = among })).unshown

        go : is_among w (loop_variables (Do p.head s.body)) ≡ true → (b : Bool) → is_among w (all_loop_variables x.new) ≡ b → ⊥
        go among true e = elim (staying_shown x t u w s.number m is (kept w) s.staying shown) [
          | inl old ↦ never among old
          | inr old ↦ new_unshown w e old
        ]
        go among false e = never among (other_shown s.number m w e s.staying shown)

    loop_unshown : ⊥
    loop_unshown = elim (comes_from x t u is m p) [ inl c ↦ of_new c | inr s ↦ of_old s ]

  tidy_still : IsTidy u
  tidy_still m p parallel w index = record { unwritten = loop_unwritten m p parallel w index; unshown = λ shown. loop_unshown m p parallel w index shown }

-- and one without C$PED REJECT stays so
pub keeps_trust : (x : Exchange) (t u : ProgramTree) → KeepVariables x t u → (some_rejection (old_of x) ≡ false → some_rejection x.new ≡ false) → IsTrusted t → IsTrusted u
keeps_trust x t u keep none trusted = record {
  tidy = tidy_still x t u keep trusted.tidy;
  unrejected = ap some_rejection keep.body ∙ filled_unrejected x.gap (old_of x) x.new none (ap some_rejection (sym keep.is.old_body) ∙ trusted.unrejected);
}
