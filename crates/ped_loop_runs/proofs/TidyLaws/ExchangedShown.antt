-- What the program's end shows behind a DO, where statements have been exchanged.
use Rattle.std.proofs.Common.{◌≡◌, ℕ, ◌+◌, ◌<◌, ◌≤◌, ◌==◌, List, Bool, true, false, ◌||◌, ◌&&◌, IsTrue, ◌⊎◌, inl, inr, refl, sym, ap, subst, ◌∙◌, arith, eqb-true}
use Rattle.std.specs.List.{flat_map}
use Rattle.ped_bodies.specs.ped_flow.specs.ped_base.specs.Lists.{is_among}
use Rattle.ped_bodies.specs.ped_flow.specs.ped_tree.specs.Tree.{Head, StmtTrees, Do, ProgramTree}
use Rattle.ped_bodies.specs.ped_flow.specs.ped_tree.specs.Numbering.{statements_count}
use Rattle.ped_bodies.specs.ped_flow.specs.ped_tree.specs.Accesses.{constant_names}
use Rattle.ped_bodies.specs.ped_flow.specs.Events.{Event, overwrites}
use Rattle.ped_bodies.specs.ped_flow.specs.PathSets.{Whole}
use Rattle.ped_bodies.specs.ped_flow.specs.Paths.{paths_from_exit}
use Rattle.ped_bodies.specs.ped_flow.specs.Questions.{IsShownBehind}
use Rattle.ped_bodies.specs.ped_flow.specs.ped_tree.specs.NamesIn.{saved_in}
use Rattle.ped_bodies.specs.ped_flow.specs.Summaries.{AreSummed, unreached, summary_in_turn, summary_either, summary_loop, summary_of_all, summary_at_once, summary_behind, summary_behind_all}
use Rattle.ped_bodies.specs.ped_flow.proofs.TreeSummaries.{all_behind-summed}
use Rattle.ped_bodies.specs.ped_flow.proofs.Truths.{or_split}
use Rattle.ped_bodies.specs.ped_steps.specs.Replacing.{followed, alone}
use Rattle.ped_bodies.specs.ped_steps.specs.Runs.Gaps.{filled}
use Rattle.ped_loop_runs.specs.Exchanges.{Exchange, old_of, start_of, loop_of, IsExchanged, IsStaying, IsNew, KeepsVariable}
use Rattle.ped_loop_runs.proofs.TidyLaws.TidyPathsSums.{Summary, no_more, no_more_by, unreached_more}
use Rattle.ped_loop_runs.proofs.TidyLaws.TidyPathsGaps.{IsOutside, gap_from, followed_behind, all_behind_none}
use Rattle.ped_loop_runs.proofs.TidyLaws.TidyPathsShown.{shown_by}
use Rattle.ped_loop_runs.proofs.TidyLaws.TidyPathsBut.{IsNoMoreBut, both_more}
use Rattle.ped_loop_runs.proofs.TidyLaws.Comments.{without_comments}
use Rattle.ped_loop_runs.proofs.TidyLaws.TidyPathsPassed.{IsPassed, gap_left_behind}

-- what is shown where the paths from the exit of a DO leave no more than those from the exits of two others in another program
pub shown_by_either : (u t : ProgramTree) (w : List ℕ) (m k l : ℕ) → flat_map saved_in u.decls ≡ flat_map saved_in t.decls
    → IsNoMoreBut (summary_behind_all (constant_names u.decls) w m u.body 1) (summary_behind_all (constant_names t.decls) w k t.body 1) (summary_behind_all (constant_names t.decls) w l t.body 1)
    → IsShownBehind u m w → IsShownBehind t k w ⊎ IsShownBehind t l w
shown_by_either u t w m k l saves less shown = by shown.leads
  where
    cs : List (List ℕ)
    cs = constant_names t.decls

    fresh : AreSummed (paths_from_exit u m) w (summary_behind_all (constant_names u.decls) w m u.body 1)
    fresh = all_behind-summed (constant_names u.decls) w m u.body 1

    old : (n : ℕ) → AreSummed (paths_from_exit t n) w (summary_behind_all (constant_names t.decls) w n t.body 1)
    old n = all_behind-summed (constant_names t.decls) w n t.body 1

    shown_on : (n : ℕ) (path : List Event) → Whole (paths_from_exit t n) path → overwrites w path ≡ false → IsShownBehind t n w
    shown_on n path leads kept = record { saved = subst (λ (names : List (List ℕ)). IsTrue (is_among w names)) saves shown.saved; path = path; leads = leads; kept = kept }

    going : (n : ℕ) → (summary_behind_all (constant_names t.decls) w n t.body 1).keeps ≡ true → IsShownBehind t n w
    going n e = let p = (old n).onward.keeps.0 e in shown_on n p.0 (inl p.1) p.2

    stopping : (n : ℕ) → (summary_behind_all (constant_names t.decls) w n t.body 1).ends ≡ true → IsShownBehind t n w
    stopping n e = let p = (old n).ends.0 e in shown_on n p.0 (inr p.1) p.2

    by : Whole (paths_from_exit u m) shown.path → IsShownBehind t k w ⊎ IsShownBehind t l w
    by (inl on) =
        elim (or_split (summary_behind_all (constant_names t.decls) w k t.body 1).keeps (summary_behind_all (constant_names t.decls) w l t.body 1).keeps (less.keeps (fresh.onward.keeps.1 (shown.path, on, shown.kept)))) [
          | inl e ↦ inl (going k e)
          | inr e ↦ inr (going l e)
        ]
    by (inr off) =
        elim (or_split (summary_behind_all (constant_names t.decls) w k t.body 1).ends (summary_behind_all (constant_names t.decls) w l t.body 1).ends (less.ends (fresh.ends.1 (shown.path, off, shown.kept)))) [
          | inl e ↦ inl (stopping k e)
          | inr e ↦ inr (stopping l e)
        ]

or_last : (p r : Bool) → r ≡ true → (p || ((r && true) || false)) ≡ true
or_last true r f = refl
or_last false true f = refl
or_last false false f = f

same_number : (n : ℕ) → (n == n) ≡ true
same_number n = grind (arith, eqb-true)

-- from the exit of a DO that comes last a path leads out
pub last_leaves : (cs : List (List ℕ)) (w : List ℕ) (front : StmtTrees) (h : Head) (b : StmtTrees) (s l : ℕ) → l ≡ s + statements_count front → (summary_behind_all cs w l (followed front (alone (Do h b))) s).keeps ≡ true
last_leaves cs w front h b s l e =
    let n : ℕ = s + statements_count front in
    let before : Summary = summary_in_turn (summary_behind_all cs w l front s) (summary_of_all cs w (alone (Do h b)) n) in
    let trips : Summary = summary_in_turn (summary_behind_all cs w l b (n + 1)) (summary_loop w n h b (summary_of_all cs w b (n + 1))) in
    ap (λ (z : Summary). z.keeps) (followed_behind cs w l front (alone (Do h b)) s)
    ∙ or_last before.keeps (summary_behind cs w l (Do h b) n).keeps
    (ap (λ (r : Bool). (summary_either (summary_at_once r) trips).keeps) (ap (λ (z : ℕ). z == n) e ∙ same_number n))

module _ (x : Exchange) (t u : ProgramTree) (w : List ℕ) (is : IsExchanged x t u) (variable : KeepsVariable x w) where
  abbrev cs : List (List ℕ)
  cs = constant_names t.decls

  passed : IsPassed cs w x.new (old_of x) (start_of x) (loop_of x)
  passed = record { unstopped = is.unstopped; loops = variable; left = last_leaves cs w x.front x.head x.body (start_of x) (loop_of x) refl }

  abbrev Before : ℕ → ℕ → Type 0
  Before k m = (i : ℕ) → 1 ≤ i → i < start_of x → (m == i) ≡ (k == i)

  abbrev Behind : ℕ → ℕ → Type 0
  Behind k m = (i : ℕ) → (m == start_of x + statements_count x.new + i) ≡ (k == start_of x + statements_count (old_of x) + i)

  in_programs : (k m : ℕ) → Before k m → Behind k m → IsNoMoreBut (summary_behind_all (constant_names u.decls) w m u.body 1) (summary_behind_all cs w k t.body 1) (summary_behind_all cs w (loop_of x) t.body 1)
  in_programs k m before behind =
      subst (λ (names : List (List ℕ)). IsNoMoreBut (summary_behind_all names w m u.body 1) (summary_behind_all cs w k t.body 1) (summary_behind_all cs w (loop_of x) t.body 1)) (sym is.constants)
      (subst (λ (a : Summary). IsNoMoreBut a (summary_behind_all cs w k t.body 1) (summary_behind_all cs w (loop_of x) t.body 1)) (without_comments cs w m is.comments u.body 1 is.uncounted)
      (subst (λ (ts : StmtTrees). IsNoMoreBut (summary_behind_all cs w m ts 1) (summary_behind_all cs w k t.body 1) (summary_behind_all cs w (loop_of x) t.body 1)) (sym is.new_body)
      (subst (λ (ts : StmtTrees). IsNoMoreBut (summary_behind_all cs w m (filled x.gap x.new) 1) (summary_behind_all cs w k ts 1) (summary_behind_all cs w (loop_of x) ts 1)) (sym is.old_body)
      (gap_left_behind cs w x.new (old_of x) (start_of x) (loop_of x) passed k m before behind x.gap 1 (omega arith) refl))))

  before_staying : (k m : ℕ) → IsStaying x k m → Before k m
  before_staying k m (inl p) i a b = ap (λ (z : ℕ). z == i) p.1
  before_staying k m (inr p) i a b = let e = p.1 in let f = p.2 in grind (arith, eqb-true, b, e, f)

  behind_staying : (k m : ℕ) → IsStaying x k m → Behind k m
  behind_staying k m (inl p) i = let e = p.0 in let f = p.1 in grind (arith, eqb-true, e, f)
  behind_staying k m (inr p) i = let e = p.1 in let f = p.2 in grind (arith, eqb-true, e, f)

  -- behind a DO that stays
  pub staying_behind : (k m : ℕ) → IsStaying x k m → IsShownBehind u m w → IsShownBehind t k w ⊎ IsShownBehind t (loop_of x) w
  staying_behind k m stays = shown_by_either u t w m k (loop_of x) is.saved (in_programs k m (before_staying k m stays) (behind_staying k m stays))

  before_new : (m : ℕ) → IsNew x m → Before 0 m
  before_new m p i a b = let e = p.0 in grind (arith, eqb-true, a, b, e)

  behind_new : (m : ℕ) → IsNew x m → Behind 0 m
  behind_new m p i = let e = p.1 in let f = gap_from x.gap 1 in grind (arith, eqb-true, e, f)

  no_zero : IsOutside 0 1 (statements_count t.body)
  no_zero i h = grind (arith, eqb-true)

  -- there is no DO with number 0, so what is left behind a new DO is left behind the old one alone
  pub new_behind : (m : ℕ) → IsNew x m → IsShownBehind u m w → IsShownBehind t (loop_of x) w
  new_behind m new shown =
      let last : Summary = summary_behind_all cs w (loop_of x) t.body 1 in
      let none : Summary = summary_behind_all cs w 0 t.body 1 in
      shown_by u t w m (loop_of x) is.saved
      (no_more_by (summary_behind_all (constant_names u.decls) w m u.body 1) (summary_either none last) last (in_programs 0 m (before_new m new) (behind_new m new))
      (both_more none last last (no_more_by none unreached last (all_behind_none cs w t.body 0 1 no_zero) (unreached_more last)) (no_more last))) shown

pub staying_shown : (x : Exchange) (t u : ProgramTree) (w : List ℕ) (k m : ℕ) → IsExchanged x t u → KeepsVariable x w → IsStaying x k m → IsShownBehind u m w → IsShownBehind t k w ⊎ IsShownBehind t (loop_of x) w
staying_shown x t u w k m is variable = staying_behind x t u w is variable k m

pub new_shown : (x : Exchange) (t u : ProgramTree) (w : List ℕ) (m : ℕ) → IsExchanged x t u → KeepsVariable x w → IsNew x m → IsShownBehind u m w → IsShownBehind t (loop_of x) w
new_shown x t u w m is variable = new_behind x t u w is variable m
