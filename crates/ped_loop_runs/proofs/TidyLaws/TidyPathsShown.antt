-- What a program's end shows of a scalar, in programs that differ in one gap.
use Rattle.std.proofs.Common.{◌≡◌, ℕ, ◌+◌, ◌<◌, ◌==◌, List, false, IsTrue, Some, inl, inr, sym, subst, ◌∙◌}
use Rattle.std.specs.List.{flat_map}
use Rattle.ped_bodies.specs.ped_flow.specs.ped_base.specs.Lists.{is_among}
use Rattle.ped_bodies.specs.ped_flow.specs.ped_tree.specs.Tree.{StmtTree, StmtTrees, ProgramTree}
use Rattle.ped_bodies.specs.ped_flow.specs.ped_tree.specs.Numbering.{statements_count, statement_with}
use Rattle.ped_bodies.specs.ped_flow.specs.ped_tree.specs.Accesses.{constant_names}
use Rattle.ped_bodies.specs.ped_flow.specs.Events.{Event, overwrites}
use Rattle.ped_bodies.specs.ped_flow.specs.PathSets.{Whole}
use Rattle.ped_bodies.specs.ped_flow.specs.Paths.{paths_from_exit}
use Rattle.ped_bodies.specs.ped_flow.specs.Questions.{IsShownBehind}
use Rattle.ped_bodies.specs.ped_flow.specs.ped_tree.specs.NamesIn.{saved_in}
use Rattle.ped_bodies.specs.ped_flow.specs.Summaries.{AreSummed, summary_behind_all}
use Rattle.ped_bodies.specs.ped_flow.proofs.TreeSummaries.{all_behind-summed}
use Rattle.ped_bodies.specs.ped_steps.specs.Replacing.{alone, program_with}
use Rattle.ped_bodies.specs.ped_steps.specs.Runs.Gaps.{filled}
use Rattle.ped_bodies.specs.ped_steps.proofs.RunLaws.ReplacedTrees.{HasGap, program_gap}
use Rattle.ped_loop_runs.proofs.TidyLaws.TidyPathsSums.{IsNoMore}
use Rattle.ped_loop_runs.proofs.TidyLaws.TidyPathsGaps.{LeaveNoMore, gap_behind}

-- what is shown where the paths from the exit of one DO leave no more than those from another's in another program
pub shown_by : (new t : ProgramTree) (w : List ℕ) (k l : ℕ) → flat_map saved_in new.decls ≡ flat_map saved_in t.decls
    → IsNoMore (summary_behind_all (constant_names new.decls) w k new.body 1) (summary_behind_all (constant_names t.decls) w l t.body 1) → IsShownBehind new k w → IsShownBehind t l w
shown_by new t w k l saves less shown = by shown.leads
  where
    fresh : AreSummed (paths_from_exit new k) w (summary_behind_all (constant_names new.decls) w k new.body 1)
    fresh = all_behind-summed (constant_names new.decls) w k new.body 1

    old : AreSummed (paths_from_exit t l) w (summary_behind_all (constant_names t.decls) w l t.body 1)
    old = all_behind-summed (constant_names t.decls) w l t.body 1

    shown_on : (path : List Event) → Whole (paths_from_exit t l) path → overwrites w path ≡ false → IsShownBehind t l w
    shown_on path leads kept = record { saved = subst (λ (names : List (List ℕ)). IsTrue (is_among w names)) saves shown.saved; path = path; leads = leads; kept = kept }

    by : Whole (paths_from_exit new k) shown.path → IsShownBehind t l w
    by (inl on) = let p = old.onward.keeps.0 (less.keeps (fresh.onward.keeps.1 (shown.path, on, shown.kept))) in shown_on p.0 (inl p.1) p.2
    by (inr off) = let p = old.ends.0 (less.ends (fresh.ends.1 (shown.path, off, shown.kept))) in shown_on p.0 (inr p.1) p.2

-- one statement of a program has been exchanged for others that leave no more of the scalar
pub exchanged_shows_less : (exchange : StmtTree → StmtTrees) (s : ℕ) (u : StmtTree) (t new : ProgramTree) (w : List ℕ) (k l : ℕ) → statement_with s t ≡ Some u → new.body ≡ (program_with exchange s t).body
    → constant_names new.decls ≡ constant_names t.decls → flat_map saved_in new.decls ≡ flat_map saved_in t.decls
    → LeaveNoMore (constant_names t.decls) w (exchange u) (alone u)
    → ((i : ℕ) → i < s → (k == i) ≡ (l == i)) → ((i : ℕ) → (k == s + statements_count (exchange u) + i) ≡ (l == s + statements_count (alone u) + i))
    → IsNoMore (summary_behind_all (constant_names t.decls) w k (exchange u) s) (summary_behind_all (constant_names t.decls) w l (alone u) s) → IsShownBehind new k w → IsShownBehind t l w
exchanged_shows_less exchange s u t new w k l found made same saves less before behind here =
    shown_by new t w k l saves
    (subst (λ (cs : List (List ℕ)). IsNoMore (summary_behind_all cs w k new.body 1) (summary_behind_all (constant_names t.decls) w l t.body 1)) (sym same)
    (subst (λ (ts : StmtTrees). IsNoMore (summary_behind_all (constant_names t.decls) w k ts 1) (summary_behind_all (constant_names t.decls) w l t.body 1)) (sym (made ∙ g.new_is))
    (subst (λ (ts : StmtTrees). IsNoMore (summary_behind_all (constant_names t.decls) w k (filled g.gap (exchange u)) 1) (summary_behind_all (constant_names t.decls) w l ts 1)) (sym g.old_is)
    (gap_behind (constant_names t.decls) w (exchange u) (alone u) less s k l before behind here g.gap 1 g.number))))
  where
    g : HasGap exchange s u 1 t.body (program_with exchange s t).body
    g = program_gap exchange s u t found
