-- Behind `privatise` the program's end shows no more: the new program overwrites the scalar wherever the old one does.
use Rattle.std.proofs.Common.{ℕ, ◌+◌, List, [], ◌∷◌, ◌++◌, Bool, ◌||◌, refl, ap, ◌∙◌}
use Rattle.std.proofs.lemmas.List.Folds.{list_any-append}
use Rattle.ped_base.specs.Lists.{is_same_text, is_among}
use Rattle.ped_tree.specs.Tree.{Head, StmtTrees, Do, no_stmts, ProgramTree}
use Rattle.ped_tree.specs.Numbering.{statement_count}
use Rattle.ped_tree.specs.Accesses.{constant_names}
use Rattle.ped_rules.specs.ped_flow.specs.Questions.{LoopOf, IsShownBehind}
use Rattle.ped_rules.specs.ped_flow.specs.Summaries.{passing, unreached, summary_of_all, summary_behind_all}
use Rattle.ped_rules.specs.ped_steps.specs.Replacing.{alone}
use Rattle.ped_scalar.specs.Privatising.{with_private, privatised}
use Rattle.ped_rules.specs.ped_loop_runs.proofs.TidyLaws.TidyPathsSums.{IsNoMore, ClearsAll, no_more, loop_more, do_more, more_more, any_numbers}
use Rattle.ped_rules.specs.ped_loop_runs.proofs.TidyLaws.TidyPathsGaps.{LeaveNoMore, loop_behind_more, rest_behind_more}
use Rattle.ped_rules.specs.ped_loop_runs.proofs.TidyLaws.TidyPathsShown.{exchanged_shows_less}

module _ (cs : List (List ℕ)) (w x : List ℕ) (h : Head) (body : StmtTrees) where
  -- the DO with the name last in its PRIVATE list
  abbrev private_head : Head
  private_head = record h { private = h.private ++ x ∷ [] }

  private_clears : ClearsAll cs w private_head h body body
  private_clears = record {
    variable = refl;
    parallel = refl;
    private = λ e. list_any-append (is_same_text w) h.private (x ∷ []) ∙ ap (λ (b : Bool). b || is_among w (x ∷ [])) e;
    loops = λ e. e;
  }

  private_leaves : LeaveNoMore cs w (with_private x (Do h body)) (alone (Do h body))
  private_leaves = record {
    summed = λ n m.
        more_more cs w (Do private_head body) (Do h body) no_stmts no_stmts n m (n + statement_count (Do h body)) (m + statement_count (Do h body))
        (do_more cs w private_head h body body n m private_clears (any_numbers cs w body (n + 1) (m + 1))) (no_more passing);
    loops = λ e. e;
  }

  private_behind : (k s : ℕ) → IsNoMore (summary_behind_all cs w k (with_private x (Do h body)) s) (summary_behind_all cs w k (alone (Do h body)) s)
  private_behind k s =
      let i : ℕ = s + statement_count (Do h body) in
      rest_behind_more cs w (Do private_head body) (Do h body) no_stmts no_stmts k s k s i i
      (loop_behind_more cs w private_head h body body k s k s refl (no_more (summary_behind_all cs w k body (s + 1)))
      (loop_more cs w private_head h body body s s (summary_of_all cs w body (s + 1)) (summary_of_all cs w body (s + 1)) private_clears (no_more (summary_of_all cs w body (s + 1)))))
      (no_more passing) (no_more unreached)

-- what may be shown behind a DO of the new program may be shown behind that DO of the old one
pub privatised_shows_less : (t : ProgramTree) (s : ℕ) (x : List ℕ) → LoopOf t s → (k : ℕ) (w : List ℕ) → IsShownBehind (privatised t s x) k w → IsShownBehind t k w
privatised_shows_less t s x l k w =
    exchanged_shows_less (with_private x) s (Do l.head l.body) t (privatised t s x) w k k l.is refl refl refl
    (private_leaves (constant_names t.decls) w x l.head l.body) (λ i e. refl) (λ i. refl) (private_behind (constant_names t.decls) w x l.head l.body k s)
