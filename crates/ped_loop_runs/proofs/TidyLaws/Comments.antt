-- Comments before statements: they count for no path, and write nothing.
use Rattle.std.proofs.Common.{◌≡◌, ℕ, ◌+◌, List, refl, ap, ◌∙◌, arith}
use Rattle.ped_bodies.specs.ped_flow.specs.ped_tree.specs.Tree.{StmtTrees, Assign, If, Do, Print, Read, Stop, Comment, no_stmts, more_stmts}
use Rattle.ped_bodies.specs.ped_flow.specs.ped_tree.specs.Numbering.{statements_count}
use Rattle.ped_bodies.specs.ped_flow.specs.Summaries.{summary_behind_all}
use Rattle.ped_bodies.specs.ped_steps.specs.Replacing.{followed}
use Rattle.ped_loop_runs.specs.Writing.{some_write_index}

-- what has a number is no comment
counts : {A : Type 0} (a b : ℕ) → (a + 1) + b ≡ 0 → A
counts a b e = absurd (omega (arith, e))

pub without_comments : (cs : List (List ℕ)) (w : List ℕ) (k : ℕ) (comments rest : StmtTrees) (n : ℕ) → statements_count comments ≡ 0 → summary_behind_all cs w k (followed comments rest) n ≡ summary_behind_all cs w k rest n
without_comments cs w k no_stmts rest n e = refl
without_comments cs w k (more_stmts (Comment text) more) rest n e = let same : n + 0 ≡ n = omega arith in without_comments cs w k more rest (n + 0) (omega (arith, e)) ∙ ap (summary_behind_all cs w k rest) same
without_comments cs w k (more_stmts (Assign left right) more) rest n e = counts 0 (statements_count more) e
without_comments cs w k (more_stmts (If c a b) more) rest n e = counts (statements_count a + statements_count b) (statements_count more) e
without_comments cs w k (more_stmts (Do h body) more) rest n e = counts (statements_count body) (statements_count more) e
without_comments cs w k (more_stmts (Print items) more) rest n e = counts 0 (statements_count more) e
without_comments cs w k (more_stmts (Read items) more) rest n e = counts 0 (statements_count more) e
without_comments cs w k (more_stmts Stop more) rest n e = counts 0 (statements_count more) e

pub comments_unwritten : (cs : List (List ℕ)) (comments rest : StmtTrees) → statements_count comments ≡ 0 → some_write_index cs (followed comments rest) ≡ some_write_index cs rest
comments_unwritten cs no_stmts rest e = refl
comments_unwritten cs (more_stmts (Comment text) more) rest e = comments_unwritten cs more rest (omega (arith, e))
comments_unwritten cs (more_stmts (Assign left right) more) rest e = counts 0 (statements_count more) e
comments_unwritten cs (more_stmts (If c a b) more) rest e = counts (statements_count a + statements_count b) (statements_count more) e
comments_unwritten cs (more_stmts (Do h body) more) rest e = counts (statements_count body) (statements_count more) e
comments_unwritten cs (more_stmts (Print items) more) rest e = counts 0 (statements_count more) e
comments_unwritten cs (more_stmts (Read items) more) rest e = counts 0 (statements_count more) e
comments_unwritten cs (more_stmts Stop more) rest e = counts 0 (statements_count more) e
