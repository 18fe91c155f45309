-- One statement of a program that gives way to others: the two programs fill one gap (this project).
use Rattle.std.specs.Prelude.{◌≡◌, ℕ, ◌<◌}
use Rattle.ped_bodies.specs.ped_flow.specs.ped_tree.specs.Tree.{StmtTree, StmtTrees, ProgramTree}
use Rattle.ped_bodies.specs.ped_flow.specs.ped_tree.specs.Numbering.{statements_count}
use Rattle.ped_bodies.specs.ped_steps.specs.Replacing.{alone, program_with}
use Rattle.ped_bodies.specs.ped_steps.specs.Runs.Gaps.{Gap, filled, number_at}

-- a statement with this number fills a gap of the program by itself, and in the program with others in its place these fill it (this project)
pub record GivesWay (by : StmtTree → StmtTrees) (l : ℕ) (s : StmtTree) (t : ProgramTree) : Type 0 where
  pub gap : Gap
  pub old : t.body ≡ filled gap (alone s)
  pub new : (program_with by l t).body ≡ filled gap (by s)
  pub number : number_at gap 1 ≡ l
  pub some : 0 < statements_count (alone s)
