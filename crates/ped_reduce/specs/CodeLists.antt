-- The name that a statement lists, as the code has it (this project).
use Rattle.std.specs.Prelude.{ℕ, List, Option, None}
use Rattle.ped_tree.specs.Tree.{StmtTree, Comment}
use Rattle.ped_reduce.specs.Lists.{listed_name}

-- the name that a statement lists, where it is a comment that lists one
abbrev pub listed_by : StmtTree → Option (List ℕ)
listed_by (Comment text) = listed_name text
listed_by s = None
