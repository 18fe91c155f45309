-- Whether statements hold lists of sums, as the code looks. Only contracts of private functions use it (this project).
use Rattle.std.specs.Prelude.{Bool, false, ◌||◌}
use Rattle.ped_tree.specs.Tree.{StmtTree, StmtTrees, Assign, If, Do, Print, Read, Stop, Comment, no_stmts, more_stmts}
use Rattle.ped_transformations.specs.ped_reduce.specs.Lists.{has_list}

-- a statement is a DO with a list, or one is in it
abbrev mutual
  pub holds_list : StmtTree → Bool
  holds_list (Assign left right) = false
  holds_list (If condition then_part else_part) = some_holds_list then_part || some_holds_list else_part
  holds_list (Do h body) = has_list h body || some_holds_list body
  holds_list (Print items) = false
  holds_list (Read items) = false
  holds_list Stop = false
  holds_list (Comment text) = false

  -- one of these statements is such a one
  pub some_holds_list : StmtTrees → Bool
  some_holds_list no_stmts = false
  some_holds_list (more_stmts s rest) = holds_list s || some_holds_list rest
