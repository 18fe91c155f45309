-- Programs without C$PED REJECT: the editor may trust what their dependences say (ParaScope; this project).
use Rattle.std.specs.Prelude.{◌≡◌, Bool, false, ◌||◌}
use Rattle.ped_bodies.specs.ped_flow.specs.ped_base.specs.Lists.{has_some}
use Rattle.ped_bodies.specs.ped_flow.specs.ped_tree.specs.Tree.{StmtTree, StmtTrees, Assign, If, Do, Print, Read, Stop, Comment, no_stmts, more_stmts, ProgramTree}
use Rattle.ped_bodies.specs.ped_steps.specs.Tidy.{IsTidy}

-- a C$PED REJECT line is before a DO, the statement itself or one in its parts (ParaScope)
abbrev mutual
  pub has_rejection : StmtTree → Bool
  has_rejection (Assign left right) = false
  has_rejection (If condition then_part else_part) = some_rejection then_part || some_rejection else_part
  has_rejection (Do h body) = has_some h.rejected || some_rejection body
  has_rejection (Print items) = false
  has_rejection (Read items) = false
  has_rejection Stop = false
  has_rejection (Comment text) = false

  -- a C$PED REJECT line is before a DO among statements or in one of them (ParaScope)
  pub some_rejection : StmtTrees → Bool
  some_rejection no_stmts = false
  some_rejection (more_stmts s rest) = has_rejection s || some_rejection rest

-- a program whose transformations keep its meaning: its PARALLEL DOs leave their variables alone, and no C$PED REJECT line says that a dependence isn't there (ParaScope; this project)
pub record IsTrusted (t : ProgramTree) : Type 0 where
  pub tidy : IsTidy t
  pub unrejected : some_rejection t.body ≡ false
