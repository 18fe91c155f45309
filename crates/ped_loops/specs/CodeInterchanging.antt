-- How far the code of `interchange` has come, and the loops that it makes. Only contracts of private functions use it (this project).
use Rattle.std.specs.Prelude.{◌≤◌, ℕ}
use Rattle.ped_tree.specs.Tree.{Head, StmtTree, StmtTrees, Assign, If, Do, Print, Read, Stop, Comment, no_stmts, more_stmts}
use Rattle.ped_rules.specs.ped_steps.specs.declared.rules.Rule.{Rule}
use Rattle.ped_rules.specs.ped_steps.specs.RuleNames.{number_of}
use Rattle.ped_rules.specs.ped_steps.specs.Causes.{Rules}

-- no rule with a number up to this one forbids the step
abbrev pub NoneUpTo : ℕ → Rules → Type 0
NoneUpTo k stands = (r : Rule) (n : ℕ) → number_of r ≤ k → stands r n → ⊥

-- a DO in the place of a DO; another statement stays
abbrev pub one_around : Head → StmtTrees → StmtTree → StmtTree
one_around head inside (Do h body) = Do head inside
one_around head inside (Assign left right) = Assign left right
one_around head inside (If condition then_part else_part) = If condition then_part else_part
one_around head inside (Print items) = Print items
one_around head inside (Read items) = Read items
one_around head inside Stop = Stop
one_around head inside (Comment text) = Comment text

-- a DO in the place of each DO among statements
abbrev pub each_around : Head → StmtTrees → StmtTrees → StmtTrees
each_around head inside no_stmts = no_stmts
each_around head inside (more_stmts s rest) = more_stmts (one_around head inside s) (each_around head inside rest)
