-- The statements that the code of `skew` makes. Only contracts of private functions use it (this project).
use Rattle.std.specs.Prelude.{ℕ, ℤ, List}
use Rattle.ped_tree.specs.Tree.{StmtTree, StmtTrees, Assign, If, Do, Print, Read, Stop, Comment, no_stmts, more_stmts}
use Rattle.ped_reindex.specs.Skewing.{skewed_loop}

-- a DO skewed; another statement stays
abbrev pub skewed_statement : ℤ → List ℕ → StmtTree → StmtTree
skewed_statement f i (Do g body) = skewed_loop f i g body
skewed_statement f i (Assign left right) = Assign left right
skewed_statement f i (If condition then_part else_part) = If condition then_part else_part
skewed_statement f i (Print items) = Print items
skewed_statement f i (Read items) = Read items
skewed_statement f i Stop = Stop
skewed_statement f i (Comment text) = Comment text

-- each DO among statements skewed
abbrev pub all_skewed : ℤ → List ℕ → StmtTrees → StmtTrees
all_skewed f i no_stmts = no_stmts
all_skewed f i (more_stmts s rest) = more_stmts (skewed_statement f i s) (all_skewed f i rest)
