-- Programs with a gap, into which statements are put: this gives two programs that differ in one place (this project).
use Rattle.std.specs.Prelude.{ℕ, ◌+◌}
use Rattle.ped_tree.specs.Tree.{CondTree, Head, StmtTree, StmtTrees, If, Do, more_stmts}
use Rattle.ped_tree.specs.Numbering.{statement_count, statements_count}
use Rattle.ped_steps.specs.Replacing.{followed}

-- statements with a gap: before others; after a statement; or in a part of the first statement, an IF or a DO, with others after it (this project)
pub data Gap : Type 0 where
  at_front : StmtTrees → Gap
  past : StmtTree → Gap → Gap
  in_then : CondTree → Gap → StmtTrees → StmtTrees → Gap
  in_else : CondTree → StmtTrees → Gap → StmtTrees → Gap
  in_body : Head → Gap → StmtTrees → Gap

-- the statements with others put into the gap (this project)
abbrev pub filled : Gap → StmtTrees → StmtTrees
filled (at_front rest) others = followed others rest
filled (past s gap) others = more_stmts s (filled gap others)
filled (in_then condition gap else_part rest) others = more_stmts (If condition (filled gap others) else_part) rest
filled (in_else condition then_part gap rest) others = more_stmts (If condition then_part (filled gap others)) rest
filled (in_body h gap rest) others = more_stmts (Do h (filled gap others)) rest

-- the number of the first statement that is put into the gap, where the first of all has number n (this project)
abbrev pub number_at : Gap → ℕ → ℕ
number_at (at_front rest) n = n
number_at (past s gap) n = number_at gap (n + statement_count s)
number_at (in_then condition gap else_part rest) n = number_at gap (n + 1)
number_at (in_else condition then_part gap rest) n = number_at gap (n + 1 + statements_count then_part)
number_at (in_body h gap rest) n = number_at gap (n + 1)
