-- Comments that come before the first executable statement: they belong to the declarations (this project).
use Rattle.std.specs.Prelude.{List, [], ◌∷◌, ◌++◌}
use Rattle.ped_tree.specs.Tree.{StmtTrees, Assign, If, Do, Print, Read, Stop, Comment, no_stmts, more_stmts, DeclTree, Remark, ProgramTree}

-- the comments before the first statement that is none, as declarations (this project)
abbrev pub front_comments : StmtTrees → List DeclTree
front_comments no_stmts = []
front_comments (more_stmts (Comment text) rest) = Remark text ∷ front_comments rest
front_comments (more_stmts (Assign left right) rest) = []
front_comments (more_stmts (If condition then_part else_part) rest) = []
front_comments (more_stmts (Do h body) rest) = []
front_comments (more_stmts (Print items) rest) = []
front_comments (more_stmts (Read items) rest) = []
front_comments (more_stmts Stop rest) = []

-- the statements from the first on that is no comment (this project)
abbrev pub behind_comments : StmtTrees → StmtTrees
behind_comments no_stmts = no_stmts
behind_comments (more_stmts (Comment text) rest) = behind_comments rest
behind_comments (more_stmts (Assign left right) rest) = more_stmts (Assign left right) rest
behind_comments (more_stmts (If condition then_part else_part) rest) = more_stmts (If condition then_part else_part) rest
behind_comments (more_stmts (Do h body) rest) = more_stmts (Do h body) rest
behind_comments (more_stmts (Print items) rest) = more_stmts (Print items) rest
behind_comments (more_stmts (Read items) rest) = more_stmts (Read items) rest
behind_comments (more_stmts Stop rest) = more_stmts Stop rest

-- the program with the comments before its first executable statement as the last of its declarations (this project)
abbrev pub settled : ProgramTree → ProgramTree
settled t = record { decls = t.decls ++ front_comments t.body; body = behind_comments t.body }
