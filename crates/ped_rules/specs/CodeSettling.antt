-- Comments before the first executable statement, as statements are taken one by one. Only contracts of private functions use it (this project).
use Rattle.std.specs.Prelude.{List, ◌++◌}
use Rattle.ped_tree.specs.Tree.{StmtTrees, no_stmts, more_stmts, DeclTree}
use Rattle.ped_loop_runs.specs.ped_steps.specs.Replacing.{followed}
use Rattle.ped_rules.specs.Settling.{front_comments, behind_comments}

-- the declarations, where these statements are the body so far and those are to come
abbrev pub decls_of : List DeclTree → StmtTrees → StmtTrees → List DeclTree
decls_of decls no_stmts rest = decls ++ front_comments rest
decls_of decls (more_stmts s body) rest = decls

-- the body, where these statements are the body so far and those are to come
abbrev pub body_of : StmtTrees → StmtTrees → StmtTrees
body_of no_stmts rest = behind_comments rest
body_of (more_stmts s body) rest = followed (more_stmts s body) rest
