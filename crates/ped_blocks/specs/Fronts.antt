-- Comments before the first executable statement, as statements are taken one by one. Only contracts of private functions use this.
use Rattle.std.specs.Prelude.{List, [], ◌∷◌, ◌++◌}
use Rattle.ped_tree.specs.Tree.{StmtTree, DeclTree}
use Rattle.ped_tree.specs.Grammar.ProgramForms.{front_remarks, behind_front}

-- the declarations, where these statements are the body so far and those are to come
abbrev pub decls_of : List DeclTree → List StmtTree → List StmtTree → List DeclTree
decls_of decls [] rest = decls ++ front_remarks rest
decls_of decls (s ∷ body) rest = decls

-- the body, where these statements are the body so far and those are to come
abbrev pub body_of : List StmtTree → List StmtTree → List StmtTree
body_of [] rest = behind_front rest
body_of (s ∷ body) rest = (s ∷ body) ++ rest
