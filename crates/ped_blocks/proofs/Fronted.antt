-- Comments before the first executable statement, where no statement is to come.
use Rattle.std.proofs.Common.{◌≡◌, List, [], ◌∷◌, refl}
use Rattle.std.proofs.lemmas.List.{append-nil}
use Rattle.ped_tree.specs.Tree.{StmtTree, DeclTree}
use Rattle.ped_blocks.specs.Fronts.{decls_of}

pub at_end : (decls : List DeclTree) (body : List StmtTree) → decls_of decls body [] ≡ decls
at_end decls [] = append-nil decls
at_end decls (s ∷ body) = refl
