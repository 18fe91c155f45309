-- Comments before the first executable statement, as statements are taken one by one.
use Rattle.std.proofs.Common.{◌≡◌, List, [], ◌∷◌, ◌++◌, refl, ap, ◌∙◌}
use Rattle.std.proofs.lemmas.List.{append-nil}
use Rattle.ped_tree.specs.Tree.{StmtTrees, no_stmts, more_stmts, DeclTree}
use Rattle.ped_tree.specs.Views.{stmt_tree, stmt_trees}
use Rattle.ped_tree.specs.declared.statements.Stmt.{Stmt}
use Rattle.ped_loop_runs.specs.ped_steps.specs.Replacing.{followed, alone}
use Rattle.ped_loop_runs.specs.ped_steps.proofs.Followed.{followed-assoc, followed-none, stmt_trees-append}
use Rattle.ped_rules.specs.CodeSettling.{decls_of, body_of}

-- where no statement is to come
pub decls_at_end : (decls : List DeclTree) (body : StmtTrees) → decls_of decls body no_stmts ≡ decls
decls_at_end decls no_stmts = append-nil decls
decls_at_end decls (more_stmts s body) = refl

pub body_at_end : (body : StmtTrees) → body_of body no_stmts ≡ body
body_at_end no_stmts = refl
body_at_end (more_stmts s body) = followed-none (more_stmts s body)

-- one statement more
followed_pushed : (xs : List Stmt) (s : Stmt) (rest : StmtTrees) → followed (stmt_trees (xs ++ s ∷ [])) rest ≡ followed (stmt_trees xs) (more_stmts (stmt_tree s) rest)
followed_pushed xs s rest = ap (λ (ss : StmtTrees). followed ss rest) (stmt_trees-append xs (s ∷ [])) ∙ followed-assoc (stmt_trees xs) (alone (stmt_tree s)) rest

pub body_pushed : (xs : List Stmt) (s : Stmt) (rest : StmtTrees) → (xs ≡ [] → ⊥) → body_of (stmt_trees (xs ++ s ∷ [])) rest ≡ body_of (stmt_trees xs) (more_stmts (stmt_tree s) rest)
body_pushed [] s rest some = absurd (some refl)
body_pushed (x ∷ xs) s rest some = followed_pushed (x ∷ xs) s rest
