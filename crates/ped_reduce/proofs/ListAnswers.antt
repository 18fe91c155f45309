-- Comments that list names, as the code makes them one behind the other.
use Rattle.std.proofs.Common.{◌≡◌, ℕ, ◌+◌, ◌<◌, List, [], ◌∷◌, ◌++◌, length, take, get_or, refl, sym, ap, ◌∙◌}
use Rattle.std.proofs.lemmas.List.{take_more}
use Rattle.ped_tree.specs.Tree.{StmtTree, StmtTrees, Comment, no_stmts, more_stmts}
use Rattle.ped_tree.specs.Views.{stmt_tree, stmt_trees}
use Rattle.ped_tree.specs.declared.statements.Stmt.{Stmt}
use Rattle.ped_rules.specs.ped_steps.specs.Replacing.{followed, alone}
use Rattle.ped_rules.specs.ped_steps.proofs.Followed.{stmt_trees-append}
use Rattle.ped_reduce.specs.Lists.{list_text, with_list}

-- comments before statements that others follow
listed_followed : (names : List (List ℕ)) (a b : StmtTrees) → followed (with_list names a) b ≡ with_list names (followed a b)
listed_followed [] a b = refl
listed_followed (x ∷ xs) a b = ap (more_stmts (Comment (list_text x))) (listed_followed xs a b)

-- the comment behind the others lists the last name
listed_last : (names : List (List ℕ)) (x : List ℕ) (b : StmtTrees) → with_list names (more_stmts (Comment (list_text x)) b) ≡ with_list (names ++ x ∷ []) b
listed_last [] x b = refl
listed_last (y ∷ ys) x b = ap (more_stmts (Comment (list_text y))) (listed_last ys x b)

-- a statement more
pub pushed : (all new : List Stmt) (s : Stmt) → new ≡ all ++ s ∷ [] → stmt_trees new ≡ followed (stmt_trees all) (alone (stmt_tree s))
pushed all new s is = ap stmt_trees is ∙ stmt_trees-append all (s ∷ [])

-- a comment more lists a name more
pub comment_more : (names : List (List ℕ)) (k : ℕ) (x : List ℕ) → k < length names → x ≡ get_or names k x → (all new : List Stmt) (s : Stmt) → new ≡ all ++ s ∷ [] → stmt_tree s ≡ Comment (list_text x) → stmt_trees all ≡ with_list (take k names) no_stmts → stmt_trees new ≡ with_list (take (k + 1) names) no_stmts
comment_more names k x within there all new s is made before =
    pushed all new s is
    ∙ ap (λ (ts : StmtTrees). followed ts (alone (stmt_tree s))) before
    ∙ listed_followed (take k names) no_stmts (alone (stmt_tree s))
    ∙ ap (λ (t : StmtTree). with_list (take k names) (alone t)) made
    ∙ listed_last (take k names) x no_stmts
    ∙ ap (λ (xs : List (List ℕ)). with_list xs no_stmts) (ap (λ (y : List ℕ). take k names ++ y ∷ []) there ∙ sym (take_more names k x within))

-- a statement more behind the comments
pub statement_more : (names : List (List ℕ)) (old : List Stmt) (k : ℕ) (s : Stmt) → k < length old → s ≡ get_or old k s → (all new : List Stmt) (copy : Stmt) → new ≡ all ++ copy ∷ [] → stmt_tree copy ≡ stmt_tree s → stmt_trees all ≡ with_list names (stmt_trees (take k old)) → stmt_trees new ≡ with_list names (stmt_trees (take (k + 1) old))
statement_more names old k s within there all new copy is same before =
    pushed all new copy is
    ∙ ap (λ (ts : StmtTrees). followed ts (alone (stmt_tree copy))) before
    ∙ listed_followed names (stmt_trees (take k old)) (alone (stmt_tree copy))
    ∙ ap (λ (t : StmtTree). with_list names (followed (stmt_trees (take k old)) (alone t))) same
    ∙ ap (with_list names) (sym (pushed (take k old) (take (k + 1) old) s (take_more old k s within ∙ ap (λ (y : Stmt). take k old ++ y ∷ []) (sym there))))
