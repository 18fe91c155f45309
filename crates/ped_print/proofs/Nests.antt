-- The lines of an ELSE and of a DO, put together.
use Rattle.std.proofs.Common.{◌≡◌, ℕ, suc, ◌+◌, List, [], ◌∷◌, ◌++◌, None, Some, codes, refl, ap, sym, ◌∙◌, append_assoc, arith, rules}
use Rattle.ped_tree.specs.Tree.{Head, StmtTrees, Do}
use Rattle.ped_tree.specs.Printing.{Line, directive_lines, text_lines, private_lines, own_text, statement_lines, statements_lines, else_lines}
use Rattle.ped_tree.specs.Numbering.{statement_count}
use Rattle.ped_tree.specs.Views.{stmt_tree, stmt_trees, do_tree}
use Rattle.ped_tree.specs.declared.statements.Stmt.{Stmt, the_lemmas}
use Rattle.ped_tree.specs.declared.statements.Stmt as variant
use Rattle.ped_tree.specs.declared.statements.Do as loop

-- one piece more behind what was to be joined
behind : {X : Type 0} (a b c d e : List X) → d ≡ a ++ b → e ≡ d ++ c → e ≡ a ++ (b ++ c)
behind a b c d e p q = let r = append_assoc a b c in cc

-- the tree of a DO as a statement
pub stmt_tree-Do : (d : loop.Do) → stmt_tree (variant.Do d) ≡ do_tree d
stmt_tree-Do d = search (rules, the_lemmas)

-- an ELSE part that isn't empty
pub else_part : (all : List Stmt) (depth number : ℕ) (old middle new : List Line) → (all ≡ [] → ⊥) → middle ≡ old ++ text_lines None depth (codes "ELSE") → new ≡ middle ++ statements_lines (depth + 1) number (stmt_trees all) → new ≡ old ++ else_lines depth number (stmt_trees all)
else_part [] depth number old middle new h p q = absurd (h refl)
else_part (s ∷ all) depth number old middle new h p q =
    let deeper : depth + 1 ≡ suc depth = omega arith in
    let body = ap (λ (d : ℕ). statements_lines d number (stmt_trees (s ∷ all))) deeper in
    behind old (text_lines None depth (codes "ELSE")) (statements_lines (suc depth) number (stmt_trees (s ∷ all))) middle new p (q ∙ ap (λ (x : List Line). middle ++ x) body)
    ∙ ap (λ (x : List Line). old ++ x) (sym (append_assoc (text_lines None depth (codes "ELSE")) (statement_lines (suc depth) number (stmt_tree s)) (statements_lines (suc depth) (number + statement_count (stmt_tree s)) (stmt_trees all))))

-- a DO with the lines before its body, its body and its end
pub do_part : (h : Head) (body : StmtTrees) (depth number : ℕ) (old head inside new : List Line) → head ≡ old ++ (directive_lines h.rejected ++ text_lines (Some number) depth (own_text (Do h body)) ++ private_lines (depth + 1) h.private) → inside ≡ head ++ statements_lines (depth + 1) (number + 1) body → new ≡ inside ++ text_lines None depth (codes "END DO") → new ≡ old ++ statement_lines depth number (Do h body)
do_part h body depth number old head inside new p s t =
    let deeper : depth + 1 ≡ suc depth = omega arith in
    let own = ap (λ (d : ℕ). private_lines d h.private) deeper in
    let within = ap (λ (d : ℕ). statements_lines d (number + 1) body) deeper in
    let first = directive_lines h.rejected ++ text_lines (Some number) depth (own_text (Do h body)) in
    let b : head ≡ old ++ (first ++ private_lines (suc depth) h.private) = p ∙ ap (λ (x : List Line). old ++ (first ++ x)) own in
    let c = behind old _ _ head inside b (s ∙ ap (λ (x : List Line). head ++ x) within) in
    behind old _ _ inside new c t
