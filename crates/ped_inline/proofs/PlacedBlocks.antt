-- The blocks of statements, and the CALLs of blocks, as the walks of the code add them.
use Rattle.std.proofs.Common.{◌≡◌, ℕ, ◌+◌, List, [], ◌∷◌, ◌++◌, length, drop, get_or, ◌<◌, Option, None, sym, ap, ◌∙◌, arith, append_assoc}
use Rattle.std.proofs.lemmas.List.{map-append, length-append}
use Rattle.ped_tree.specs.Tree.{Head, StmtTree, StmtTrees, Do, more_stmts}
use Rattle.ped_tree.specs.Views.{stmt_tree, stmt_trees}
use Rattle.ped_tree.specs.Numbering.{numbered, all_numbered, statement_count}
use Rattle.ped_tree.specs.declared.statements.Stmt.{Stmt}
use Rattle.ped_tree.proofs.Numbers.{length-numbered, stmt_trees-drop}
use Rattle.ped_inline.specs.Folding.{blocks_in, all_blocks_in}
use Rattle.ped_inline.specs.CallsPane.{Called, called_at, called_from}
use Rattle.ped_inline.specs.CodeFolding.{place_seen, places_seen}
use Rattle.ped_inline.specs.declared.block_places.CallBlock.{CallBlock}

-- a DO, and the blocks in it behind it
pub do_placed : (old pushed new : List (Option CallBlock)) (loops : ℕ) (h : Head) (body : StmtTrees) → pushed ≡ old ++ None ∷ [] → places_seen new ≡ places_seen pushed ++ all_blocks_in (loops + 1) (length pushed + 1) body
    → places_seen new ≡ places_seen old ++ blocks_in loops (length old + 1) (Do h body)
do_placed old pushed new loops h body first more =
    let long : length pushed ≡ length old + 1 = ap length first ∙ length-append old (None ∷ []) in
    let front : places_seen pushed ≡ places_seen old ++ None ∷ [] = ap places_seen first ∙ map-append place_seen old (None ∷ []) in
    more
    ∙ (λ i. front i ++ all_blocks_in (loops + 1) (long i + 1) body)
    ∙ append_assoc (places_seen old) (None ∷ []) (all_blocks_in (loops + 1) (length old + 1 + 1) body)

-- the CALLs of numbered statements in two parts
pub called_from-append : (n : ℕ) (xs ys : List StmtTree) → called_from n (xs ++ ys) ≡ called_from n xs ++ called_from (n + length xs) ys
called_from-append n [] ys = ap (λ (m : ℕ). called_from m ys) (omega arith)
called_from-append n (x ∷ xs) ys =
    let next : n + 1 + length xs ≡ n + length (x ∷ xs) = omega arith in
    ap (λ (cs : List Called). called_at n x ++ cs) (called_from-append (n + 1) xs ys ∙ ap (λ (m : ℕ). called_from (n + 1) xs ++ called_from m ys) next)
    ∙ sym (append_assoc (called_at n x) (called_from (n + 1) xs) (called_from (n + length (x ∷ xs)) ys))

-- an IF, and the CALLs in its parts behind its own
pub if_called : (s : StmtTree) (xs ys : List StmtTree) (n m : ℕ) (old one two three : List Called) → one ≡ old ++ called_at n s → two ≡ one ++ called_from (n + 1) xs → m ≡ n + 1 + length xs → three ≡ two ++ called_from m ys
    → three ≡ old ++ called_from n (s ∷ (xs ++ ys))
if_called s xs ys n m old one two three own first number second =
    let parts = sym (called_from-append (n + 1) xs ys) in
    second
    ∙ (λ i. (first i) ++ called_from (number i) ys)
    ∙ (λ i. (own i ++ called_from (n + 1) xs) ++ called_from (n + 1 + length xs) ys)
    ∙ append_assoc (old ++ called_at n s) (called_from (n + 1) xs) (called_from (n + 1 + length xs) ys)
    ∙ ap (λ (cs : List Called). (old ++ called_at n s) ++ cs) parts
    ∙ append_assoc old (called_at n s) (called_from (n + 1) (xs ++ ys))

-- one statement more has been looked through
pub called_left : (all : List Stmt) (i : ℕ) (s : Stmt) (n m : ℕ) (so_far now whole : List Called) → i < length all → s ≡ get_or all i s → m ≡ n + statement_count (stmt_tree s) → now ≡ so_far ++ called_from n (numbered (stmt_tree s))
    → so_far ++ called_from n (all_numbered (stmt_trees (drop i all))) ≡ whole → now ++ called_from m (all_numbered (stmt_trees (drop (i + 1) all))) ≡ whole
called_left all i s n m so_far now whole more is number added before =
    let tree : stmt_trees (drop i all) ≡ more_stmts (stmt_tree s) (stmt_trees (drop (i + 1) all)) = stmt_trees-drop all i s more is in
    let rest : List StmtTree = all_numbered (stmt_trees (drop (i + 1) all)) in
    let long = length-numbered (stmt_tree s) in
    let next : m ≡ n + length (numbered (stmt_tree s)) = omega (arith, number, long) in
    (λ j. added j ++ called_from (next j) rest)
    ∙ append_assoc so_far (called_from n (numbered (stmt_tree s))) (called_from (n + length (numbered (stmt_tree s))) rest)
    ∙ ap (λ (cs : List Called). so_far ++ cs) (sym (called_from-append n (numbered (stmt_tree s)) rest) ∙ ap (λ (ss : StmtTrees). called_from n (all_numbered ss)) (sym tree))
    ∙ before
