-- What the code of origins puts together, statement behind statement.
use Rattle.std.proofs.Common.{◌≡◌, ℕ, ◌+◌, ◌<◌, List, [], ◌∷◌, ◌++◌, length, drop, get_or, Bool, false, refl, sym, ap, ◌∙◌, arith, rules, append_assoc}
use Rattle.ped_tree.specs.Tree.{CondTree, Head, StmtTree, StmtTrees, If, Do}
use Rattle.ped_tree.specs.Numbering.{numbered, all_numbered, statement_count, statements_count}
use Rattle.ped_tree.specs.Views.{stmt_tree, stmt_trees, head_of}
use Rattle.ped_tree.specs.declared.statements.Do.{Do as DoLoop}
use Rattle.ped_tree.specs.declared.statements.Stmt as variant
use Rattle.ped_tree.specs.declared.statements.Stmt.{Stmt}
use Rattle.ped_tree.proofs.Numbers.{length-numbered, length-all_numbered, stmt_trees-drop}
use Rattle.ped_reduce.specs.Lowering.{Partials, repeated, is_sum, summed_origins}
use Rattle.ped_reduce.proofs.LoweredCounts.{no_sum, first_sums, sums_in, sums_append}

-- a DO of the code as a plain tree
pub loop_tree : (d : DoLoop) → stmt_tree (variant.Do d) ≡ Do (head_of d) (stmt_trees d.body.items)
loop_tree d = search (rules, variant.the_lemmas)

-- statements one behind the other come from what they come from
pub origins-append : (ps : List Partials) (xs ys : List StmtTree) (n : ℕ) → summed_origins ps (xs ++ ys) n ≡ summed_origins ps xs n ++ summed_origins ps ys (n + length xs)
origins-append ps [] ys n = let e : n ≡ n + 0 = omega arith in ap (summed_origins ps ys) e
origins-append ps (x ∷ xs) ys n =
    let first = repeated (is_sum ps x) n in
    let e : n + 1 + length xs ≡ n + length (x ∷ xs) = omega arith in
    ap (λ (zs : List ℕ). first ++ zs) (origins-append ps xs ys (n + 1))
    ∙ ap (λ (k : ℕ). first ++ (summed_origins ps xs (n + 1) ++ summed_origins ps ys k)) e
    ∙ sym (append_assoc first (summed_origins ps xs (n + 1)) (summed_origins ps ys (n + length (x ∷ xs))))

-- one statement more
pub origins_next : (ps : List Partials) (ss : List Stmt) (i : ℕ) (s : Stmt) → i < length ss → s ≡ get_or ss i s → (n m : ℕ) → m ≡ n + statement_count (stmt_tree s) → (before after whole : List ℕ)
    → before ++ summed_origins ps (all_numbered (stmt_trees (drop i ss))) n ≡ whole → after ≡ before ++ summed_origins ps (numbered (stmt_tree s)) n
    → after ++ summed_origins ps (all_numbered (stmt_trees (drop (i + 1) ss))) m ≡ whole
origins_next ps ss i s within is n m k before after whole h a =
    let t = numbered (stmt_tree s) in
    let rest = all_numbered (stmt_trees (drop (i + 1) ss)) in
    let at : m ≡ n + length t = k ∙ ap (λ (c : ℕ). n + c) (sym (length-numbered (stmt_tree s))) in
    ap (λ (b : List ℕ). b ++ summed_origins ps rest m) a
    ∙ append_assoc before (summed_origins ps t n) (summed_origins ps rest m)
    ∙ ap (λ (j : ℕ). before ++ (summed_origins ps t n ++ summed_origins ps rest j)) at
    ∙ ap (λ (zs : List ℕ). before ++ zs) (sym (origins-append ps t rest n))
    ∙ ap (λ (ts : StmtTrees). before ++ summed_origins ps (all_numbered ts) n) (sym (stmt_trees-drop ss i s within is))
    ∙ h

-- where numbers go on behind a statement
pub number_next : (ss : List Stmt) (i : ℕ) (s : Stmt) → i < length ss → s ≡ get_or ss i s → (n m total : ℕ) → m ≡ n + statement_count (stmt_tree s)
    → n + statements_count (stmt_trees (drop i ss)) ≡ total → m + statements_count (stmt_trees (drop (i + 1) ss)) ≡ total
number_next ss i s within is n m total k h =
    let c : statements_count (stmt_trees (drop i ss)) ≡ statement_count (stmt_tree s) + statements_count (stmt_trees (drop (i + 1) ss)) = ap statements_count (stmt_trees-drop ss i s within is) in
    omega (arith, h, k, c)

-- a statement that is no sum comes from itself, and so do those in it
pub origins_first : (ps : List Partials) (s : StmtTree) (ss : List StmtTree) (n : ℕ) → is_sum ps s ≡ false → (old : List ℕ) → old ++ n ∷ [] ++ summed_origins ps ss (n + 1) ≡ old ++ summed_origins ps (s ∷ ss) n
origins_first ps s ss n none old =
    append_assoc old (n ∷ []) (summed_origins ps ss (n + 1))
    ∙ ap (λ (b : Bool). old ++ (repeated b n ++ summed_origins ps ss (n + 1))) (sym none)

pub origins_if : (ps : List Partials) (c : CondTree) (a b : StmtTrees) (n : ℕ) (old one two : List ℕ) → one ≡ old ++ n ∷ [] → two ≡ one ++ summed_origins ps (all_numbered a) (n + 1)
    → two ++ summed_origins ps (all_numbered b) (n + 1 + statements_count a) ≡ old ++ summed_origins ps (numbered (If c a b)) n
origins_if ps c a b n old one two e f =
    let front = summed_origins ps (all_numbered a) (n + 1) in
    let at : n + 1 + statements_count a ≡ n + 1 + length (all_numbered a) = ap (λ (k : ℕ). n + 1 + k) (sym (length-all_numbered a)) in
    ap (λ (xs : List ℕ). xs ++ summed_origins ps (all_numbered b) (n + 1 + statements_count a)) (f ∙ ap (λ (xs : List ℕ). xs ++ front) e)
    ∙ append_assoc (old ++ n ∷ []) front (summed_origins ps (all_numbered b) (n + 1 + statements_count a))
    ∙ ap (λ (k : ℕ). old ++ n ∷ [] ++ (front ++ summed_origins ps (all_numbered b) k)) at
    ∙ ap (λ (zs : List ℕ). old ++ n ∷ [] ++ zs) (sym (origins-append ps (all_numbered a) (all_numbered b) (n + 1)))
    ∙ origins_first ps (If c a b) (all_numbered a ++ all_numbered b) n (no_sum (If c a b) (λ x. refl) ps) old

pub origins_do : (ps : List Partials) (h : Head) (body : StmtTrees) (n : ℕ) (old one : List ℕ) → one ≡ old ++ n ∷ []
    → one ++ summed_origins ps (all_numbered body) (n + 1) ≡ old ++ summed_origins ps (numbered (Do h body)) n
origins_do ps h body n old one e =
    ap (λ (xs : List ℕ). xs ++ summed_origins ps (all_numbered body) (n + 1)) e
    ∙ origins_first ps (Do h body) (all_numbered body) n (no_sum (Do h body) (λ x. refl) ps) old

-- how many sums stand in a block IF, and in a DO
pub sums_if : (ps : List Partials) (c : CondTree) (a b : StmtTrees) → sums_in ps (all_numbered a) + sums_in ps (all_numbered b) ≡ sums_in ps (numbered (If c a b))
sums_if ps c a b = sym (first_sums ps (If c a b) (all_numbered a ++ all_numbered b) (no_sum (If c a b) (λ x. refl) ps) ∙ sums_append ps (all_numbered a) (all_numbered b))

pub sums_do : (ps : List Partials) (h : Head) (body : StmtTrees) → sums_in ps (all_numbered body) ≡ sums_in ps (numbered (Do h body))
sums_do ps h body = sym (first_sums ps (Do h body) (all_numbered body) (no_sum (Do h body) (λ x. refl) ps))
