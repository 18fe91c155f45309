-- What the code of lowering puts together, statement behind statement.
use Rattle.std.proofs.Common.{◌≡◌, ℕ, ◌+◌, ◌<◌, List, [], ◌∷◌, ◌++◌, length, map, drop, get_or, Option, Some, sym, ap, ◌∙◌}
use Rattle.std.proofs.lemmas.List.{drop_more}
use Rattle.ped_tree.specs.Tree.{Int, StmtTree, StmtTrees, Assign, more_stmts}
use Rattle.ped_tree.specs.Views.{stmt_tree, stmt_trees}
use Rattle.ped_tree.specs.declared.statements.Stmt.{Stmt}
use Rattle.ped_tree.proofs.Numbers.{stmt_trees-drop}
use Rattle.ped_rules.specs.ped_steps.specs.Replacing.{followed, alone}
use Rattle.ped_rules.specs.ped_steps.proofs.Followed.{followed-assoc, stmt_trees-append}
use Rattle.ped_reduce.specs.declared.partials.Partials.{Partials as CodePartials}
use Rattle.ped_reduce.specs.Sums.{Sum, sum_to}
use Rattle.ped_reduce.specs.Lowering.{Partials, at, zeros, added_apart, apart_or, sum_apart, summed, all_summed, exit, exits}
use Rattle.ped_reduce.specs.CodeLowering.{partials_view}

-- a statement more in the list of the code
pub pushed : (xs ys : List Stmt) (s : Stmt) (x : StmtTree) → ys ≡ xs ++ s ∷ [] → stmt_tree s ≡ x → stmt_trees ys ≡ followed (stmt_trees xs) (alone x)
pushed xs ys s x e f = ap stmt_trees e ∙ stmt_trees-append xs (s ∷ []) ∙ ap (λ (y : StmtTree). followed (stmt_trees xs) (alone y)) f

-- three statements more
pub three_more : (before one two three : StmtTrees) (x y z : StmtTree) → one ≡ followed before (alone x) → two ≡ followed one (alone y) → three ≡ followed two (alone z)
    → three ≡ followed before (more_stmts x (more_stmts y (alone z)))
three_more before one two three x y z a b c =
    c
    ∙ ap (λ (w : StmtTrees). followed w (alone z)) b
    ∙ followed-assoc one (alone y) (alone z)
    ∙ ap (λ (w : StmtTrees). followed w (more_stmts y (alone z))) a
    ∙ followed-assoc before (alone x) (more_stmts y (alone z))

module _ (v : List ℕ) (ps : List CodePartials) (i : ℕ) (p : CodePartials) (within : i < length ps) (is : p ≡ get_or ps i p) where
  -- the arrays from one scalar on
  pub parts : map partials_view (drop i ps) ≡ partials_view p ∷ map partials_view (drop (i + 1) ps)
  parts = ap (map partials_view) (drop_more ps i p within ∙ ap (λ (q : CodePartials). q ∷ drop (i + 1) ps) (sym is))

  -- what an iteration has added goes to one scalar more
  pub exit_next : (before after whole : StmtTrees) → followed before (exits v (map partials_view (drop i ps))) ≡ whole → after ≡ followed before (alone (exit v (partials_view p)))
      → followed after (exits v (map partials_view (drop (i + 1) ps))) ≡ whole
  exit_next before after whole h a =
      let rest = exits v (map partials_view (drop (i + 1) ps)) in
      ap (λ (b : StmtTrees). followed b rest) a
      ∙ followed-assoc before (alone (exit v (partials_view p))) rest
      ∙ ap (λ (qs : List Partials). followed before (exits v qs)) (sym parts)
      ∙ h

  abbrev zero : List ℕ → StmtTree
  zero array = Assign (at array v) (Int 0)

  -- nothing is added yet to one scalar more
  pub zeros_next : (before one two three whole : StmtTrees) → followed before (zeros v (map partials_view (drop i ps))) ≡ whole
      → one ≡ followed before (alone (zero p.high)) → two ≡ followed one (alone (zero p.low)) → three ≡ followed two (alone (zero p.flag))
      → followed three (zeros v (map partials_view (drop (i + 1) ps))) ≡ whole
  zeros_next before one two three whole h a b c =
      let rest = zeros v (map partials_view (drop (i + 1) ps)) in
      ap (λ (w : StmtTrees). followed w rest) (three_more before one two three (zero p.high) (zero p.low) (zero p.flag) a b c)
      ∙ followed-assoc before (more_stmts (zero p.high) (more_stmts (zero p.low) (alone (zero p.flag)))) rest
      ∙ ap (λ (qs : List Partials). followed before (zeros v qs)) (sym parts)
      ∙ h

  -- the statement is a sum of this scalar
  pub apart_here : (s : StmtTree) (sum : Sum) (whole : StmtTrees) → sum_apart v (map partials_view (drop i ps)) s ≡ whole → Some sum ≡ sum_to p.scalar s → added_apart v (partials_view p) sum ≡ whole
  apart_here s sum whole h e =
      ap (λ (o : Option Sum). apart_or v (partials_view p) o (sum_apart v (map partials_view (drop (i + 1) ps)) s)) e
      ∙ ap (λ (qs : List Partials). sum_apart v qs s) (sym parts)
      ∙ h

-- one statement more in which all sums are kept apart
pub summed_next : (v : List ℕ) (ps : List Partials) (ss : List Stmt) (i : ℕ) (s : Stmt) → i < length ss → s ≡ get_or ss i s → (before after whole : StmtTrees)
    → followed before (all_summed v ps (stmt_trees (drop i ss))) ≡ whole → after ≡ followed before (summed v ps (stmt_tree s))
    → followed after (all_summed v ps (stmt_trees (drop (i + 1) ss))) ≡ whole
summed_next v ps ss i s within is before after whole h a =
    let rest = all_summed v ps (stmt_trees (drop (i + 1) ss)) in
    ap (λ (b : StmtTrees). followed b rest) a
    ∙ followed-assoc before (summed v ps (stmt_tree s)) rest
    ∙ ap (λ (ts : StmtTrees). followed before (all_summed v ps ts)) (sym (stmt_trees-drop ss i s within is))
    ∙ h
