-- Statements one behind the other.
use Rattle.std.proofs.Common.{◌≡◌, ℕ, ◌+◌, ◌<◌, List, [], ◌∷◌, ◌++◌, length, drop, get_or, refl, sym, ap, ◌∙◌, arith, rules, eqb-true, ◌==◌, if◌then◌else◌}
use Rattle.ped_tree.specs.Tree.{StmtTree, StmtTrees, no_stmts, more_stmts}
use Rattle.ped_tree.specs.Views.{stmt_tree, stmt_trees}
use Rattle.ped_tree.specs.Numbering.{statement_count, statements_count}
use Rattle.ped_tree.specs.declared.statements.Stmt.{Stmt}
use Rattle.ped_tree.proofs.Numbers.{stmt_trees-drop}
use Rattle.ped_tree.specs.Nests.{Loop}
use Rattle.ped_weaves.specs.ped_flow.specs.PlainBounds.{loops_round, all_loops_round}
use Rattle.std.proofs.lemmas.List.{append_assoc}
use Rattle.ped_steps.specs.Replacing.{followed, alone}
use Rattle.ped_steps.specs.Placing.{placed, all_placed}
use Rattle.ped_steps.specs.declared.replacing.Place.{Place}
use Rattle.ped_tree.specs.Tree as plain
use Rattle.ped_tree.specs.declared.statements.Do.{Do as DoLoop}
use Rattle.ped_tree.specs.declared.statements.Stmt as variant
use Rattle.ped_tree.specs.Views.{head_of}

pub followed-assoc : (a b c : StmtTrees) → followed (followed a b) c ≡ followed a (followed b c)
followed-assoc no_stmts b c = refl
followed-assoc (more_stmts s a) b c = ap (more_stmts s) (followed-assoc a b c)

pub followed-none : (a : StmtTrees) → followed a no_stmts ≡ a
followed-none no_stmts = refl
followed-none (more_stmts s a) = ap (more_stmts s) (followed-none a)

pub stmt_trees-append : (xs ys : List Stmt) → stmt_trees (xs ++ ys) ≡ followed (stmt_trees xs) (stmt_trees ys)
stmt_trees-append [] ys = refl
stmt_trees-append (x ∷ xs) ys = ap (more_stmts (stmt_tree x)) (stmt_trees-append xs ys)

pub ruleset following = (followed-assoc, followed-none, stmt_trees-append, stmt_trees-drop)

module _ (body : List Stmt) (i : ℕ) (s : Stmt) (within : i < length body) (is : s ≡ get_or body i s) (n m : ℕ) (k : m ≡ n + statement_count (stmt_tree s)) where
  tree : stmt_trees (drop i body) ≡ more_stmts (stmt_tree s) (stmt_trees (drop (i + 1) body))
  tree = stmt_trees-drop body i s within is

  -- where numbers go on behind a statement
  pub count_next : (total : ℕ) → n + statements_count (stmt_trees (drop i body)) ≡ total → m + statements_count (stmt_trees (drop (i + 1) body)) ≡ total
  count_next total h = let c : statements_count (stmt_trees (drop i body)) ≡ statement_count (stmt_tree s) + statements_count (stmt_trees (drop (i + 1) body)) = ap statements_count tree in omega (arith, h, k, c)

  -- what is placed behind a statement
  pub placed_next : (p : Place) (before after whole : StmtTrees) → followed before (all_placed p (stmt_trees (drop i body)) n) ≡ whole → after ≡ followed before (placed p (stmt_tree s) n)
      → followed after (all_placed p (stmt_trees (drop (i + 1) body)) m) ≡ whole
  placed_next p before after whole h a =
      ap (λ (b : StmtTrees). followed b (all_placed p (stmt_trees (drop (i + 1) body)) m)) a
      ∙ followed-assoc before (placed p (stmt_tree s) n) (all_placed p (stmt_trees (drop (i + 1) body)) m)
      ∙ ap (λ (j : ℕ). followed before (followed (placed p (stmt_tree s) n) (all_placed p (stmt_trees (drop (i + 1) body)) j))) k
      ∙ ap (λ (ss : StmtTrees). followed before (all_placed p ss n)) (sym tree)
      ∙ h

  -- the loops behind a statement
  pub round_next : (number : ℕ) (before after whole : List Loop) → before ++ all_loops_round number (stmt_trees (drop i body)) n ≡ whole → after ≡ before ++ loops_round number (stmt_tree s) n
      → after ++ all_loops_round number (stmt_trees (drop (i + 1) body)) m ≡ whole
  round_next number before after whole h a =
      ap (λ (b : List Loop). b ++ all_loops_round number (stmt_trees (drop (i + 1) body)) m) a
      ∙ append_assoc before (loops_round number (stmt_tree s) n) (all_loops_round number (stmt_trees (drop (i + 1) body)) m)
      ∙ ap (λ (j : ℕ). before ++ (loops_round number (stmt_tree s) n ++ all_loops_round number (stmt_trees (drop (i + 1) body)) j)) k
      ∙ ap (λ (ss : StmtTrees). before ++ all_loops_round number ss n) (sym tree)
      ∙ h

stmt_tree-Do : (d : DoLoop) → stmt_tree (variant.Do d) ≡ plain.Do (head_of d) (stmt_trees d.body.items)
stmt_tree-Do d = search (rules, variant.the_lemmas)

-- what isn't in the place
elsewhere : (n m : ℕ) (x y : StmtTrees) → (n ≡ m → ⊥) → (if n == m then x else y) ≡ y
elsewhere n m x y h = grind (arith, eqb-true)

-- a DO that isn't in the place, with what is placed in its body
pub placed_loop : (p : Place) (s new : Stmt) (d : DoLoop) (n : ℕ) (b inner : List Stmt) → s ≡ variant.Do d → (n ≡ p.number → ⊥) → inner ≡ d.body.items
    → stmt_trees b ≡ all_placed p (stmt_trees inner) (n + 1) → stmt_tree new ≡ plain.Do (head_of d) (stmt_trees b) → alone (stmt_tree new) ≡ placed p (stmt_tree s) n
placed_loop p s new d n b inner is other same filled made =
    ap alone made
    ∙ ap (λ (body : StmtTrees). alone (plain.Do (head_of d) body)) (filled ∙ ap (λ (ss : List Stmt). all_placed p (stmt_trees ss) (n + 1)) same)
    ∙ sym (elsewhere n p.number (stmt_trees p.new.now) (alone (plain.Do (head_of d) (all_placed p (stmt_trees d.body.items) (n + 1)))) other)
    ∙ ap (λ (t : StmtTree). placed p t n) (sym (ap stmt_tree is ∙ stmt_tree-Do d))
