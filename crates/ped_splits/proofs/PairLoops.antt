-- The next DO among statements, as the code goes through them.
use Rattle.std.proofs.Common.{◌≡◌, ℕ, ◌+◌, ◌<◌, List, [], ◌∷◌, ◌++◌, length, take, drop, get_or, Option, Some, None, refl, sym, ap, ◌∙◌, arith, eqb-true, ◌==◌, Bool, true, false}
use Rattle.std.proofs.lemmas.List.{take_more}
use Rattle.ped_tree.specs.Tree.{Head, StmtTree, StmtTrees, Assign, If, Do, Print, Read, Stop, Comment, no_stmts, more_stmts}
use Rattle.ped_tree.specs.Numbering.{statement_count}
use Rattle.ped_tree.specs.Views.{stmt_tree, stmt_trees}
use Rattle.ped_tree.specs.declared.statements.Stmt.{Stmt}
use Rattle.ped_tree.proofs.Numbers.{stmt_trees-drop}
use Rattle.ped_rules.specs.ped_steps.specs.Replacing.{followed, alone}
use Rattle.ped_rules.specs.ped_steps.proofs.Followed.{followed-assoc, followed-none, stmt_trees-append}
use Rattle.ped_splits.specs.CodePairs.{NextLoop, behind_all, next_in, two_with, two_to}

behind_twice : (a b : StmtTrees) (o : Option NextLoop) → behind_all a (behind_all b o) ≡ behind_all (followed a b) o
behind_twice a b None = refl
behind_twice a b (Some n) = ap (λ (z : StmtTrees). Some (record n { before = z })) (sym (followed-assoc a b n.before))

-- a comment among statements
comment_next : (a : StmtTrees) (t : StmtTree) (rest : StmtTrees) → statement_count t ≡ 0 → behind_all a (next_in (more_stmts t rest)) ≡ behind_all (followed a (alone t)) (next_in rest)
comment_next a (Assign left right) rest e = absurd (omega (arith, e))
comment_next a (If c b d) rest e = absurd (omega (arith, e))
comment_next a (Do h body) rest e = absurd (omega (arith, e))
comment_next a (Print items) rest e = absurd (omega (arith, e))
comment_next a (Read items) rest e = absurd (omega (arith, e))
comment_next a Stop rest e = absurd (omega (arith, e))
comment_next a (Comment text) rest e = behind_twice a (alone (Comment text)) (next_in rest)

-- any other statement
other_next : (k : ℕ) (h : Head) (body a : StmtTrees) (t : StmtTree) (rest : StmtTrees) → (statement_count t ≡ 0 → ⊥) → two_to k h body a t ≡ two_with k h body (behind_all a (next_in (more_stmts t rest)))
other_next k h body a (Assign left right) rest e = refl
other_next k h body a (If c b d) rest e = refl
other_next k h body a (Do g b) rest e = ap (λ (z : StmtTrees). Some (record { number = k; own = h; own_body = body; between = z; next = g; next_body = b })) (sym (followed-none a))
other_next k h body a (Print items) rest e = refl
other_next k h body a (Read items) rest e = refl
other_next k h body a Stop rest e = refl
other_next k h body a (Comment text) rest e = absurd (e refl)

counted_by : (n : ℕ) (b : Bool) → b ≡ (n == 0) → b ≡ true → n ≡ 0
counted_by n b is e = eqb-true n 0 (sym is ∙ e)

not_counted : (n : ℕ) (b : Bool) → b ≡ (n == 0) → b ≡ false → n ≡ 0 → ⊥
not_counted n b is e z = let f : false ≡ (0 == 0) = sym e ∙ is ∙ ap (λ (k : ℕ). k == 0) z in absurd cc

module _ (others : List Stmt) (i : ℕ) (s : Stmt) (within : i < length others) (is : s ≡ get_or others i s) (comment : Bool) (told : comment ≡ (statement_count (stmt_tree s) == 0)) (whole : Option NextLoop)
    (h : behind_all (stmt_trees (take i others)) (next_in (stmt_trees (drop i others))) ≡ whole) where
  abbrev t : StmtTree
  t = stmt_tree s

  abbrev rest : StmtTrees
  rest = stmt_trees (drop (i + 1) others)

  tree : stmt_trees (drop i others) ≡ more_stmts t rest
  tree = stmt_trees-drop others i s within is

  front : stmt_trees (take (i + 1) others) ≡ followed (stmt_trees (take i others)) (alone t)
  front = ap stmt_trees (take_more others i s within ∙ ap (λ (x : Stmt). take i others ++ x ∷ []) (sym is)) ∙ stmt_trees-append (take i others) (s ∷ [])

  -- behind a comment the search goes on
  pub goes_on : comment ≡ true → behind_all (stmt_trees (take (i + 1) others)) (next_in rest) ≡ whole
  goes_on e =
      ap (λ (ts : StmtTrees). behind_all ts (next_in rest)) front
      ∙ (sym (comment_next (stmt_trees (take i others)) t rest (counted_by (statement_count t) comment told e))
      ∙ (ap (λ (ts : StmtTrees). behind_all (stmt_trees (take i others)) (next_in ts)) (sym tree) ∙ h))

  -- any other statement ends it
  pub ends_here : comment ≡ false → (k : ℕ) (g : Head) (body : StmtTrees) → two_to k g body (stmt_trees (take i others)) t ≡ two_with k g body whole
  ends_here e k g body =
      other_next k g body (stmt_trees (take i others)) t rest (not_counted (statement_count t) comment told e)
      ∙ ap (two_with k g body) (ap (λ (ts : StmtTrees). behind_all (stmt_trees (take i others)) (next_in ts)) (sym tree) ∙ h)
