-- Statements with the first of their CALLs.
use Rattle.std.proofs.Common.{◌≡◌, ◌≤◌, ◌+◌, ◌-◌, ◌==◌, if◌then◌else◌, ℕ, zero, suc, List, [], ◌∷◌, ◌++◌, map, length, drop, Bool, false, Option, Some, None, refl, sym, ap, ap₂, ◌∙◌, arith}
use Rattle.std.proofs.lemmas.Bool.Decides.{nat_tests}
use Rattle.std.proofs.lemmas.List.{length-append}
use Rattle.ped_tree.specs.Tree.{ExprTree, Head, StmtTree, StmtTrees, Assign, If, Do, Print, Read, Stop, Comment, no_stmts, more_stmts}
use Rattle.ped_tree.specs.Views.{stmt_tree}
use Rattle.ped_tree.specs.declared.statements.Stmt.{Stmt}
use Rattle.ped_tree.specs.Numbering.{statement_count, statements_count}
use Rattle.ped_links.specs.ped_symbols.specs.Sites.{private_site, stmt_sites, stmts_sites}
use Rattle.ped_links.specs.ped_units.specs.Forms.{Called}
use Rattle.ped_links.specs.ped_units.specs.Units.{call_of}
use Rattle.ped_links.specs.ped_units.specs.Linking.{placed, calls_in, all_calls_in}
use Rattle.ped_links.specs.ped_units.specs.Expanding.{behind_stmts}
use Rattle.ped_links.specs.ped_units.specs.Verdicts.{one_for, call_here, call_count, calls_count, while_calls, with_first_calls, first_calls}
use Rattle.ped_calls.proofs.CourseSteps.{behind_pushed}

-- how many CALLs stand in the parts of a statement
abbrev parts_count : StmtTree → ℕ
parts_count (Assign left right) = 0
parts_count (If c t e) = calls_count t + calls_count e
parts_count (Do h body) = calls_count body
parts_count (Print items) = 0
parts_count (Read items) = 0
parts_count Stop = 0
parts_count (Comment text) = 0

some_left : (n : ℕ) → (suc n == 0) ≡ false
some_left n = grind (arith, nat_tests)

-- a CALL before others, where some may come
taken : (n : ℕ) (c : Called) (s : StmtTree) (rest : StmtTrees) → while_calls (suc n) (Some c) s rest ≡ more_stmts s rest
taken n c s rest = ap (λ (b : Bool). if b then rest else more_stmts s rest) (some_left n)

-- an assignment or a CALL before others
kept_assignment : (o : Option Called) (m : ℕ) (left right : ExprTree) (rest : StmtTrees)
    → ((k : ℕ) → statements_count (first_calls k rest) + (calls_count rest - k) ≡ statements_count rest)
    → statements_count (while_calls m o (Assign left right) (first_calls (m - one_for o) rest)) + (one_for o + calls_count rest - m) ≡ 1 + statements_count rest
kept_assignment None m left right rest h = let k = h (m - 0) in omega (arith, k)
kept_assignment (Some c) zero left right rest h = let k = h (0 - 1) in omega (arith, k)
kept_assignment (Some c) (suc n) left right rest h =
    let k = h (suc n - 1) in
    let others = first_calls (suc n - 1) rest in
    let counted : statements_count (while_calls (suc n) (Some c) (Assign left right) others) ≡ 1 + statements_count others = ap statements_count (taken n c (Assign left right) others) in
    omega (arith, k, counted)

mutual
  then_kept : (m : ℕ) (s : StmtTree) → statement_count (with_first_calls m s) + (parts_count s - m) ≡ statement_count s
  then_kept m (Assign left right) = omega arith
  then_kept m (If c t e) =
      let a = all_kept m t in
      let b = all_kept (m - calls_count t) e in
      omega (arith, a, b)
  then_kept m (Do h body) = let a = all_kept m body in omega (arith, a)
  then_kept m (Print items) = omega arith
  then_kept m (Read items) = omega arith
  then_kept m Stop = omega arith
  then_kept m (Comment text) = omega arith

  -- each CALL that is left out was one statement
  pub all_kept : (m : ℕ) (ss : StmtTrees) → statements_count (first_calls m ss) + (calls_count ss - m) ≡ statements_count ss
  all_kept m no_stmts = omega arith
  all_kept m (more_stmts (Assign left right) rest) = kept_assignment (call_of left right) m left right rest (λ k. all_kept k rest)
  all_kept m (more_stmts (If c t e) rest) =
      let a = then_kept m (If c t e) in
      let b = all_kept (m - call_count (If c t e)) rest in
      omega (arith, a, b)
  all_kept m (more_stmts (Do h body) rest) =
      let a = then_kept m (Do h body) in
      let b = all_kept (m - call_count (Do h body)) rest in
      omega (arith, a, b)
  all_kept m (more_stmts (Print items) rest) = let b = all_kept (m - 0) rest in omega (arith, b)
  all_kept m (more_stmts (Read items) rest) = let b = all_kept (m - 0) rest in omega (arith, b)
  all_kept m (more_stmts Stop rest) = let b = all_kept (m - 0) rest in omega (arith, b)
  all_kept m (more_stmts (Comment text) rest) = let b = all_kept (m - 0) rest in omega (arith, b)

-- all CALLs stay of an assignment or a CALL before others
whole_assignment : (o : Option Called) (m : ℕ) (left right : ExprTree) (rest : StmtTrees)
    → ((k : ℕ) → calls_count rest ≤ k → first_calls k rest ≡ rest)
    → one_for o + calls_count rest ≤ m
    → while_calls m o (Assign left right) (first_calls (m - one_for o) rest) ≡ more_stmts (Assign left right) rest
whole_assignment None m left right rest h le = ap (more_stmts (Assign left right)) (h (m - 0) (omega (arith, le)))
whole_assignment (Some c) zero left right rest h le = absurd (omega (arith, le))
whole_assignment (Some c) (suc n) left right rest h le =
    taken n c (Assign left right) (first_calls (suc n - 1) rest) ∙ ap (more_stmts (Assign left right)) (h (suc n - 1) (omega (arith, le)))

mutual
  one_whole : (m : ℕ) (s : StmtTree) → parts_count s ≤ m → with_first_calls m s ≡ s
  one_whole m (Assign left right) le = refl
  one_whole m (If c t e) le = λ i. If c (all_whole m t (omega (arith, le)) i) (all_whole (m - calls_count t) e (omega (arith, le)) i)
  one_whole m (Do h body) le = ap (Do h) (all_whole m body le)
  one_whole m (Print items) le = refl
  one_whole m (Read items) le = refl
  one_whole m Stop le = refl
  one_whole m (Comment text) le = refl

  -- all CALLs stay
  pub all_whole : (m : ℕ) (ss : StmtTrees) → calls_count ss ≤ m → first_calls m ss ≡ ss
  all_whole m no_stmts le = refl
  all_whole m (more_stmts (Assign left right) rest) le = whole_assignment (call_of left right) m left right rest (λ k h. all_whole k rest h) le
  all_whole m (more_stmts (If c t e) rest) le =
      λ i. more_stmts (one_whole m (If c t e) (omega (arith, le)) i) (all_whole (m - call_count (If c t e)) rest (omega (arith, le)) i)
  all_whole m (more_stmts (Do h body) rest) le =
      λ i. more_stmts (one_whole m (Do h body) (omega (arith, le)) i) (all_whole (m - call_count (Do h body)) rest (omega (arith, le)) i)
  all_whole m (more_stmts (Print items) rest) le = ap (more_stmts (Print items)) (all_whole (m - 0) rest (omega (arith, le)))
  all_whole m (more_stmts (Read items) rest) le = ap (more_stmts (Read items)) (all_whole (m - 0) rest (omega (arith, le)))
  all_whole m (more_stmts Stop rest) le = ap (more_stmts Stop) (all_whole (m - 0) rest (omega (arith, le)))
  all_whole m (more_stmts (Comment text) rest) le = ap (more_stmts (Comment text)) (all_whole (m - 0) rest (omega (arith, le)))

placed_one : (loops : List Head) (lines : List ℕ) (o : Option Called) → length (placed loops lines o) ≡ one_for o
placed_one loops lines None = refl
placed_one loops lines (Some c) = refl

mutual
  placed_here : (loops : List Head) (lines : List ℕ) (s : StmtTree) → length (calls_in loops lines s) ≡ call_count s
  placed_here loops lines (Assign left right) = placed_one loops lines (call_of left right)
  placed_here loops lines (If c t e) =
      length-append (all_calls_in loops (drop 1 lines) t) (all_calls_in loops (drop (1 + length (stmts_sites t)) lines) e)
      ∙ ap₂ ◌+◌ (all_placed loops (drop 1 lines) t) (all_placed loops (drop (1 + length (stmts_sites t)) lines) e)
  placed_here loops lines (Do h body) = all_placed (loops ++ h ∷ []) (drop (1 + length (private_site h.private)) lines) body
  placed_here loops lines (Print items) = refl
  placed_here loops lines (Read items) = refl
  placed_here loops lines Stop = refl
  placed_here loops lines (Comment text) = refl

  -- there are as many places as CALLs
  pub all_placed : (loops : List Head) (lines : List ℕ) (ss : StmtTrees) → length (all_calls_in loops lines ss) ≡ calls_count ss
  all_placed loops lines no_stmts = refl
  all_placed loops lines (more_stmts s rest) =
      length-append (calls_in loops lines s) (all_calls_in loops (drop (length (stmt_sites s)) lines) rest)
      ∙ ap₂ ◌+◌ (placed_here loops lines s) (all_placed loops (drop (length (stmt_sites s)) lines) rest)

-- a copy that is added with its CALLs

pub kept_here : (done : List Stmt) (copy : Stmt) (m : ℕ) (s t : StmtTree) (rest : StmtTrees) → s ≡ t → stmt_tree copy ≡ with_first_calls m t → while_calls m (call_here t) (with_first_calls m t) rest ≡ more_stmts (with_first_calls m t) rest
    → behind_stmts (map stmt_tree (done ++ copy ∷ [])) rest ≡ behind_stmts (map stmt_tree done) (while_calls m (call_here s) (with_first_calls m s) rest)
kept_here done copy m s t rest same is whole =
    behind_pushed done copy (with_first_calls m t) rest is
    ∙ ap (behind_stmts (map stmt_tree done)) (sym whole)
    ∙ ap (λ (u : StmtTree). behind_stmts (map stmt_tree done) (while_calls m (call_here u) (with_first_calls m u) rest)) (sym same)

-- a copy of a statement that stays as it is
pub copied_here : (done : List StmtTree) (m : ℕ) (s t : StmtTree) (rest : StmtTrees) → s ≡ t → while_calls m (call_here t) (with_first_calls m t) rest ≡ more_stmts t rest
    → behind_stmts done (more_stmts s rest) ≡ behind_stmts done (while_calls m (call_here s) (with_first_calls m s) rest)
copied_here done m s t rest same whole =
    ap (λ (u : StmtTree). behind_stmts done (more_stmts u rest)) same
    ∙ ap (behind_stmts done) (sym whole)
    ∙ ap (λ (u : StmtTree). behind_stmts done (while_calls m (call_here u) (with_first_calls m u) rest)) (sym same)
