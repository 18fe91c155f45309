-- The statement with a number stands at its place among the numbered statements.
use Rattle.std.proofs.Common.{◌≡◌, ℕ, zero, suc, ◌-◌, ◌≤◌, List, [], ◌∷◌, length, false, Some, None, slice_get, refl, ap, ◌∙◌, arith}
use Rattle.std.specs.Prelude.{◌==◌, if◌then◌else◌}
use Rattle.std.specs.Borrow.{Bor}
use Rattle.std.proofs.lemmas.Bool.Decides.{nat_tests}
use Rattle.ped_tree.specs.Tree.{StmtTree}
use Rattle.ped_tree.specs.Views.{stmt_tree}
use Rattle.ped_tree.specs.Numbering.{at_place}
use Rattle.ped_tree.specs.declared.statements.Stmt.{Stmt}
use Rattle.ped_graph.specs.KnownProgram.{trees_of, found_with}
use Rattle.ped_graph.proofs.Slices.{some_is}

next_place : (s : StmtTree) (ss : List StmtTree) (n : ℕ) → at_place (s ∷ ss) (suc n) ≡ at_place ss n
next_place s ss n =
    let e : suc n - 1 ≡ n = omega arith in
    let z : (suc n == 0) ≡ false = grind (arith, nat_tests) in
    λ i. if z i then Some s else at_place ss (e i)

there_placed : (statements : List (Bor Stmt)) (n : ℕ) (s : Bor Stmt) → slice_get statements n ≡ Some s → at_place (trees_of statements) n ≡ Some (stmt_tree s.now)
there_placed [] n s e = cc
there_placed (r ∷ rest) zero s e = ap (λ (o : Bor Stmt). Some (stmt_tree o.now)) (some_is r s e)
there_placed (r ∷ rest) (suc n) s e = next_place (stmt_tree r.now) (trees_of rest) n ∙ there_placed rest n s e

none_placed : (statements : List (Bor Stmt)) (n : ℕ) → length statements ≤ n → at_place (trees_of statements) n ≡ None
none_placed [] n h = refl
none_placed (r ∷ rest) zero h = absurd (omega (arith, h))
none_placed (r ∷ rest) (suc n) h = next_place (stmt_tree r.now) (trees_of rest) n ∙ none_placed rest n (omega (arith, h))

-- the statement with a number
pub found_there : (statements : List (Bor Stmt)) (number : ℕ) (s : Bor Stmt) → (number == 0) ≡ false → slice_get statements (number - 1) ≡ Some s → found_with number (trees_of statements) ≡ Some (stmt_tree s.now)
found_there statements number s some e = (λ i. if some i then None else at_place (trees_of statements) (number - 1)) ∙ there_placed statements (number - 1) s e

-- no statement has a number behind the last
pub none_found_there : (statements : List (Bor Stmt)) (number : ℕ) → (number == 0) ≡ false → length statements ≤ number - 1 → found_with number (trees_of statements) ≡ None
none_found_there statements number some h = (λ i. if some i then None else at_place (trees_of statements) (number - 1)) ∙ none_placed statements (number - 1) h
