-- The statements of a program are those of which a graph holds how many stand in them.
use Rattle.std.proofs.Common.{◌≡◌, ℕ, zero, suc, ◌-◌, ◌==◌, List, [], ◌∷◌, map, length, nat_lt, is_some, refl, sym, ap, ◌∙◌, Bool, true, false, None, Some, if◌then◌else◌, arith}
use Rattle.std.proofs.lemmas.Bool.Decides.{nat_tests}
use Rattle.std.proofs.lemmas.List.{length-map}
use Rattle.ped_tree.specs.Tree.{StmtTree, ProgramTree}
use Rattle.ped_tree.specs.Numbering.{all_numbered, at_place, statement_with, statement_count, statements_count}
use Rattle.ped_tree.proofs.Numbers.{length-all_numbered}
use Rattle.ped_graph.specs.Held.{Held, held_of}
use Rattle.ped_graph.specs.HeldSelections.{has_number}

-- a graph holds as many numbers as there are statements
pub counted : (t : ProgramTree) (h : Held) → h ≡ held_of t → length h.frame.extents ≡ statements_count t.body
counted t h is = ap (λ (k : Held). length k.frame.extents) is ∙ length-map (all_numbered t.body) statement_count ∙ length-all_numbered t.body

-- a statement stands at each place within a list, and at no other
stands_at : (ss : List StmtTree) (n : ℕ) → nat_lt n (length (map statement_count ss)) ≡ is_some (at_place ss n)
stands_at [] n = grind (arith, nat_tests)
stands_at (s ∷ ss) zero = grind (arith, nat_tests)
stands_at (s ∷ ss) (suc n) =
    let e : suc n - 1 ≡ n = omega arith in
    let z : (suc n == 0) ≡ false = grind (arith, nat_tests) in
    let p : is_some (at_place (s ∷ ss) (suc n)) ≡ is_some (at_place ss n) = λ i. is_some (if z i then Some s else at_place ss (e i)) in
    let q : nat_lt (suc n) (suc (length (map statement_count ss))) ≡ nat_lt n (length (map statement_count ss)) = grind (arith, nat_tests) in
    q ∙ stands_at ss n ∙ sym p

stands_by_test : (t : ProgramTree) (number : ℕ) (is_none : Bool)
    → (if is_none then false else nat_lt (number - 1) (length (map statement_count (all_numbered t.body))))
    ≡ is_some (if is_none then None else at_place (all_numbered t.body) (number - 1))
stands_by_test t number true = refl
stands_by_test t number false = stands_at (all_numbered t.body) (number - 1)

-- a number is held exactly where a statement has it
pub stands : (t : ProgramTree) (h : Held) (number : ℕ) → h ≡ held_of t → has_number h.frame.extents number ≡ is_some (statement_with number t)
stands t h number is = ap (λ (k : Held). has_number k.frame.extents number) is ∙ stands_by_test t number (number == 0)
