-- The variable of the second DO in the PARALLEL DO loops that lose it: which copies these are.
use Rattle.std.proofs.Common.{◌≡◌, ℕ, ◌+◌, List, [], ◌∷◌, Bool, true, false, ◌&&◌, ◌==◌, not, Option, None, Some, refl}
use Rattle.std.specs.Prelude.{nat_le, nat_lt}
use Rattle.std.specs.List.{list_any, range_with_len}
use Rattle.ped_base.specs.Lists.{is_same_text}
use Rattle.ped_tree.specs.Numbering.{statement_with, statements_count}
use Rattle.ped_tree.specs.Tree.{Assign, Comment, Do, If, Print, ProgramTree, Read, StmtTree, Stop}
use Rattle.ped_rules.specs.ped_laws.specs.FlowRuns.Covering.{is_cell_of}
use Rattle.ped_rules.specs.ped_store.specs.Cells.{Cell, Iteration}
use Rattle.ped_rules.specs.ped_store.specs.Cells as cells

-- the statement is a DO with this variable
abbrev pub is_loop_of : List ℕ → Option StmtTree → Bool
is_loop_of y (Some (Do h b)) = is_same_text y h.variable
is_loop_of y (Some (Assign left right)) = false
is_loop_of y (Some (If c a b)) = false
is_loop_of y (Some (Print items)) = false
is_loop_of y (Some (Read items)) = false
is_loop_of y (Some Stop) = false
is_loop_of y (Some (Comment text)) = false
is_loop_of y None = false

-- a PARALLEL DO round the statement with number m, in which no other DO has the variable
abbrev pub loses : ProgramTree → List ℕ → (m n : ℕ) → Option StmtTree → Bool
loses t y m n (Some (Do h b)) =
    h.parallel && (nat_lt n m && nat_le m (n + statements_count b)) && not (list_any (λ j. is_loop_of y (statement_with j t) && not (j == m)) (range_with_len (n + 1) (statements_count b)))
loses t y m n (Some (Assign left right)) = false
loses t y m n (Some (If c a b)) = false
loses t y m n (Some (Print items)) = false
loses t y m n (Some (Read items)) = false
loses t y m n (Some Stop) = false
loses t y m n (Some (Comment text)) = false
loses t y m n None = false

-- the number of the DO of the innermost of these iterations has the property
abbrev pub of_last : (ℕ → Bool) → List Iteration → Bool
of_last test [] = false
of_last test (i ∷ []) = test i.statement
of_last test (i ∷ (j ∷ more)) = of_last test (j ∷ more)

-- a copy of the variable that belongs to an iteration of such a PARALLEL DO
abbrev pub is_lost : ProgramTree → List ℕ → ℕ → Cell → Bool
is_lost t y m (cells.Private w path) = is_same_text y w && of_last (λ n. loses t y m n (statement_with n t)) path
is_lost t y m (cells.Scalar w) = false
is_lost t y m (cells.Element w js) = false
is_lost t y m cells.In = false
is_lost t y m cells.Out = false

pub lost_named : (t : ProgramTree) (y : List ℕ) (m : ℕ) (c : Cell) → is_lost t y m c ≡ true → is_cell_of y c ≡ true
lost_named t y m (cells.Private w path) h = first (is_same_text y w) (of_last (λ n. loses t y m n (statement_with n t)) path) h
  where
    first : (a b : Bool) → a && b ≡ true → a ≡ true
    first true b k = refl
    first false b k = absurd cc
lost_named t y m (cells.Scalar w) h = absurd cc
lost_named t y m (cells.Element w js) h = absurd cc
lost_named t y m cells.In h = absurd cc
lost_named t y m cells.Out h = absurd cc
