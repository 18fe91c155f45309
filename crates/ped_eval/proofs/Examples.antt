-- Runs of small programs, worked out by their definition.
use Rattle.std.proofs.Common.{◌≡◌, ℕ, ℤ, pos, negsuc, List, [], ◌∷◌, ◌++◌, Bool, true, false, Some, None, refl}
use Rattle.std.specs.Prelude.{codes, map}
use Rattle.std.specs.List.{list_any}
use Rattle.std.specs.Fmt.{signed_decimal}
use Rattle.ped_tree.specs.declared.expressions.Intrinsic.TheVariants.{Mod}
use Rattle.ped_tree.specs.Tree.{ExprTree, Int, Var, Element, Neg, Add, Sub, Div, Pow, Call, no_exprs, more_exprs, Value, Text, Head, StmtTrees, Assign, Do, Print, Read, no_stmts, more_stmts, Integer, Save, ProgramTree}
use Rattle.ped_store.specs.Cells.{Scalar, Private, Cell}
use Rattle.ped_store.specs.Races.{Access, accesses, race}
use Rattle.ped_eval.specs.Outcomes.{Ended, Fault, outcome, run_of}

abbrev i : ExprTree
i = Var (codes "I")

abbrev j : ExprTree
j = Var (codes "J")

abbrev k : ExprTree
k = Var (codes "K")

abbrev a : ExprTree → ExprTree
a e = Element (codes "A") (more_exprs e no_exprs)

-- the statement K=.. and others behind it
abbrev sets_k : ExprTree → StmtTrees → StmtTrees
sets_k e rest = more_stmts (Assign k e) rest

-- a DO with the variable I from 1
abbrev head : Bool → ExprTree → List (List ℕ) → Head
head parallel last private = record { variable = codes "I"; first = Int 1; last = last; step = Int 1; parallel = parallel; private = private; rejected = [] }

-- READ *, I, J; PRINT *, I/J, MOD(I,J), I**J, 2**(-J); PRINT *, 'IT''S', -I**2
abbrev arithmetic : ProgramTree
arithmetic = record {
  decls = [];
  body = more_stmts (Read (i ∷ j ∷ []))
      (more_stmts (Print (Value (Div i j) ∷ Value (Call Mod (more_exprs i (more_exprs j no_exprs))) ∷ Value (Pow i j) ∷ Value (Pow (Int 2) (Neg j)) ∷ []))
      (more_stmts (Print (Text (codes "IT'S") ∷ Value (Neg (Pow i (Int 2))) ∷ [])) no_stmts));
}

-- a line of four numbers
abbrev numbers : ℤ → ℤ → ℤ → ℤ → List ℕ
numbers p q r s = signed_decimal p ++ 32 ∷ (signed_decimal q ++ 32 ∷ (signed_decimal r ++ 32 ∷ signed_decimal s))

-- a line of the constant and a number
abbrev quoted : ℤ → List ℕ
quoted p = codes "IT'S" ++ 32 ∷ signed_decimal p

arithmetic_ends : outcome arithmetic (codes "-7, 2") ≡ Ended (numbers (negsuc 2) (negsuc 0) (pos 49) (pos 0) ∷ quoted (negsuc 48) ∷ []) []
arithmetic_ends = refl

arithmetic_without_data : outcome arithmetic [] ≡ Fault 5 1
arithmetic_without_data = refl

division_by_zero : outcome arithmetic (codes "1 0") ≡ Fault 3 2
division_by_zero = refl

comma_at_the_end : outcome arithmetic (49 ∷ 44 ∷ 10 ∷ 50 ∷ 10 ∷ []) ≡ Ended (numbers (pos 0) (pos 1) (pos 1) (pos 0) ∷ quoted (negsuc 0) ∷ []) []
comma_at_the_end = refl

two_commas : outcome arithmetic (codes "1,,2") ≡ Fault 5 1
two_commas = refl

-- INTEGER A(10); SAVE A; DO 10 I = 2, 10; A(I) = A(I-1)+1
abbrev undefined_element : ProgramTree
undefined_element = record {
  decls = Integer (record { name = codes "A"; bounds = record { lower = Int 1; upper = Int 10 } ∷ [] } ∷ []) ∷ Save (codes "A" ∷ []) ∷ [];
  body = more_stmts (Do record (head false (Int 10) []) { first = Int 2 } (more_stmts (Assign (a i) (Add (a (Sub i (Int 1))) (Int 1))) no_stmts)) no_stmts;
}

undefined_element_faults : outcome undefined_element [] ≡ Fault 1 2
undefined_element_faults = refl

-- SAVE I, K; K = 0; DO 10 I = 1, 3; K = K+I
abbrev sum : ProgramTree
sum = record {
  decls = Save (codes "K" ∷ codes "I" ∷ []) ∷ [];
  body = sets_k (Int 0) (more_stmts (Do (head false (Int 3) []) (sets_k (Add k i) no_stmts)) no_stmts);
}

sum_ends : outcome sum [] ≡ Ended [] (record { name = codes "I"; values = Some (pos 4) ∷ [] } ∷ record { name = codes "K"; values = Some (pos 6) ∷ [] } ∷ [])
sum_ends = refl

-- SAVE K; K = 5; DO 10 I = 1, last; PRIVATE K; K = I
abbrev private_scalar : ExprTree → ProgramTree
private_scalar last = record {
  decls = Save (codes "K" ∷ []) ∷ [];
  body = sets_k (Int 5) (more_stmts (Do (head false last (codes "K" ∷ [])) (sets_k i no_stmts)) no_stmts);
}

private_scalar_ends : outcome (private_scalar (Int 2)) [] ≡ Ended [] (record { name = codes "K"; values = None ∷ [] } ∷ [])
private_scalar_ends = refl

private_scalar_without_iterations : outcome (private_scalar (Int 0)) [] ≡ Ended [] (record { name = codes "K"; values = None ∷ [] } ∷ [])
private_scalar_without_iterations = refl

-- each iteration writes its own copy, and the exit I by no reference and K by reference 1 of the DO
private_scalar_cells : map {B = Cell × ℕ} (λ (x : Access). (x.cell, x.reference)) (accesses (run_of (private_scalar (Int 2)) []).acts)
    ≡ (Scalar (codes "K"), 1)
    ∷ (Scalar (codes "I"), 0)
    ∷ (Private (codes "K") (record { statement = 2; number = 1 } ∷ []), 1)
    ∷ (Scalar (codes "I"), 0)
    ∷ (Private (codes "K") (record { statement = 2; number = 2 } ∷ []), 1)
    ∷ (Scalar (codes "I"), 0)
    ∷ (Scalar (codes "K"), 1)
    ∷ []
private_scalar_cells = refl

-- PARALLEL DO 10 I = 1, 2; K = I; PRINT *, K behind it
abbrev shared_scalar : ProgramTree
shared_scalar = record {
  decls = [];
  body = more_stmts (Do (head true (Int 2) []) (sets_k i no_stmts)) (more_stmts (Print (Value k ∷ [])) no_stmts);
}

shared_scalar_ends : outcome shared_scalar [] ≡ Ended (signed_decimal (pos 2) ∷ []) []
shared_scalar_ends = refl

-- both iterations write the one K
shared_scalar_races : list_any (λ (x : Access). list_any (λ (y : Access). race x y) (accesses (run_of shared_scalar []).acts)) (accesses (run_of shared_scalar []).acts) ≡ true
shared_scalar_races = refl
