-- Interleavings of small programs, worked out by their definition.
use Rattle.std.proofs.Common.{◌≡◌, ℕ, ℤ, pos, List, [], ◌∷◌, Bool, true, false, Option, Some, None, refl}
use Rattle.std.specs.Prelude.{codes, map, option_and_then}
use Rattle.std.specs.Fmt.{signed_decimal}
use Rattle.ped_tree.specs.declared.conditions.Relation.TheVariants.{Eq}
use Rattle.ped_tree.specs.Tree.{ExprTree, Int, Var, Element, Add, Mul, Div, no_exprs, more_exprs, Rel, Value, StmtTree, StmtTrees, Assign, If, Do, Print, Read, Stop, Comment, no_stmts, more_stmts, Integer, Save, ProgramTree}
use Rattle.ped_eval.specs.Outcomes.{LiveRow, Outcome, Ended, Fault, setting_of}
use Rattle.ped_interleavings.specs.Interleavings.{Standing, next_step, after_steps, ended_by, IsInterleavedFrom, at_start, IsInterleaved}

-- a run comes to what it comes to in so many steps
abbrev outcome_in : ℕ → ProgramTree → Standing → Option Outcome
outcome_in n t st = option_and_then (λ (last : Standing). ended_by t (next_step (setting_of t) last) last.store) (after_steps (setting_of t) n st)

comes_in : (n : ℕ) (t : ProgramTree) (st : Standing) (o : Outcome) → outcome_in n t st ≡ Some o → IsInterleavedFrom t st o
comes_in n t st o h = go (after_steps (setting_of t) n st) refl h
  where
    go : (x : Option Standing) → after_steps (setting_of t) n st ≡ x → option_and_then (λ (last : Standing). ended_by t (next_step (setting_of t) last) last.store) x ≡ Some o → IsInterleavedFrom t st o
    go None e f = absurd cc
    go (Some last) e f = (last, (n, e), f)

abbrev i : ExprTree
i = Var (codes "I")

abbrev j : ExprTree
j = Var (codes "J")

abbrev k : ExprTree
k = Var (codes "K")

abbrev m : ExprTree
m = Var (codes "M")

abbrev a : ExprTree → ExprTree
a e = Element (codes "A") (more_exprs e no_exprs)

abbrev one : StmtTree → StmtTrees
one t = more_stmts t no_stmts

abbrev prints : ExprTree → StmtTree
prints e = Print (Value e ∷ [])

-- a DO with this variable from 1
abbrev loop : Bool → List ℕ → ℕ → List (List ℕ) → StmtTrees → StmtTree
loop parallel x last private body = Do (record { variable = x; first = Int 1; last = Int last; step = Int 1; parallel = parallel; private = private; rejected = [] }) body

abbrev parallel_i : ℕ → StmtTrees → StmtTree
parallel_i last body = loop true (codes "I") last [] body

abbrev parallel_j : ℕ → StmtTrees → StmtTree
parallel_j last body = loop true (codes "J") last [] body

abbrev program : StmtTrees → ProgramTree
program body = record { decls = []; body = body }

-- a program ends with these lines
abbrev printed : List ℕ → Outcome
printed ns = Ended (map (λ n. signed_decimal (pos n)) ns) []

-- PARALLEL DO 20 I = 1, 2; PARALLEL DO 10 J = 1, 2; PRINT *, I*10+J: 3 picks the second iteration and, by 3 div 2, the second one of the inner loop
abbrev nested : ProgramTree
nested = program (one (parallel_i 2 (one (parallel_j 2 (one (prints (Add (Mul i (Int 10)) j)))))))

nested_from_behind : IsInterleaved nested [] (3 ∷ 3 ∷ 3 ∷ []) (printed (22 ∷ 21 ∷ 11 ∷ 12 ∷ []))
nested_from_behind = comes_in 10 nested (at_start nested [] (3 ∷ 3 ∷ 3 ∷ [])) _ refl

-- 2 picks the first iteration and, by 2 div 2, the second one of the inner loop
nested_inside : IsInterleaved nested [] (0 ∷ 2 ∷ []) (printed (12 ∷ 11 ∷ 21 ∷ 22 ∷ []))
nested_inside = comes_in 10 nested (at_start nested [] (0 ∷ 2 ∷ [])) _ refl

nested_in_order : IsInterleaved nested [] [] (printed (11 ∷ 12 ∷ 21 ∷ 22 ∷ []))
nested_in_order = comes_in 10 nested (at_start nested [] []) _ refl

-- PARALLEL DO 20 I = 1, 2; PARALLEL DO 10 J = 1, 1; PRINT *, I*10; 20 PRINT *, I: the inner loop is closed by a step of the outer iteration, which takes a choice
abbrev closing : ProgramTree
closing = program (one (parallel_i 2 (more_stmts (parallel_j 1 (one (prints (Mul i (Int 10))))) (one (prints i)))))

closing_takes_the_outer_choice : IsInterleaved closing [] (1 ∷ 1 ∷ 0 ∷ 1 ∷ []) (printed (20 ∷ 10 ∷ 1 ∷ 2 ∷ []))
closing_takes_the_outer_choice = comes_in 10 closing (at_start closing [] (1 ∷ 1 ∷ 0 ∷ 1 ∷ [])) _ refl

-- PARALLEL DO 20 I = 1, 2; DO 10 J = 1, 2; PRINT *, I*10+J: the entry of the DO and the end of each of its iterations are steps
abbrev serial_inside : ProgramTree
serial_inside = program (one (parallel_i 2 (one (loop false (codes "J") 2 [] (one (prints (Add (Mul i (Int 10)) j)))))))

turns_are_steps : IsInterleaved serial_inside [] (1 ∷ 0 ∷ 1 ∷ 0 ∷ 1 ∷ 0 ∷ 1 ∷ 0 ∷ []) (printed (21 ∷ 11 ∷ 22 ∷ 12 ∷ []))
turns_are_steps = comes_in 12 serial_inside (at_start serial_inside [] (1 ∷ 0 ∷ 1 ∷ 0 ∷ 1 ∷ 0 ∷ 1 ∷ 0 ∷ [])) _ refl

-- PARALLEL DO 20 I = 1, 3; PARALLEL DO 10 J = 1, last; a comment; 20 PRINT *, I
abbrev nothing_inside : ℕ → ProgramTree
nothing_inside last = program (one (parallel_i 3 (more_stmts (parallel_j last (one (Comment []))) (one (prints i)))))

-- with a count of 0 the entry leaves the loop
no_iterations : IsInterleaved (nothing_inside 0) [] (2 ∷ 1 ∷ 2 ∷ []) (printed (3 ∷ 1 ∷ 2 ∷ []))
no_iterations = comes_in 8 (nothing_inside 0) (at_start (nothing_inside 0) [] (2 ∷ 1 ∷ 2 ∷ [])) _ refl

-- iterations of comments alone are finished at once, and the loop's close is a step
no_statements : IsInterleaved (nothing_inside 2) [] (2 ∷ 1 ∷ 2 ∷ []) (printed (1 ∷ 2 ∷ 3 ∷ []))
no_statements = comes_in 11 (nothing_inside 2) (at_start (nothing_inside 2) [] (2 ∷ 1 ∷ 2 ∷ [])) _ refl

no_statements_later : IsInterleaved (nothing_inside 2) [] (2 ∷ 2 ∷ 2 ∷ 1 ∷ []) (printed (3 ∷ 1 ∷ 2 ∷ []))
no_statements_later = comes_in 11 (nothing_inside 2) (at_start (nothing_inside 2) [] (2 ∷ 2 ∷ 2 ∷ 1 ∷ [])) _ refl

-- PARALLEL DO 10 I = 1, 5; PRINT *, I: the choice goes round, past finished iterations
abbrev going_round : ProgramTree
going_round = program (one (parallel_i 5 (one (prints i))))

goes_round : IsInterleaved going_round [] (2 ∷ 2 ∷ 2 ∷ 2 ∷ 2 ∷ []) (printed (3 ∷ 4 ∷ 5 ∷ 1 ∷ 2 ∷ []))
goes_round = comes_in 7 going_round (at_start going_round [] (2 ∷ 2 ∷ 2 ∷ 2 ∷ 2 ∷ [])) _ refl

-- places count finished iterations, too
counts_all_places : IsInterleaved going_round [] (3 ∷ 8 ∷ 13 ∷ 18 ∷ 23 ∷ []) (printed (4 ∷ 5 ∷ 1 ∷ 2 ∷ 3 ∷ []))
counts_all_places = comes_in 7 going_round (at_start going_round [] (3 ∷ 8 ∷ 13 ∷ 18 ∷ 23 ∷ [])) _ refl

-- K = 1; PARALLEL DO 10 I = 1, 2; PRINT *, I; PARALLEL DO 20 I = 1, 3; PRINT *, I*10: outside iterations of a PARALLEL DO, and where one is closed, choices wait
abbrev waiting : ProgramTree
waiting = program (more_stmts (Assign k (Int 1)) (more_stmts (parallel_i 2 (one (prints i))) (one (parallel_i 3 (one (prints (Mul i (Int 10))))))))

choices_wait : IsInterleaved waiting [] (1 ∷ 0 ∷ 2 ∷ 1 ∷ []) (printed (2 ∷ 1 ∷ 30 ∷ 20 ∷ 10 ∷ []))
choices_wait = comes_in 10 waiting (at_start waiting [] (1 ∷ 0 ∷ 2 ∷ 1 ∷ [])) _ refl

-- PARALLEL DO 10 I = 1, 2; PRINT *, I; STOP; PRINT *, 9: nothing is done behind the STOP, and choices may be left
abbrev stopping : ProgramTree
stopping = program (more_stmts (parallel_i 2 (one (prints i))) (more_stmts Stop (one (prints (Int 9)))))

stop_ends : IsInterleaved stopping [] (1 ∷ 0 ∷ 5 ∷ 5 ∷ []) (printed (2 ∷ 1 ∷ []))
stop_ends = comes_in 5 stopping (at_start stopping [] (1 ∷ 0 ∷ 5 ∷ 5 ∷ [])) _ refl

-- PARALLEL DO 10 I = 1, 2; IF (I.EQ.2) THEN; K = 1/0; ELSE; K = 2147483647+1: the fault is that of the iteration that comes first
abbrev faulting : ProgramTree
faulting = program (one (parallel_i 2 (one (If (Rel Eq i (Int 2)) (one (Assign k (Div (Int 1) (Int 0)))) (one (Assign k (Add (Int 2147483647) (Int 1))))))))

second_faults : IsInterleaved faulting [] (1 ∷ 1 ∷ []) (Fault 3 3)
second_faults = comes_in 2 faulting (at_start faulting [] (1 ∷ 1 ∷ [])) _ refl

first_faults : IsInterleaved faulting [] [] (Fault 4 4)
first_faults = comes_in 2 faulting (at_start faulting [] []) _ refl

abbrev row_of_a : List (Option ℤ) → List LiveRow
row_of_a values = record { name = codes "A"; values = values } ∷ []

abbrev with_array : ℕ → StmtTrees → ProgramTree
with_array n body = record {
  decls = Integer (record { name = codes "A"; bounds = record { lower = Int 1; upper = Int n } ∷ [] } ∷ []) ∷ Save (codes "A" ∷ []) ∷ [];
  body = body;
}

-- INTEGER A(2); SAVE A; PARALLEL DO 10 I = 1, 2; READ *, A(I): the iteration that comes first takes the first line
abbrev reading : ProgramTree
reading = with_array 2 (one (parallel_i 2 (one (Read (a i ∷ [])))))

second_reads_first : IsInterleaved reading (53 ∷ 10 ∷ 54 ∷ 10 ∷ []) (1 ∷ []) (Ended [] (row_of_a (Some (pos 6) ∷ Some (pos 5) ∷ [])))
second_reads_first = comes_in 4 reading (at_start reading (53 ∷ 10 ∷ 54 ∷ 10 ∷ []) (1 ∷ [])) _ refl

read_without_data : IsInterleaved reading (53 ∷ 10 ∷ []) (1 ∷ []) (Fault 5 2)
read_without_data = comes_in 2 reading (at_start reading (53 ∷ 10 ∷ []) (1 ∷ [])) _ refl

-- INTEGER A(3); SAVE A; PARALLEL DO 10 I = 1, 3; PRIVATE M; M = I; A(I) = M*M: each iteration has an M of its own
abbrev squares : ProgramTree
squares = with_array 3 (one (loop true (codes "I") 3 (codes "M" ∷ []) (more_stmts (Assign m i) (one (Assign (a i) (Mul m m))))))

copies_are_apart : IsInterleaved squares [] (2 ∷ 1 ∷ 0 ∷ 0 ∷ 1 ∷ 2 ∷ []) (Ended [] (row_of_a (Some (pos 1) ∷ Some (pos 4) ∷ Some (pos 9) ∷ [])))
copies_are_apart = comes_in 8 squares (at_start squares [] (2 ∷ 1 ∷ 0 ∷ 0 ∷ 1 ∷ 2 ∷ [])) _ refl
