-- Definitions of this crate worked out on small programs.
use Rattle.std.proofs.Common.{◌≡◌, ℕ, List, [], length, true, false, Bool, refl, inl, inr}
use Rattle.std.specs.Prelude.{codes}
use Rattle.ped_laws.specs.ped_flow.specs.ped_tree.specs.Tree.{ExprTree, Int, Var, Element, no_exprs, more_exprs, StmtTree, StmtTrees, Assign, Do, no_stmts, more_stmts, ProgramTree}
use Rattle.ped_laws.specs.ped_flow.specs.Questions.{LoopOf}
use Rattle.ped_laws.specs.ped_eval.specs.Outcomes.{run_of}
use Rattle.ped_rows.specs.Occurring.{IsUncopiedAt, IsLeft}
use Rattle.ped_rows.specs.Bounded.{all_steps_at_most}

abbrev i : ExprTree
i = Var (codes "I")

abbrev m : ExprTree
m = Var (codes "M")

abbrev a : ExprTree → ExprTree
a e = Element (codes "A") (more_exprs e no_exprs)

abbrev one : StmtTree → StmtTrees
one x = more_stmts x no_stmts

-- a DO with this variable from 1
abbrev loop : Bool → List ℕ → ℕ → StmtTrees → StmtTree
loop parallel x last body = Do (record { variable = x; first = Int 1; last = Int last; step = Int 1; parallel = parallel; private = []; rejected = [] }) body

-- DO I = 1, 3; M = I
abbrev counted : ProgramTree
counted = record { decls = []; body = one (loop false (codes "I") 3 (one (Assign m i))) }

-- a run does seven steps: the entry, and in each iteration the assignment and the end
steps_done : length (run_of counted []).acts ≡ 7
steps_done = refl

-- a reader reckons eight: a PARALLEL DO would have its close
steps_reckoned : all_steps_at_most [] counted.body ≡ 8
steps_reckoned = refl

-- the end of the last iteration leaves the loop
left : IsLeft counted [] 1
left = (_, inr (inr (inr (inr (inr (inr (inl refl)))))), refl, inl refl)

-- PARALLEL DO I = 1, 2; DO M = 1, 2; A(I) = I
abbrev inner : StmtTrees
inner = more_stmts (loop false (codes "M") 2 (one (Assign (a i) i))) (one (Assign (a i) m))

-- DO K = 1, 3; PARALLEL DO I = 1, 2; DO M = 1, 2; A(I) = I; after the inner loop A(I) = M; after the PARALLEL DO M = 5 and A(9) = M
abbrev copied : ProgramTree
copied = record { decls = []; body = one (loop false (codes "K") 3 (more_stmts (loop true (codes "I") 2 inner) (more_stmts (Assign m (Int 5)) (one (Assign (a (Int 9)) m))))) }

abbrev parallel : LoopOf copied 2
parallel = record { head = _; body = inner; is = refl }

-- the M that statement 5 reads is a copy, and that which statement 6 writes is none: so no run has the dependence of these two, which the pane marks proven
not_uncopied : IsUncopiedAt copied (codes "M") 5 6 → ⊥
not_uncopied h = h 2 parallel refl refl (record { loop = parallel; among = refl })
