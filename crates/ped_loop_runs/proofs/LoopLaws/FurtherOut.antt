-- The laws of bounds one loop further out at work: the bound of the inner loop names the outer variable, and its other side is plain in front of the outer loop, though that has no iteration.
use Rattle.std.proofs.Common.{ℕ, List, [], ◌++◌, false, inl, inr, refl, ap, ◌∙◌, arith}
use Rattle.std.specs.Prelude.{codes}
use Rattle.ped_bodies.specs.ped_flow.specs.ped_tree.specs.Tree.{ExprTree, Int, Var, Add, Head, Assign, Do, StmtTrees, no_stmts, more_stmts, ProgramTree}
use Rattle.ped_bodies.specs.ped_flow.specs.Events.{has_value}
use Rattle.ped_bodies.specs.ped_flow.specs.PlainBounds.{IsFixed, IsPlain}
use Rattle.ped_bodies.specs.ped_flow.specs.Questions.{LoopOf, IsAssignedBefore}
use Rattle.ped_loop_runs.specs.OneOut.{IsNextIn}
use Rattle.ped_loop_runs.proofs.LoopLaws.OneOut.{plain_out, sum_sides}

abbrev n : List ℕ
n = codes "N"

abbrev i : List ℕ
i = codes "I"

abbrev head : List ℕ → ExprTree → Head
head x last = record { variable = x; first = Int 1; last = last; step = Int 1; parallel = false; private = []; rejected = [] }

-- I+N
abbrev bound : ExprTree
bound = Add (Var i) (Var n)

abbrev inner : StmtTrees
inner = more_stmts (Do (head (codes "J") bound) no_stmts) no_stmts

-- N=3; DO I=1,0; DO J=1,I+N
abbrev program : ProgramTree
program = record { decls = []; body = more_stmts (Assign (Var n) (Int 3)) (more_stmts (Do (head i (Int 0)) inner) no_stmts) }

abbrev outer : LoopOf program 2
outer = record { head = head i (Int 0); body = inner; is = refl }

next : IsNextIn program 2 outer 3
next = record { from = omega arith; to = omega arith; nest = refl }

-- N is assigned on the one path to the outer loop
before : IsAssignedBefore program 3 n
before path h = elim h [
  | inl none ↦ absurd none
  | inr r ↦ elim r.4 [ inl e ↦ ap (has_value n false) (r.2 ∙ (λ k. r.3 k ++ e.2 k)) | inr q ↦ absurd q.4 ]
]

fixed : IsFixed [] program 3 n
fixed = record { before = before; kept = refl; other = refl }

-- the bound is plain for the inner loop
plain : IsPlain [] program 3 bound
plain = record { built = inr (inr (inl refl), inr (inr fixed)); near = λ none. absurd cc }

-- so is its side N, and that is plain for the outer loop, too
side_outside : IsPlain [] program 2 (Var n)
side_outside = plain_out [] program 2 outer 3 next (Var n) (sum_sides [] program 3 (Var i) (Var n) refl plain).1 refl
