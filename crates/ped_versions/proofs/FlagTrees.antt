-- A program in which one DO has another flag is the same but for flags.
use Rattle.std.proofs.Common.{◌≡◌, ℕ, ◌+◌, Bool, true, false, ◌==◌, refl, ap, if◌then◌else◌}
use Rattle.ped_tree.specs.Tree.{StmtTree, StmtTrees, Assign, If, Do, Print, Read, Stop, Comment, no_stmts, more_stmts, ProgramTree}
use Rattle.ped_tree.specs.Numbering.{statement_count, statements_count}
use Rattle.ped_versions.specs.Flags.{flag_one, flag_all, flagged}
use Rattle.ped_versions.proofs.SerialTrees.{serial, all_serial, serial_program, serial_head}

either_serial : (b : Bool) (x y z : StmtTree) → serial x ≡ serial z → serial y ≡ serial z → serial (if b then x else y) ≡ serial z
either_serial true x y z e f = e
either_serial false x y z e f = f

module _ (p : Bool) (sought : ℕ) where
  mutual
    serial_one : (s : StmtTree) (n : ℕ) → serial (flag_one p sought s n) ≡ serial s
    serial_one (Assign left right) n = refl
    serial_one (If c a b) n = either_serial (n == sought) (If c a b) (If c (flag_all p sought a (n + 1)) (flag_all p sought b (n + 1 + statements_count a))) (If c a b) refl (λ i. If c (serial_all a (n + 1) i) (serial_all b (n + 1 + statements_count a) i))
    serial_one (Do h body) n = either_serial (n == sought) (Do (record h { parallel = p }) body) (Do h (flag_all p sought body (n + 1))) (Do h body) refl (λ i. Do (serial_head h) (serial_all body (n + 1) i))
    serial_one (Print items) n = refl
    serial_one (Read items) n = refl
    serial_one Stop n = refl
    serial_one (Comment text) n = refl

    serial_all : (ss : StmtTrees) (n : ℕ) → all_serial (flag_all p sought ss n) ≡ all_serial ss
    serial_all no_stmts n = refl
    serial_all (more_stmts s rest) n = λ i. more_stmts (serial_one s n i) (serial_all rest (n + statement_count s) i)

pub serial_flagged : (t : ProgramTree) (s : ℕ) (p : Bool) → serial_program (flagged t s p) ≡ serial_program t
serial_flagged t s p = ap (λ (ss : StmtTrees). record { decls = t.decls; body = ss }) (serial_all p s t.body 1)
