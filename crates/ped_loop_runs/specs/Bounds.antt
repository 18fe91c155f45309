-- What is read where a plain bound is evaluated (ANSI X3.9-1978, section 11.10.3; this project).
use Rattle.std.specs.Prelude.{◌≡◌, ℕ, List, [], ◌∷◌}
use Rattle.ped_bodies.specs.ped_flow.specs.ped_tree.specs.Tree.{ProgramTree}
use Rattle.ped_bodies.specs.ped_flow.specs.PlainBounds.{Values, IsFixed}
use Rattle.ped_bodies.specs.ped_store.specs.Cells.{Cell, Scalar}
use Rattle.ped_bodies.specs.ped_eval.specs.Evaluation.{Seen, cell_seen, index_seen, Evaluated}

-- the own cell of a scalar that keeps its value in the outermost DO that is a DO or is around it (this project)
abbrev pub IsOfFixed : Values → ProgramTree → ℕ → Cell → Type 0
IsOfFixed constants t l c = (x : List ℕ) × (c ≡ Scalar x) × IsFixed constants t l x

-- two evaluations read the same: the same cells, of this kind all of them, with the same contents; and places give the same values of DO variables (this project)
abbrev pub ReadTheSame : (Cell → Type 0) → List Seen → List Seen → Type 0
ReadTheSame P [] [] = Unit {0}
ReadTheSame P [] (y ∷ ys) = ⊥
ReadTheSame P (cell_seen c content ∷ xs) [] = ⊥
ReadTheSame P (cell_seen c content ∷ xs) (cell_seen d other ∷ ys) = P c × (d ≡ c) × (other ≡ content) × ReadTheSame P xs ys
ReadTheSame P (cell_seen c content ∷ xs) (index_seen d n ∷ ys) = ⊥
ReadTheSame P (index_seen c m ∷ xs) [] = ⊥
ReadTheSame P (index_seen c m ∷ xs) (cell_seen d other ∷ ys) = ⊥
ReadTheSame P (index_seen c m ∷ xs) (index_seen d n ∷ ys) = (n ≡ m) × ReadTheSame P xs ys

-- two evaluations give the same value or fault, and read the same (this project)
pub record ComeToTheSame {X : Type 0} (P : Cell → Type 0) (a b : Evaluated X) : Type 0 where
  pub result : b.result ≡ a.result
  pub seen : ReadTheSame P a.seen b.seen
