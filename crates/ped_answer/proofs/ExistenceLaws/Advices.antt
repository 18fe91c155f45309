-- There is advice on each statement of a program: of each step a first cause against it, or none.
use Rattle.std.proofs.Common.{ℕ, List, [], ◌∷◌, ◌++◌, refl}
use Rattle.ped_tree.specs.Tree.{ProgramTree}
use Rattle.ped_session.specs.ped_transformations.specs.Advice.{Advised, advised, advice_line, AreLinesOf, IsAdvice}
use Rattle.ped_answer.proofs.ExistenceLaws.FirstCauses.{each_cause}

module _ (t : ProgramTree) (s : ℕ) where
  lines_of : (steps : List Advised) → (bytes : List ℕ) × AreLinesOf t s steps bytes
  lines_of [] = ([], refl)
  lines_of (step ∷ steps) =
      let c = each_cause s step.1 t in
      let line = advice_line step.0 c.0 in
      let rest = lines_of steps in
      (line ++ rest.0, (line, (c.0, c.1, refl), rest.0, rest.1, refl))

  pub advice_of : (bytes : List ℕ) × IsAdvice t s bytes
  advice_of = lines_of advised
