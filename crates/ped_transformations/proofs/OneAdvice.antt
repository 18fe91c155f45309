-- There is one advice at most on a statement of a program.
use Rattle.std.proofs.Common.{◌≡◌, ◌∙◌, ℕ, List, [], ◌∷◌, ◌++◌, sym, ap, ap₂, Option}
use Rattle.ped_tree.specs.Tree.{ProgramTree}
use Rattle.ped_auto.specs.ped_rules.specs.ped_steps.specs.Causes.{Cause}
use Rattle.ped_transformations.specs.Advice.{Advised, advised, advice_line, IsLineOf, AreLinesOf, IsAdvice}
use Rattle.ped_transformations.proofs.LawfulTable.{determined_step}

module _ (t : ProgramTree) (s : ℕ) where
  one_line : (step : Advised) (x y : List ℕ) → IsLineOf t s step x → IsLineOf t s step y → x ≡ y
  one_line step x y a b =
      a.2 ∙ ap (λ (c : Option Cause). advice_line step.0 c) ((determined_step s step.1).one_cause t a.0 b.0 a.1 b.1) ∙ sym b.2

  one_lines : (steps : List Advised) (x y : List ℕ) → AreLinesOf t s steps x → AreLinesOf t s steps y → x ≡ y
  one_lines [] x y a b = a ∙ sym b
  one_lines (step ∷ steps) x y a b = a.4 ∙ ap₂ ◌++◌ (one_line step a.0 b.0 a.1 b.1) (one_lines steps a.2 b.2 a.3 b.3) ∙ sym b.4

  pub one_advice : (x y : List ℕ) → IsAdvice t s x → IsAdvice t s y → x ≡ y
  one_advice x y a b = one_lines advised x y a b
