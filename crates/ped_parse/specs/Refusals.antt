-- What the refusals of the code stand for (this project).
use Rattle.std.specs.Prelude.{◌≡◌, ℕ, List, IsTrue}
use Rattle.ped_tree.specs.Tree.{ExprTree}
use Rattle.ped_tree.specs.Grammar.ExpressionForms.{ReadsExpr}
use Rattle.ped_tree.specs.Grammar.Literals.{has_large_literal}
use Rattle.ped_tree.specs.Grammar.Reading.{Refuses}
use Rattle.ped_tree.specs.Grammar.Refusal.{Finding, Syntax, Limit}
use Rattle.ped_tree.specs.Grammar.RefusalViews.{finding_of}
use Rattle.ped_parse.specs.declared.refusals.ReadRefusal.{ReadRefusal}
use Rattle.ped_parse.specs.declared.refusals.ReadRefusal.TheVariants.{At, NoMemory}

-- the text's first refusal, or out of memory
abbrev pub IsRefusalOf : List ℕ → ReadRefusal → Type 0
IsRefusalOf text NoMemory = Unit {0}
IsRefusalOf text (At r) = Refuses text (finding_of r)

-- why a text isn't an expression that the profile takes: it is none, or one with a literal above 2147483647 (ANSI X3.9-1978, section 6.1; this project)
pub data RefusesExpression (text : List ℕ) (f : Finding) : Type 0 where
  no_expression : f ≡ record { refusal = Syntax; line = 0 } → ((e : ExprTree) → ReadsExpr text e → ⊥) → RefusesExpression text f
  large_literal : f ≡ record { refusal = Limit; line = 0 } → (e : ExprTree) → ReadsExpr text e → IsTrue (has_large_literal e) → RefusesExpression text f

-- why it isn't, or out of memory
abbrev pub IsRefusalOfExpression : List ℕ → ReadRefusal → Type 0
IsRefusalOfExpression text NoMemory = Unit {0}
IsRefusalOfExpression text (At r) = RefusesExpression text (finding_of r)
