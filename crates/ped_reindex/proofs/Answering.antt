-- The change that the code has found, or that there is none.
use Rattle.std.proofs.Common.{◌≡◌, ℕ, List, Option, Some, None, MatchOption, subst}
use Rattle.ped_tree.specs.Tree.{StmtTree, ProgramTree}
use Rattle.ped_rules.specs.ped_steps.specs.Changes.{IsChange}
use Rattle.ped_rules.specs.ped_steps.specs.declared.changes.Change.{Change}
use Rattle.ped_rules.specs.ped_symbols.specs.NameRefusals.{IsValid}

pub some_made : (new : ProgramTree) (keep : List (ℕ × ℕ)) (found : Option Change) (change : Change) → found ≡ Some change → MatchOption found (IsValid new → ⊥) (IsChange new keep) → IsChange new keep change
some_made new keep found change is h = subst (λ (o : Option Change). MatchOption o (IsValid new → ⊥) (IsChange new keep)) is h

pub none_made : (new : ProgramTree) (keep : List (ℕ × ℕ)) (found : Option Change) → found ≡ None → MatchOption found (IsValid new → ⊥) (IsChange new keep) → IsValid new → ⊥
none_made new keep found is h = subst (λ (o : Option Change). MatchOption o (IsValid new → ⊥) (IsChange new keep)) is h

-- the statement with a number is one
pub same_statement : (a b : StmtTree) → Some a ≡ Some b → a ≡ b
same_statement a b e = cc
