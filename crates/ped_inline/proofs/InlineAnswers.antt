-- What `inline` answers, and the program that its code makes.
use Rattle.std.proofs.Common.{◌≡◌, ℕ, List, Option, MatchOption, Some, None, Ok, Err, refl, sym, ap, ◌∙◌, subst}
use Rattle.ped_tree.specs.Tree.{StmtTree, StmtTrees, ProgramTree}
use Rattle.ped_tree.specs.Numbering.{statement_with}
use Rattle.ped_rules.specs.Steps.{transformation, Answers}
use Rattle.ped_rules.proofs.Answering.{refused_by, accepted_by, none_first}
use Rattle.ped_rules.specs.ped_steps.specs.declared.rules.Rule.{Rule}
use Rattle.ped_rules.specs.ped_steps.specs.declared.causes.Refused.{Refused}
use Rattle.ped_rules.specs.ped_steps.specs.declared.causes.Refused.TheVariants as variant
use Rattle.ped_rules.specs.ped_steps.specs.declared.changes.Change.{Change}
use Rattle.ped_rules.specs.ped_steps.specs.Causes.{NoRule, IsFirstRule, none_forbids}
use Rattle.ped_rules.specs.ped_steps.specs.Changes.{IsChange}
use Rattle.ped_rules.specs.ped_steps.specs.Replacing.{program_with}
use Rattle.ped_rules.specs.ped_symbols.specs.NameRefusals.{IsValid}
use Rattle.ped_rules.specs.ped_steps.proofs.OnePlace.{one_program}
use Rattle.ped_inline.specs.Blocks.{IsBlock}
use Rattle.ped_inline.specs.Inlining.{given_or, opened, inlined, inline_kept, MakesInlined, StandsAgainstInlining, inlining}
use Rattle.ped_inline.proofs.InlineRules.{same_statement}

-- the change that the code has found, or that there is none
pub some_made : (new : ProgramTree) (keep : List (ℕ × ℕ)) (found : Option Change) (change : Change) → found ≡ Some change → MatchOption found (IsValid new → ⊥) (IsChange new keep) → IsChange new keep change
some_made new keep found change is h = subst (λ (o : Option Change). MatchOption o (IsValid new → ⊥) (IsChange new keep)) is h

pub none_made : (new : ProgramTree) (keep : List (ℕ × ℕ)) (found : Option Change) → found ≡ None → MatchOption found (IsValid new → ⊥) (IsChange new keep) → IsValid new → ⊥
none_made new keep found is h = subst (λ (o : Option Change). MatchOption o (IsValid new → ⊥) (IsChange new keep)) is h

module _ (s : ℕ) (t : ProgramTree) where
  pub refused : (r : Rule) (n : ℕ) (found : Refused) → found ≡ variant.Rule r n → IsFirstRule (StandsAgainstInlining s t) r n → Answers (inlining s) t (Err found)
  refused r n found is first = refused_by transformation s (StandsAgainstInlining s) (λ u. none_forbids) (MakesInlined s) t r n found is first

  pub accepted : (change : Change) → NoRule (StandsAgainstInlining s t) → IsChange (inlined t s) (inline_kept t s) change → Answers (inlining s) t (Ok change)
  accepted change none made = accepted_by transformation s (StandsAgainstInlining s) (λ u. none_forbids) (MakesInlined s) t change (inlined t s) (inline_kept t s) none (none_first t) (refl, refl) made

-- the block opens to its body, and so the program of the code is that of the step
pub opens_to : (t : ProgramTree) (n : ℕ) (body : StmtTrees) → IsBlock t n body → (g : StmtTree) → statement_with n t ≡ Some g → opened g ≡ body
opens_to t n body b g e = ap opened (same_statement g b.statement (sym e ∙ b.is)) ∙ ap (given_or b.statement) b.opens

pub program_opened : (t : ProgramTree) (n : ℕ) (body : StmtTrees) → IsBlock t n body → program_with (λ s. body) n t ≡ program_with opened n t
program_opened t n body b = one_program (λ (s : StmtTree). body) opened n t (λ g e. sym (opens_to t n body b g e))
