-- From what the code of `parallel` and `serial` finds to what it answers.
use Rattle.std.proofs.Common.{◌≡◌, ℕ, List, [], ◌∷◌, Bool, true, false, Some, None, Ok, Err, Option, MatchOption, refl, sym, ap, ◌∙◌, subst}
use Rattle.ped_tree.specs.Tree.{Head, StmtTree, StmtTrees, Do, ProgramTree}
use Rattle.ped_tree.specs.Views.{stmt_tree, stmt_trees}
use Rattle.ped_tree.specs.declared.statements.Stmt.{Stmt}
use Rattle.ped_rules.specs.OnlyLoops.{on_loop}
use Rattle.ped_rules.specs.Steps.{transformation, Answers}
use Rattle.ped_rules.proofs.Answering.{refused_by, accepted_by, none_first}
use Rattle.ped_rules.specs.ped_steps.specs.declared.rules.Rule.{Rule}
use Rattle.ped_rules.specs.ped_steps.specs.declared.causes.Refused.{Refused}
use Rattle.ped_rules.specs.ped_steps.specs.declared.causes.Refused.TheVariants as variant
use Rattle.ped_rules.specs.ped_steps.specs.declared.changes.Change.{Change}
use Rattle.ped_rules.specs.ped_steps.specs.Causes.{NoRule, IsFirstRule, none_forbids}
use Rattle.ped_rules.specs.ped_steps.specs.Changes.{IsChange}
use Rattle.ped_rules.specs.ped_steps.specs.Replacing.{alone, all_kept, program_with}
use Rattle.ped_rules.specs.ped_flow.specs.Questions.{IsLoop}
use Rattle.ped_rules.specs.ped_steps.proofs.OnePlace.{one_program}
use Rattle.ped_rules.specs.ped_symbols.specs.NameRefusals.{IsValid}
use Rattle.ped_rules.specs.Flags.{with_flag, flagged}
use Rattle.ped_rules.specs.Paralleling.{StandsAgainstParallel}
use Rattle.ped_loops.specs.CodeEnding.{IsByRules}
use Rattle.ped_loops.specs.Serialising.{serialising, MakesSerial, StandsAgainstSerial}
use Rattle.ped_loops.proofs.Endings.{ruled}

-- the change that the code has found, or that there is none
pub some_made : (new : ProgramTree) (keep : List (ℕ × ℕ)) (found : Option Change) (change : Change) → found ≡ Some change → MatchOption found (IsValid new → ⊥) (IsChange new keep) → IsChange new keep change
some_made new keep found change is h = subst (λ (o : Option Change). MatchOption o (IsValid new → ⊥) (IsChange new keep)) is h

pub none_made : (new : ProgramTree) (keep : List (ℕ × ℕ)) (found : Option Change) → found ≡ None → MatchOption found (IsValid new → ⊥) (IsChange new keep) → IsValid new → ⊥
none_made new keep found is h = subst (λ (o : Option Change). MatchOption o (IsValid new → ⊥) (IsChange new keep)) is h

same_statement : (a b : StmtTree) → Some a ≡ Some b → a ≡ b
same_statement a b e = cc

-- the new program of the code is that of the step
pub flag_program : (t : ProgramTree) (n : ℕ) (flag : Bool) (h : Head) (body : StmtTrees) (f : Stmt) (new : List Stmt) → IsLoop t n h body → new ≡ f ∷ [] → alone (stmt_tree f) ≡ with_flag flag h body → program_with (λ s. stmt_trees new) n t ≡ flagged t n flag
flag_program t n flag h body f new is listed made =
    one_program (λ (s : StmtTree). stmt_trees new) (on_loop (with_flag flag)) n t (λ g e. ap stmt_trees listed ∙ made ∙ ap (on_loop (with_flag flag)) (same_statement (Do h body) g (sym is ∙ e)))

module _ (t : ProgramTree) (s : ℕ) where
  pub parallel_refused : (r : Rule) (n : ℕ) (refused : Refused) → refused ≡ variant.Rule r n → IsFirstRule (StandsAgainstParallel s t) r n → IsByRules (StandsAgainstParallel s t) (flagged t s true) (all_kept t) (Err refused)
  parallel_refused r n refused is first = ruled (StandsAgainstParallel s t) (flagged t s true) (all_kept t) r n refused is first

  pub serial_refused : (r : Rule) (n : ℕ) (refused : Refused) → refused ≡ variant.Rule r n → IsFirstRule (StandsAgainstSerial s t) r n → Answers (serialising s) t (Err refused)
  serial_refused r n refused is first = refused_by transformation s (StandsAgainstSerial s) (λ u. none_forbids) (MakesSerial s) t r n refused is first

  pub serial_accepted : (change : Change) → NoRule (StandsAgainstSerial s t) → IsChange (flagged t s false) (all_kept t) change → Answers (serialising s) t (Ok change)
  serial_accepted change none made = accepted_by transformation s (StandsAgainstSerial s) (λ u. none_forbids) (MakesSerial s) t change (flagged t s false) (all_kept t) none (none_first t) (refl, refl) made
