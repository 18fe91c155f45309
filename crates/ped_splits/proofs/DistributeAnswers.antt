-- What `distribute` answers, and the program that its code makes.
use Rattle.std.proofs.Common.{◌≡◌, ℕ, List, Option, Some, None, Ok, Err, Result, IfOk, MatchOption, refl, sym, ap, subst, ◌∙◌}
use Rattle.ped_tree.specs.Tree.{Head, StmtTree, StmtTrees, Do, ProgramTree}
use Rattle.ped_rules.specs.OnlyLoops.{on_loop}
use Rattle.ped_rules.specs.Steps.{transformation, Answers}
use Rattle.ped_rules.proofs.Answering.{refused_by, accepted_by, none_first}
use Rattle.ped_rules.specs.ped_flow.specs.Questions.{IsLoop, LoopOf}
use Rattle.ped_rules.specs.ped_steps.specs.declared.causes.Refused.{Refused}
use Rattle.ped_rules.specs.ped_steps.specs.declared.causes.Refused.TheVariants as variant
use Rattle.ped_rules.specs.ped_steps.specs.declared.changes.Change.{Change}
use Rattle.ped_rules.specs.ped_steps.specs.declared.rules.Rule.{Rule}
use Rattle.ped_rules.specs.ped_steps.specs.Causes.{NoRule, IsFirstRule, none_forbids}
use Rattle.ped_rules.specs.ped_steps.specs.Changes.{IsChange}
use Rattle.ped_rules.specs.ped_steps.specs.Replacing.{program_with}
use Rattle.ped_rules.specs.ped_steps.proofs.OnePlace.{one_program}
use Rattle.ped_rules.specs.ped_symbols.specs.NameRefusals.{IsValid}
use Rattle.ped_splits.specs.PiBlocks.{ArePiBlocks}
use Rattle.ped_splits.specs.Distributing.{loops_of, distributed, sources, kept_from, MakesDistributed, StandsAgainstDistribution, distributing}

module _ (s : ℕ) (t : ProgramTree) where
  pub refused : (r : Rule) (n : ℕ) (found : Refused) → found ≡ variant.Rule r n → IsFirstRule (StandsAgainstDistribution s t) r n → Answers (distributing s) t (Err found)
  refused r n found is first = refused_by transformation s (StandsAgainstDistribution s) (λ u. none_forbids) (MakesDistributed s) t r n found is first

  pub accepted : (l : LoopOf t s) (pi_blocks : List (List ℕ)) (change : Change) → ArePiBlocks t s l.head l.body pi_blocks → NoRule (StandsAgainstDistribution s t)
      → IsChange (distributed t s pi_blocks) (kept_from 1 (sources t s l.body pi_blocks)) change → Answers (distributing s) t (Ok change)
  accepted l pi_blocks change are none made =
      accepted_by transformation s (StandsAgainstDistribution s) (λ u. none_forbids) (MakesDistributed s) t change (distributed t s pi_blocks) (kept_from 1 (sources t s l.body pi_blocks)) none (none_first t) (l, pi_blocks, are, refl, refl) made

same_statement : (a b : StmtTree) → Some a ≡ Some b → a ≡ b
same_statement a b e = cc

-- the new program of the code is that of the step
pub distributed_program : (t : ProgramTree) (s : ℕ) (pi_blocks : List (List ℕ)) (h : Head) (body new : StmtTrees) → IsLoop t s h body → new ≡ loops_of pi_blocks h body → program_with (λ z. new) s t ≡ distributed t s pi_blocks
distributed_program t s pi_blocks h body new is made =
    one_program (λ (z : StmtTree). new) (on_loop (loops_of pi_blocks)) s t (λ z e. made ∙ ap (on_loop (loops_of pi_blocks)) (same_statement (Do h body) z (sym is ∙ e)))

-- the change that the code has found, or that there is none
pub some_made : (new : ProgramTree) (keep : List (ℕ × ℕ)) (found : Option Change) (change : Change) → found ≡ Some change → MatchOption found (IsValid new → ⊥) (IsChange new keep) → IsChange new keep change
some_made new keep found change is h = subst (λ (o : Option Change). MatchOption o (IsValid new → ⊥) (IsChange new keep)) is h

pub none_made : (new : ProgramTree) (keep : List (ℕ × ℕ)) (found : Option Change) → found ≡ None → MatchOption found (IsValid new → ⊥) (IsChange new keep) → IsValid new → ⊥
none_made new keep found is h = subst (λ (o : Option Change). MatchOption o (IsValid new → ⊥) (IsChange new keep)) is h

-- what is so of what is found, told from something else that is
pub ok_by : {A E : Type 0} (P Q : A → Type 0) (r : Result A E) → ((x : A) → P x → Q x) → IfOk r P → IfOk r Q
ok_by P Q (Ok x) f h = f x h
ok_by P Q (Err e) f h = tt
