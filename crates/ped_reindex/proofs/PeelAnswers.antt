-- What `peel` answers, and the program that its code makes.
use Rattle.std.proofs.Common.{◌≡◌, ℕ, List, Bool, false, ◌||◌, Option, Some, Ok, Err, refl, sym, ap, ◌∙◌}
use Rattle.std.specs.Prelude.{is_none}
use Rattle.ped_tree.specs.Tree.{Head, StmtTree, StmtTrees, Do, ProgramTree}
use Rattle.ped_tree.specs.Views.{stmt_trees}
use Rattle.ped_tree.specs.declared.statements.Stmt.{Stmt}
use Rattle.ped_rules.specs.OnlyLoops.{on_loop}
use Rattle.ped_rules.specs.Rules.{isnt_constant}
use Rattle.ped_rules.specs.Spans.{Values, span_of, is_far}
use Rattle.ped_rules.proofs.RightSteps.{near_not_far}
use Rattle.ped_rules.specs.ped_eval.specs.Loops.{increment}
use Rattle.ped_rules.specs.ped_symbols.specs.Kinds.{table_of}
use Rattle.ped_rules.specs.ped_steps.specs.Replacing.{program_with}
use Rattle.ped_rules.specs.Steps.{transformation, Answers}
use Rattle.ped_rules.specs.ped_flow.specs.Questions.{IsLoop}
use Rattle.ped_rules.specs.ped_steps.specs.declared.causes.Refused.{Refused}
use Rattle.ped_rules.specs.ped_steps.specs.declared.causes.Refused.TheVariants as variant
use Rattle.ped_rules.specs.ped_steps.specs.declared.changes.Change.{Change}
use Rattle.ped_rules.specs.ped_steps.specs.declared.rules.Rule.{Rule}
use Rattle.ped_rules.specs.ped_steps.specs.Causes.{NoRule, IsFirstRule, none_forbids}
use Rattle.ped_rules.specs.ped_steps.specs.Changes.{IsChange}
use Rattle.ped_rules.specs.ped_steps.proofs.OnePlace.{one_program}
use Rattle.ped_rules.proofs.Answering.{refused_by, accepted_by, none_first}
use Rattle.ped_rules.specs.Settling.{settled}
use Rattle.ped_reindex.specs.CodePeeling.{peeled_in, IsNear}
use Rattle.ped_reindex.specs.declared.iterations.TakenOut.{TakenOut}
use Rattle.ped_reindex.specs.Peeling.{Peeled, peeled_of, has_far, with_peeled, peeled, peel_kept, MakesPeeled, StandsAgainstPeeling, peeling}
use Rattle.ped_reindex.proofs.Answering.{same_statement}
use Rattle.ped_reindex.proofs.Here.{false_by}
use Rattle.ped_reindex.proofs.PeelRules.{none_peeled}

module _ (s : ℕ) (last : Bool) (t : ProgramTree) where
  pub refused : (r : Rule) (n : ℕ) (found : Refused) → found ≡ variant.Rule r n → IsFirstRule (StandsAgainstPeeling s last t) r n → Answers (peeling s last) t (Err found)
  refused r n found is first = refused_by transformation s (StandsAgainstPeeling s last) (λ u. none_forbids) (MakesPeeled s last) t r n found is first

  pub accepted : (h : Head) (body : StmtTrees) (is : IsLoop t s h body) (p : Peeled) (change : Change) → peeled_of last (table_of t).constants h ≡ Some p → NoRule (StandsAgainstPeeling s last t) → IsChange (peeled t s last p) (peel_kept t s last body) change
      → Answers (peeling s last) t (Ok change)
  accepted h body is p change found none made =
      accepted_by transformation s (StandsAgainstPeeling s last) (λ u. none_forbids) (MakesPeeled s last) t change (peeled t s last p) (peel_kept t s last body) none (none_first t) (record { head = h; body = body; is = is }, p, found, refl, refl) made

-- the new program of the code is that of the step
pub peeled_program : (t : ProgramTree) (n : ℕ) (last : Bool) (p : Peeled) (h : Head) (body : StmtTrees) (new : List Stmt) → IsLoop t n h body → stmt_trees new ≡ with_peeled last p h body → settled (program_with (λ s. stmt_trees new) n t) ≡ peeled t n last p
peeled_program t n last p h body new is made =
    ap settled (one_program (λ (s : StmtTree). stmt_trees new) (on_loop (with_peeled last p)) n t (λ z e. made ∙ ap (on_loop (with_peeled last p)) (same_statement (Do h body) z (sym is ∙ e))))

-- literals have the value and the bound
pub near_peeled : (p : TakenOut) → IsNear p → has_far (Some (peeled_in p)) ≡ false
near_peeled p near = λ i. false_by (is_far p.value) (near_not_far p.value near.value) i || false_by (is_far p.bound) (near_not_far p.bound near.bound) i

-- the bounds are constant, and there is an iteration, where one is found; and not where none is
pub known_by : (last : Bool) (constants : Values) (h : Head) (body : StmtTrees) (o : Option Peeled) → peeled_of last constants h ≡ o → isnt_constant constants h body ≡ is_none o
known_by last constants h body o e = none_peeled last (increment constants h) (span_of constants h) ∙ ap is_none e
