-- `parallel`: a DO becomes a PARALLEL DO, whose iterations may be done in any order (Allen and Kennedy, section 2.4.1; ParaScope).
use Rattle.std.specs.Prelude.{◌≡◌, ℕ, List, true}
use Rattle.ped_tree.specs.Tree.{ProgramTree}
use Rattle.ped_rules.specs.Carried.{carried}
use Rattle.ped_rules.specs.Chains.{no_rules, also, WhereLoop}
use Rattle.ped_rules.specs.Rules.{WhereNoLoop, is_parallel, WhereEscape, WhereLimit}
use Rattle.ped_rules.specs.Steps.{transformation, StepAt, asks_no_more}
use Rattle.ped_loop_runs.specs.ped_steps.specs.declared.rules.Rule.TheVariants.{NoLoop, ParallelState, IndexEscapes, Limit}
use Rattle.ped_loop_runs.specs.ped_steps.specs.Causes.{Rules, IsFirstCause}
use Rattle.ped_loop_runs.specs.ped_steps.specs.Replacing.{all_kept}
use Rattle.ped_rules.specs.Flags.{flagged}

-- the program after the step, which keeps each statement with its number (ParaScope)
abbrev pub MakesParallel : (s : ℕ) → ProgramTree → ProgramTree → List (ℕ × ℕ) → Type 0
MakesParallel s t new keep = (new ≡ flagged t s true) × (keep ≡ all_kept t)

-- which rules forbid the step: the statement is no DO, or a PARALLEL DO; the DO reads its variable, or that of a DO in it, elsewhere than in the body of that DO, or one of these is live after it; the new program isn't valid (this project)
abbrev pub StandsAgainstParallel : (s : ℕ) → ProgramTree → Rules
StandsAgainstParallel s t =
    also NoLoop (WhereNoLoop t s)
    (also ParallelState (WhereLoop t s is_parallel)
    (also IndexEscapes (WhereEscape t s)
    (also Limit (WhereLimit (MakesParallel s) t s) no_rules)))

-- `parallel s`: a dependence that the DO carries and that the user hasn't rejected forbids it (Allen and Kennedy, section 2.4.1; ParaScope)
abbrev pub paralleling : ℕ → StepAt
paralleling s = record {
  statement = s;
  kind = transformation;
  IsCause = λ t. IsFirstCause t (StandsAgainstParallel s t) (carried t s);
  Makes = MakesParallel s;
  IsTrueFor = asks_no_more;
}
