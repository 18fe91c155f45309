-- `reverse`: the iterations of a DO are done from the last to the first (Allen and Kennedy, section 5.2; ParaScope).
use Rattle.std.specs.Prelude.{◌≡◌, ℕ, neg_ℤ, List}
use Rattle.ped_symbolic.specs.Arithmetic.{literal}
use Rattle.ped_tree.specs.Tree.{Head, StmtTrees, Do, ProgramTree}
use Rattle.ped_rules.specs.Carried.{carried}
use Rattle.ped_rules.specs.Chains.{no_rules, also, WhereLoop}
use Rattle.ped_rules.specs.OnlyLoops.{on_loop}
use Rattle.ped_rules.specs.Rules.{WhereNoLoop, is_parallel, WhereEscape, is_unit, has_other_step, WhereLimit}
use Rattle.ped_rules.specs.Spans.{Values}
use Rattle.ped_rules.specs.Steps.{transformation, StepAt, asks_no_more}
use Rattle.ped_rules.specs.ped_eval.specs.Loops.{increment}
use Rattle.ped_rules.specs.ped_symbols.specs.Kinds.{table_of}
use Rattle.ped_rules.specs.ped_steps.specs.declared.rules.Rule.TheVariants.{NoLoop, ParallelState, IndexEscapes, StepShape, Limit}
use Rattle.ped_rules.specs.ped_steps.specs.Causes.{Rules, IsFirstCause}
use Rattle.ped_rules.specs.ped_steps.specs.Replacing.{alone, program_with, all_kept}

-- a DO's head with the bounds exchanged, and the literal of the negated increment; all else of it stays (ANSI X3.9-1978, section 11.10; ParaScope)
abbrev pub turned_head : Values → Head → Head
turned_head constants h = record h { first = h.last; last = h.first; step = literal (neg_ℤ (increment constants h)) }

-- the DO with this head (ParaScope)
abbrev pub with_turned : Values → Head → StmtTrees → StmtTrees
with_turned constants h body = alone (Do (turned_head constants h) body)

-- the program after the step (ParaScope)
abbrev pub reversed : ProgramTree → ℕ → ProgramTree
reversed t s = program_with (on_loop (with_turned (table_of t).constants)) s t

-- what the step makes, which keeps each statement with its number (ParaScope)
abbrev pub MakesReversed : (s : ℕ) → ProgramTree → ProgramTree → List (ℕ × ℕ) → Type 0
MakesReversed s t new keep = (new ≡ reversed t s) × (keep ≡ all_kept t)

-- which rules forbid the step: the statement is no DO, or a PARALLEL DO; the DO reads its variable, or that of a DO in it, elsewhere than in the body of that DO, or one of these is live after it; its increment isn't 1 or -1; the new program isn't valid (this project)
abbrev pub StandsAgainstReversal : (s : ℕ) → ProgramTree → Rules
StandsAgainstReversal s t =
    also NoLoop (WhereNoLoop t s)
    (also ParallelState (WhereLoop t s is_parallel)
    (also IndexEscapes (WhereEscape t s)
    (also StepShape (WhereLoop t s (has_other_step (table_of t).constants is_unit))
    (also Limit (WhereLimit (MakesReversed s) t s) no_rules))))

-- `reverse s`: a dependence that the DO carries and that the user hasn't rejected forbids it, since it would be turned around (Allen and Kennedy, sections 2.2.5, 5.2; ParaScope)
abbrev pub reversing : ℕ → StepAt
reversing s = record {
  statement = s;
  kind = transformation;
  IsCause = λ t. IsFirstCause t (StandsAgainstReversal s t) (carried t s);
  Makes = MakesReversed s;
  IsTrueFor = asks_no_more;
}
