-- `serial`: a PARALLEL DO becomes a DO whose iterations are done in order (ParaScope).
use Rattle.std.specs.Prelude.{◌≡◌, ℕ, List, false}
use Rattle.ped_tree.specs.Tree.{ProgramTree}
use Rattle.ped_rules.specs.Chains.{no_rules, also, WhereLoop}
use Rattle.ped_rules.specs.Rules.{WhereNoLoop, is_serial, WhereEscape, WhereLimit}
use Rattle.ped_rules.specs.Steps.{transformation, StepAt, asks_no_more}
use Rattle.ped_rules.specs.ped_steps.specs.declared.rules.Rule.TheVariants.{NoLoop, ParallelState, IndexEscapes, Limit}
use Rattle.ped_rules.specs.ped_steps.specs.Causes.{Rules, IsFirstCause, none_forbids}
use Rattle.ped_rules.specs.ped_steps.specs.Replacing.{all_kept}
use Rattle.ped_rules.specs.Flags.{flagged}

-- the program after the step, which keeps each statement with its number (ParaScope)
abbrev pub MakesSerial : (s : ℕ) → ProgramTree → ProgramTree → List (ℕ × ℕ) → Type 0
MakesSerial s t new keep = (new ≡ flagged t s false) × (keep ≡ all_kept t)

-- which rules forbid the step: the statement is no DO, or no PARALLEL DO; the DO reads its variable, or that of a DO in it, elsewhere than in the body of that DO, or one of these is live after it; the new program isn't valid (this project)
abbrev pub StandsAgainstSerial : (s : ℕ) → ProgramTree → Rules
StandsAgainstSerial s t =
    also NoLoop (WhereNoLoop t s)
    (also ParallelState (WhereLoop t s is_serial)
    (also IndexEscapes (WhereEscape t s)
    (also Limit (WhereLimit (MakesSerial s) t s) no_rules)))

-- `serial s`: no dependence forbids it, since iterations may be done in any order before (ParaScope)
abbrev pub serialising : ℕ → StepAt
serialising s = record {
  statement = s;
  kind = transformation;
  IsCause = λ t. IsFirstCause t (StandsAgainstSerial s t) none_forbids;
  Makes = MakesSerial s;
  IsTrueFor = asks_no_more;
}
