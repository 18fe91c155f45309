-- `peel`: the first or the last iteration of a DO is taken out of it and done before or after it (Allen and Kennedy, section 5.7.2; ParaScope).
use Rattle.std.specs.Prelude.{◌≡◌, ℕ, ◌+◌, ◌-◌, ℤ, ◌+ℤ◌, ◌-ℤ◌, List, Bool, true, false, ◌||◌, Option, Some, None}
use Rattle.ped_tree.specs.Tree.{Head, StmtTrees, Do, more_stmts, ProgramTree}
use Rattle.ped_tree.specs.Numbering.{statements_count}
use Rattle.ped_rules.specs.Chains.{no_rules, also, WhereLoop}
use Rattle.ped_rules.specs.KeepMaps.{moved_by}
use Rattle.ped_rules.specs.OnlyLoops.{on_loop}
use Rattle.ped_rules.specs.Rules.{WhereNoLoop, is_parallel, has_private, WhereEscape, isnt_constant, WhereLimit}
use Rattle.ped_rules.specs.Spans.{Values, Span, span_of, is_far}
use Rattle.ped_rules.specs.Steps.{transformation, StepAt, asks_no_more}
use Rattle.ped_symbolic.specs.Arithmetic.{literal}
use Rattle.ped_symbolic.specs.Substitution.{statements_substituted}
use Rattle.ped_rules.specs.ped_eval.specs.Loops.{increment}
use Rattle.ped_rules.specs.ped_symbols.specs.Kinds.{table_of}
use Rattle.ped_rules.specs.ped_flow.specs.Questions.{LoopOf}
use Rattle.ped_rules.specs.ped_steps.specs.declared.rules.Rule.TheVariants.{NoLoop, ParallelState, HasPrivate, IndexEscapes, Range, NotConstant, Limit}
use Rattle.ped_rules.specs.ped_steps.specs.Causes.{Rules, IsFirstCause, none_forbids}
use Rattle.ped_rules.specs.ped_steps.specs.Replacing.{followed, alone, program_with}
use Rattle.ped_rules.specs.Settling.{settled}

-- the iteration that is taken out of a DO: the value of the variable in it, and the bound of the DO that is left (Allen and Kennedy, section 5.7.2)
pub record Peeled : Type 0 where
  pub value : ℤ
  pub bound : ℤ

-- the first iteration, after which the DO begins an increment later; or the last one, before which it ends an increment earlier (Allen and Kennedy, section 5.7.2)
abbrev pub taken_out : (last : Bool) → (step : ℤ) → Span → Peeled
taken_out false step v = record { value = v.first; bound = v.first +ℤ step }
taken_out true step v = record { value = v.last; bound = v.last -ℤ step }

-- the same, where the bounds are constant and there is an iteration (Allen and Kennedy, section 5.7.2)
abbrev pub peeled_by : (last : Bool) → (step : ℤ) → Option Span → Option Peeled
peeled_by last step None = None
peeled_by last step (Some v) = Some (taken_out last step v)

-- the iteration that is taken out of a DO with this head, where its bounds are constant and it has one (Allen and Kennedy, section 5.7.2)
abbrev pub peeled_of : (last : Bool) → Values → Head → Option Peeled
peeled_of last constants h = peeled_by last (increment constants h) (span_of constants h)

-- the value of the variable in the iteration, or the bound of the DO that is left, is one that no literal has (this project)
abbrev pub has_far : Option Peeled → Bool
has_far None = false
has_far (Some p) = is_far p.value || is_far p.bound

-- rule 9 of `peel`; where there is no iteration it isn't asked (this project)
abbrev pub peels_far : (last : Bool) → Values → Head → StmtTrees → Bool
peels_far last constants h body = has_far (peeled_of last constants h)

-- the body in the iteration that is taken out: the literal of its value for the variable (Allen and Kennedy, section 5.7.2)
abbrev pub iteration_of : ℤ → Head → StmtTrees → StmtTrees
iteration_of value h body = statements_substituted h.variable (literal value) body

-- the iteration before the DO, which begins later; or after the DO, which ends earlier. All else of the DO stays (Allen and Kennedy, section 5.7.2)
abbrev pub with_peeled : (last : Bool) → Peeled → Head → StmtTrees → StmtTrees
with_peeled false p h body = followed (iteration_of p.value h body) (alone (Do (record h { first = literal p.bound }) body))
with_peeled true p h body = more_stmts (Do (record h { last = literal p.bound }) body) (iteration_of p.value h body)

-- the program after the step. Comments of the body that come to the front of the program go to the declarations (ParaScope; this project)
abbrev pub peeled : ProgramTree → ℕ → (last : Bool) → Peeled → ProgramTree
peeled t s last p = settled (program_with (on_loop (with_peeled last p)) s t)

-- the statement after which all numbers grow by the number of statements of the body: the one before the DO, or the last one in it (this project)
abbrev pub moves_behind : (last : Bool) → ℕ → ℕ → ℕ
moves_behind false s size = s - 1
moves_behind true s size = s + size

-- the statements that the step keeps: all, and the numbers after the iteration that is taken out grow by the number of statements of the body (this project)
abbrev pub peel_kept : ProgramTree → ℕ → (last : Bool) → StmtTrees → List (ℕ × ℕ)
peel_kept t s last body = moved_by (moves_behind last s (statements_count body)) (statements_count body) t

-- what the step makes, where the bounds are constant and there is an iteration (ParaScope)
abbrev pub MakesPeeled : (s : ℕ) → (last : Bool) → ProgramTree → ProgramTree → List (ℕ × ℕ) → Type 0
MakesPeeled s last t new keep = (l : LoopOf t s) × (p : Peeled) × (peeled_of last (table_of t).constants l.head ≡ Some p) × (new ≡ peeled t s last p) × (keep ≡ peel_kept t s last l.body)

-- which rules forbid the step: the statement is no DO, or a PARALLEL DO; it has PRIVATE names; a variable of it is read outside its DO; the iteration's value or the new bound is one that no literal has; a bound isn't constant, or there is no iteration; the new program isn't valid (this project)
abbrev pub StandsAgainstPeeling : (s : ℕ) → (last : Bool) → ProgramTree → Rules
StandsAgainstPeeling s last t =
    also NoLoop (WhereNoLoop t s)
    (also ParallelState (WhereLoop t s is_parallel)
    (also HasPrivate (WhereLoop t s has_private)
    (also IndexEscapes (WhereEscape t s)
    (also Range (WhereLoop t s (peels_far last (table_of t).constants))
    (also NotConstant (WhereLoop t s (isnt_constant (table_of t).constants))
    (also Limit (WhereLimit (MakesPeeled s last) t s) no_rules))))))

-- `peel s`, of the first iteration or the last one: no dependence forbids it, since the order of the iterations stays (Allen and Kennedy, section 5.7.2)
abbrev pub peeling : ℕ → (last : Bool) → StepAt
peeling s last = record {
  statement = s;
  kind = transformation;
  IsCause = λ t. IsFirstCause t (StandsAgainstPeeling s last t) none_forbids;
  Makes = MakesPeeled s last;
  IsTrueFor = asks_no_more;
}
