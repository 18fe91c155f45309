-- The rules that several steps share: the condition under which each forbids a step, and the statement that it names (ParaScope; this project).
use Rattle.std.specs.Prelude.{◌≡◌, ◌⊎◌, ℕ, ℤ, pos, neg_ℤ, List, [], Bool, true, false, not, ◌||◌, is_none, Option, Some, None}
use Rattle.std.specs.Ordering.{int_eq}
use Rattle.ped_base.specs.Lists.{has_some}
use Rattle.ped_tree.specs.Tree.{ExprTree, Head, StmtTrees, ProgramTree}
use Rattle.ped_tree.specs.Constants.ConstantExpressions.{constant_value}
use Rattle.ped_loop_runs.specs.ped_symbols.specs.Kinds.{table_of}
use Rattle.ped_loop_runs.specs.ped_symbols.specs.NameRefusals.{IsValid}
use Rattle.ped_affine.specs.Ranges.{Setting, interval_of, around_with}
use Rattle.ped_affine.specs.PairViews.{heads_of}
use Rattle.ped_loop_runs.specs.ped_flow.specs.PlainBounds.{setting_round, nest_round, IsPlain}
use Rattle.ped_loop_runs.specs.ped_flow.specs.Questions.{LoopOf, IsFirst}
use Rattle.ped_loop_runs.specs.ped_flow.specs.Answers.{IsEscape}
use Rattle.ped_loop_runs.specs.ped_flow.specs.declared.flows.Reader.TheVariants.{Statement, Saved}
use Rattle.ped_rules.specs.OnlyLoops.{only_loop}
use Rattle.ped_rules.specs.Spans.{Values, span_of}

-- rule 1: the statement with this number is no DO
abbrev pub IsNoLoop : ProgramTree → ℕ → Type 0
IsNoLoop t s = LoopOf t s → ⊥

-- rule 1 names the statement
abbrev pub WhereNoLoop : ProgramTree → ℕ → ℕ → Type 0
WhereNoLoop t s n = IsNoLoop t s × (n ≡ s)

-- rule 2: the body isn't one DO, comments apart (Allen and Kennedy, section 5.2)
abbrev pub isnt_perfect : Head → StmtTrees → Bool
isnt_perfect h body = is_none (only_loop body)

-- rule 3: the DO is a PARALLEL DO
abbrev pub is_parallel : Head → StmtTrees → Bool
is_parallel h body = h.parallel

-- rule 3 of `serial`: the DO is no PARALLEL DO
abbrev pub is_serial : Head → StmtTrees → Bool
is_serial h body = not h.parallel

-- rule 4: the DO has PRIVATE names (ParaScope)
abbrev pub has_private : Head → StmtTrees → Bool
has_private h body = has_some h.private

-- rule 5: the DO reads its variable, or that of a DO in it, elsewhere than in the body of that DO, or one of these is live after it: the rule names the first statement that reads one so, or, where none does, the DO, since the program's end may show one (this project)
abbrev pub WhereEscape : ProgramTree → ℕ → ℕ → Type 0
WhereEscape t s n = LoopOf t s × (IsEscape t s (Some (Statement n)) ⊎ (IsEscape t s (Some Saved) × (n ≡ s)))

-- the expression is a bound of the DO (ANSI X3.9-1978, section 11.10)
abbrev pub IsBoundOf : Head → ExprTree → Type 0
IsBoundOf h e = (e ≡ h.first) ⊎ (e ≡ h.last)

-- both bounds of the DO with this number are plain, or one isn't (this project)
abbrev pub TellsPlain : ProgramTree → ℕ → Head → Bool → Type 0
TellsPlain t n h true = IsPlain (table_of t).constants t n h.first × IsPlain (table_of t).constants t n h.last
TellsPlain t n h false = (e : ExprTree) × IsBoundOf h e × (IsPlain (table_of t).constants t n e → ⊥)

-- a bound of the DO with number k that is asked for isn't plain (this project)
abbrev pub HasUnplain : ProgramTree → (ℕ → ExprTree → Type 0) → ℕ → Type 0
HasUnplain t Asked k = (e : ExprTree) × Asked k e × (IsPlain (table_of t).constants t k e → ⊥)

-- rule 6: of the bounds that are asked for, each with the number of its DO, one isn't plain; the rule names the first DO that has such a bound (this project)
abbrev pub WhereUnplain : ProgramTree → ℕ → (ℕ → ExprTree → Type 0) → ℕ → Type 0
WhereUnplain t s Asked n = LoopOf t s × IsFirst (HasUnplain t Asked) (Some n)

-- the value isn't there, or it isn't allowed
abbrev pub isnt_allowed : (ℤ → Bool) → Option ℤ → Bool
isnt_allowed allowed None = true
isnt_allowed allowed (Some n) = not (allowed n)

-- a DO goes through its values one by one (ANSI X3.9-1978, section 11.10.3)
abbrev pub is_one : ℤ → Bool
is_one n = int_eq n (pos 1)

-- a DO goes through its values one by one, upwards or downwards (ANSI X3.9-1978, section 11.10.3)
abbrev pub is_unit : ℤ → Bool
is_unit n = int_eq n (pos 1) || int_eq n (neg_ℤ (pos 1))

-- rule 8: the increment has no constant value, or one that isn't allowed (this project)
abbrev pub has_other_step : Values → (ℤ → Bool) → Head → StmtTrees → Bool
has_other_step constants allowed h body = isnt_allowed allowed (constant_value constants h.step)

-- rule 9: a new bound in these DO loops, the outermost first, has a part whose values may leave 2^62 (this project)
abbrev pub leaves : Setting → List Head → ExprTree → Bool
leaves setting heads e = is_none (interval_of setting (around_with setting [] heads) e)

-- what the values of bounds depend on at the DO with this number
abbrev pub setting_at : ProgramTree → ℕ → Setting
setting_at t s = setting_round (table_of t).constants t s

-- the heads of the DO loops around a statement, the outermost first
abbrev pub heads_round : ProgramTree → ℕ → List Head
heads_round t s = heads_of (nest_round t s)

-- rule 14: a bound isn't constant, or there is no iteration (ANSI X3.9-1978, section 11.10.3)
abbrev pub isnt_constant : Values → Head → StmtTrees → Bool
isnt_constant constants h body = is_none (span_of constants h)

-- rule 15: the step makes no valid program of this one (this project)
abbrev pub WhereLimit : (ProgramTree → ProgramTree → List (ℕ × ℕ) → Type 0) → ProgramTree → ℕ → ℕ → Type 0
WhereLimit Makes t s n = LoopOf t s × ((new : ProgramTree) (keep : List (ℕ × ℕ)) → Makes t new keep → IsValid new → ⊥) × (n ≡ s)
