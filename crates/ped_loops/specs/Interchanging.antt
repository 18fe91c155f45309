-- `interchange`: a DO and the only DO in its body change places (Allen and Kennedy, section 5.2; ParaScope).
use Rattle.std.specs.Prelude.{◌≡◌, ◌⊎◌, ℕ, ◌+◌, List, [], ◌∷◌, ◌++◌, Bool, ◌&&◌, ◌||◌, MatchOption, Option, Some, None}
use Rattle.ped_tree.specs.Tree.{ExprTree, Head, StmtTrees, Do, ProgramTree}
use Rattle.ped_rules.specs.ped_affine.specs.Ranges.{Setting}
use Rattle.ped_rules.specs.Carried.{crossing}
use Rattle.ped_rules.specs.Chains.{no_rules, also, WhereLoop}
use Rattle.ped_rules.specs.KeepMaps.{all_but}
use Rattle.ped_rules.specs.OnlyLoops.{only_loop, inner, either, on_loop, change_only}
use Rattle.ped_rules.specs.Rules.{WhereNoLoop, isnt_perfect, is_parallel, has_private, WhereEscape, WhereUnplain, is_one, has_other_step, leaves, setting_at, heads_round, WhereLimit}
use Rattle.ped_rules.specs.Spans.{Values}
use Rattle.ped_rules.specs.Steps.{transformation, StepAt, asks_no_more}
use Rattle.ped_rules.specs.ped_flow.specs.Questions.{LoopOf}
use Rattle.ped_rules.specs.ped_symbols.specs.Kinds.{table_of}
use Rattle.ped_rules.specs.ped_steps.specs.declared.rules.Rule.TheVariants.{NoLoop, NotPerfect, ParallelState, HasPrivate, IndexEscapes, BoundNotPlain, BoundsShape, StepShape, Range, Limit}
use Rattle.ped_rules.specs.ped_steps.specs.Causes.{Rules, IsFirstCause}
use Rattle.ped_rules.specs.ped_steps.specs.Replacing.{alone, program_with}
use Rattle.ped_loops.specs.Shapes.{new_outer, new_inner, names_outer, isnt_shaped}
use Rattle.ped_rules.specs.Rules.{IsBoundOf}

-- the two DO loops in each other's place: comments in the body of the outer one stay in that of the new outer one (Allen and Kennedy, section 5.2)
abbrev pub exchanged_loops : Head → (body : StmtTrees) → Option (Head × StmtTrees) → StmtTrees
exchanged_loops outer body None = alone (Do outer body)
exchanged_loops outer body (Some l) = alone (Do (new_outer outer l.0) (change_only (λ h inside. Do (new_inner outer l.0) inside) body))

-- the same of a DO, where one DO is in its body, comments apart (Allen and Kennedy, section 5.2)
abbrev pub with_exchanged : Head → StmtTrees → StmtTrees
with_exchanged outer body = exchanged_loops outer body (only_loop body)

-- the program after the step (ParaScope)
abbrev pub interchanged : ProgramTree → ℕ → ProgramTree
interchanged t s = program_with (on_loop with_exchanged) s t

-- what the step makes: each statement keeps its number, but the two DO loops themselves are new (ParaScope; this project)
abbrev pub MakesInterchanged : (s : ℕ) → ProgramTree → ProgramTree → List (ℕ × ℕ) → Type 0
MakesInterchanged s t new keep = (new ≡ interchanged t s) × (keep ≡ all_but s (s + 1) t)

-- rule 6: the bounds that are asked for are those of the DO, and those of the only DO in its body under the next number (this project)
abbrev pub IsBoundOfEither : ProgramTree → (s : ℕ) → ℕ → ExprTree → Type 0
IsBoundOfEither t s n e = (l : LoopOf t s) × (((n ≡ s) × IsBoundOf l.head e) ⊎ ((n ≡ s + 1) × MatchOption (only_loop l.body) ⊥ (λ g. IsBoundOf g.0 e)))

-- rule 7: a bound of the inner DO names the variable of the outer one and has none of the five shapes (Allen and Kennedy, section 5.2)
abbrev pub is_tied : Head → StmtTrees → Bool
is_tied outer body = inner (λ g inside. isnt_shaped outer g) body

-- rule 8: a bound of the inner DO names the variable of the outer one, and the increment of one of the two isn't 1 (this project)
abbrev pub has_no_unit : Values → Head → StmtTrees → Bool
has_no_unit constants outer body = inner (λ g inside. names_outer outer g && (has_other_step constants is_one outer body || has_other_step constants is_one g inside)) body

-- of a new outer DO in these DO loops and a new inner one, a bound has a part whose values may leave 2^62 (this project)
abbrev pub leaves_either : Setting → List Head → (outer inner : Head) → Bool
leaves_either setting heads outer inner =
    (leaves setting heads outer.first || leaves setting heads outer.last) || (leaves setting (heads ++ outer ∷ []) inner.first || leaves setting (heads ++ outer ∷ []) inner.last)

-- rule 9: a new bound has a part whose values may leave 2^62 (this project)
abbrev pub makes_far : Setting → List Head → Head → StmtTrees → Bool
makes_far setting heads outer body = inner (λ g inside. leaves_either setting heads (new_outer outer g) (new_inner outer g)) body

-- which rules forbid the step: the statement is no DO; its body isn't one DO; one of the two is a PARALLEL DO, or has PRIVATE names; a variable of the DO or of one in it is read outside it; a bound of one isn't plain; one of the inner DO names the outer variable and has no shape, or names it where an increment isn't 1; a new bound may leave 2^62; the new program isn't valid (this project)
abbrev pub StandsAgainstInterchange : (s : ℕ) → ProgramTree → Rules
StandsAgainstInterchange s t =
    also NoLoop (WhereNoLoop t s)
    (also NotPerfect (WhereLoop t s isnt_perfect)
    (also ParallelState (WhereLoop t s (either is_parallel))
    (also HasPrivate (WhereLoop t s (either has_private))
    (also IndexEscapes (WhereEscape t s)
    (also BoundNotPlain (WhereUnplain t s (IsBoundOfEither t s))
    (also BoundsShape (WhereLoop t s is_tied)
    (also StepShape (WhereLoop t s (has_no_unit (table_of t).constants))
    (also Range (WhereLoop t s (makes_far (setting_at t s) (heads_round t s)))
    (also Limit (WhereLimit (MakesInterchanged s) t s) no_rules)))))))))

-- `interchange s`: a dependence that the DO carries forbids it where its sink is in an earlier iteration of the inner DO, since it would be turned around (Allen and Kennedy, section 5.2)
abbrev pub interchanging : ℕ → StepAt
interchanging s = record {
  statement = s;
  kind = transformation;
  IsCause = λ t. IsFirstCause t (StandsAgainstInterchange s t) (crossing t s);
  Makes = MakesInterchanged s;
  IsTrueFor = asks_no_more;
}
