-- `skew`: the variable of the inner of two DO loops runs by a multiple of the outer one's variable further, so that what lay on a diagonal lies in one of its iterations (Allen and Kennedy, section 5.9; ParaScope).
use Rattle.std.specs.Prelude.{◌≡◌, ℕ, ℤ, pos, nat_lt, unsigned_abs, List, [], ◌∷◌, ◌++◌, Bool, ◌||◌, if◌then◌else◌}
use Rattle.std.specs.Int.{is_negative}
use Rattle.std.specs.Ordering.{int_eq}
use Rattle.ped_tree.specs.Tree.{ExprTree, Var, Add, Sub, Head, StmtTree, StmtTrees, Do, ProgramTree}
use Rattle.ped_rules.specs.Chains.{no_rules, also, WhereLoop, Unless}
use Rattle.ped_rules.specs.OnlyLoops.{inner, either, on_loop, change_only}
use Rattle.ped_rules.specs.Rules.{WhereNoLoop, isnt_perfect, is_parallel, WhereEscape, leaves, setting_at, heads_round, WhereLimit}
use Rattle.ped_rules.specs.Steps.{transformation, StepAt, asks_no_more}
use Rattle.ped_symbolic.specs.Arithmetic.{plus_of, minus_of, times_of}
use Rattle.ped_symbolic.specs.Substitution.{statements_substituted}
use Rattle.ped_rules.specs.ped_steps.specs.declared.rules.Rule.TheVariants.{NoLoop, NotPerfect, ParallelState, IndexEscapes, Range, Limit, BadFactor}
use Rattle.ped_rules.specs.ped_steps.specs.Causes.{Rules, IsFirstCause, none_forbids}
use Rattle.ped_rules.specs.ped_steps.specs.Replacing.{alone, program_with, all_kept}

-- rule 16: the factor is 0 or more than 1000 in size (this project)
abbrev pub is_bad_factor : ℤ → Bool
is_bad_factor f = int_eq f (pos 0) || nat_lt 1000 (unsigned_abs f)

-- rule 16 of `skew`, whatever the DO is (this project)
abbrev pub has_bad_factor : ℤ → Head → StmtTrees → Bool
has_bad_factor f h body = is_bad_factor f

-- by how much the inner variable runs further in an iteration of the outer one, without the factor's sign (Allen and Kennedy, section 5.9)
abbrev pub offset : ℤ → List ℕ → ExprTree
offset f i = times_of (unsigned_abs f) (Var i)

-- an inner bound with the factor times the outer variable added (Allen and Kennedy, section 5.9)
abbrev pub skewed_bound : ℤ → List ℕ → ExprTree → ExprTree
skewed_bound f i e = if is_negative f then minus_of e (offset f i) else plus_of e (offset f i)

-- what the inner variable was, by what it is now: the factor times the outer variable less (Allen and Kennedy, section 5.9)
abbrev pub unskewed : ℤ → List ℕ → List ℕ → ExprTree
unskewed f i j = if is_negative f then Add (Var j) (offset f i) else Sub (Var j) (offset f i)

-- the head of the inner DO with its bounds skewed; all else of it stays (Allen and Kennedy, section 5.9)
abbrev pub skewed_head : ℤ → List ℕ → Head → Head
skewed_head f i g = record g { first = skewed_bound f i g.first; last = skewed_bound f i g.last }

-- the inner DO so, and in its body what its variable was for the variable (Allen and Kennedy, section 5.9)
abbrev pub skewed_loop : ℤ → List ℕ → Head → StmtTrees → StmtTree
skewed_loop f i g body = Do (skewed_head f i g) (statements_substituted g.variable (unskewed f i g.variable) body)

-- the outer DO with the inner one skewed; its own head stays, and so do comments next to the inner one (Allen and Kennedy, section 5.9)
abbrev pub with_skewed : ℤ → Head → StmtTrees → StmtTrees
with_skewed f h body = alone (Do h (change_only (skewed_loop f h.variable) body))

-- the program after the step (ParaScope)
abbrev pub skewed : ProgramTree → ℕ → ℤ → ProgramTree
skewed t s f = program_with (on_loop (with_skewed f)) s t

-- what the step makes, which keeps each statement with its number (ParaScope)
abbrev pub MakesSkewed : (s : ℕ) → (f : ℤ) → ProgramTree → ProgramTree → List (ℕ × ℕ) → Type 0
MakesSkewed s f t new keep = (new ≡ skewed t s f) × (keep ≡ all_kept t)

-- rule 9 of `skew`: a new bound of the inner DO has a part whose values may leave 2^62 (this project)
abbrev pub skew_leaves : ProgramTree → (s : ℕ) → ℤ → Head → StmtTrees → Bool
skew_leaves t s f h body =
    let heads = heads_round t s ++ h ∷ [] in
    inner (λ g b. leaves (setting_at t s) heads (skewed_bound f h.variable g.first) || leaves (setting_at t s) heads (skewed_bound f h.variable g.last)) body

-- which rules forbid the step: the statement is no DO; the body isn't one DO; one of both is a PARALLEL DO; a variable of theirs is read outside its DO; a new bound may leave 2^62; the new program isn't valid; the factor isn't allowed, and then the two rules before aren't asked (this project)
abbrev pub StandsAgainstSkewing : (s : ℕ) → (f : ℤ) → ProgramTree → Rules
StandsAgainstSkewing s f t =
    also NoLoop (WhereNoLoop t s)
    (also NotPerfect (WhereLoop t s isnt_perfect)
    (also ParallelState (WhereLoop t s (either is_parallel))
    (also IndexEscapes (WhereEscape t s)
    (also Range (Unless (is_bad_factor f) (WhereLoop t s (skew_leaves t s f)))
    (also Limit (Unless (is_bad_factor f) (WhereLimit (MakesSkewed s f) t s))
    (also BadFactor (WhereLoop t s (has_bad_factor f)) no_rules))))))

-- `skew s f`: no dependence forbids it, since the order of the iterations stays (Allen and Kennedy, section 5.9)
abbrev pub skewing : ℕ → ℤ → StepAt
skewing s f = record {
  statement = s;
  kind = transformation;
  IsCause = λ t. IsFirstCause t (StandsAgainstSkewing s f t) none_forbids;
  Makes = MakesSkewed s f;
  IsTrueFor = asks_no_more;
}
