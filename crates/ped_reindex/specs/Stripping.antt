-- `strip`: the iterations of a DO are done in strips of some iterations each (strip mining: Allen and Kennedy, section 6.6.1; ParaScope).
use Rattle.std.specs.Prelude.{◌≡◌, ℕ, ℤ, pos, ◌-ℤ◌, int_lt, List, [], ◌∷◌, ◌++◌, codes, Bool, false, ◌||◌, Option, Some, None}
use Rattle.ped_tree.specs.declared.expressions.Intrinsic.TheVariants.{Min}
use Rattle.ped_tree.specs.Tree.{ExprTree, Int, Var, Call, no_exprs, more_exprs, Head, StmtTrees, Do, ProgramTree}
use Rattle.ped_rules.specs.Chains.{no_rules, also, WhereLoop, Unless}
use Rattle.ped_rules.specs.Fresh.{fresh_name}
use Rattle.ped_rules.specs.KeepMaps.{moved_by}
use Rattle.ped_rules.specs.OnlyLoops.{on_loop}
use Rattle.ped_rules.specs.Rules.{WhereNoLoop, is_parallel, has_private, WhereEscape, WhereUnplain, is_one, has_other_step, leaves, setting_at, heads_round, WhereLimit}
use Rattle.ped_rules.specs.Steps.{transformation, StepAt, asks_no_more}
use Rattle.ped_symbolic.specs.Arithmetic.{literal, plus_of}
use Rattle.ped_rules.specs.ped_symbols.specs.Kinds.{table_of}
use Rattle.ped_rules.specs.ped_flow.specs.Questions.{LoopOf}
use Rattle.ped_rules.specs.ped_steps.specs.declared.rules.Rule.TheVariants.{NoLoop, ParallelState, HasPrivate, IndexEscapes, BoundNotPlain, StepShape, Range, Limit, BadFactor}
use Rattle.ped_rules.specs.ped_steps.specs.Causes.{Rules, IsFirstCause, none_forbids}
use Rattle.ped_rules.specs.ped_steps.specs.Replacing.{alone, program_with}

-- rule 16: a strip has less than 2 or more than 1000 iterations (this project)
abbrev pub is_bad_size : ℤ → Bool
is_bad_size k = int_lt k (pos 2) || int_lt (pos 1000) k

-- rule 16 of `strip`, whatever the DO is (this project)
abbrev pub has_bad_size : ℤ → Head → StmtTrees → Bool
has_bad_size k h body = is_bad_size k

-- the name of the new DO's variable: the first of IS1, IS2 and so on that doesn't occur in the program; none where it would have more than 31 characters (this project)
abbrev pub strip_variable : ProgramTree → Option (List ℕ)
strip_variable t = fresh_name (codes "IS") t

-- the head of the DO over the strips: it goes from the first value of a strip to that of the next one (Allen and Kennedy, section 6.6.1)
abbrev pub strips_head : ℤ → List ℕ → Head → Head
strips_head k w h = record { variable = w; first = h.first; last = h.last; step = literal k; parallel = false; private = []; rejected = [] }

-- the last value of a whole strip (Allen and Kennedy, section 6.6.1)
abbrev pub strip_end : ℤ → List ℕ → ExprTree
strip_end k w = plus_of (Var w) (literal (k -ℤ pos 1))

-- the head of the DO over one strip, the last of which may be shorter; the rest of the old head, its directives too, stays (Allen and Kennedy, section 6.6.1)
abbrev pub strip_head : ℤ → List ℕ → Head → Head
strip_head k w h = record h { first = Var w; last = Call Min (more_exprs (strip_end k w) (more_exprs h.last no_exprs)); step = Int 1 }

-- the DO over the strips with the DO over one strip in it, which has the old body (Allen and Kennedy, section 6.6.1)
abbrev pub with_strips : ℤ → List ℕ → Head → StmtTrees → StmtTrees
with_strips k w h body = alone (Do (strips_head k w h) (alone (Do (strip_head k w h) body)))

-- the program after the step, with this variable (ParaScope)
abbrev pub stripped : ProgramTree → ℕ → ℤ → List ℕ → ProgramTree
stripped t s k w = program_with (on_loop (with_strips k w)) s t

-- what the step makes: the DO over the strips takes the old DO's number, and the numbers of statements after it grow by one (ParaScope)
abbrev pub MakesStripped : (s : ℕ) → (k : ℤ) → ProgramTree → ProgramTree → List (ℕ × ℕ) → Type 0
MakesStripped s k t new keep = (w : List ℕ) × (strip_variable t ≡ Some w) × (new ≡ stripped t s k w) × (keep ≡ moved_by s 1 t)

-- rule 6 of `strip` asks for the limit of the DO, which is evaluated anew for each strip (this project)
abbrev pub IsItsLimit : ProgramTree → (s : ℕ) → ℕ → ExprTree → Type 0
IsItsLimit t s n e = (n ≡ s) × (l : LoopOf t s) × (e ≡ l.head.last)

-- a test of a name that may not be there: it fails then (plain words)
abbrev pub of_name : (List ℕ → Bool) → Option (List ℕ) → Bool
of_name test None = false
of_name test (Some w) = test w

-- rule 9 of `strip`: the last value of a whole strip may leave 2^62 (this project)
abbrev pub strip_leaves : ProgramTree → (s : ℕ) → ℤ → Head → StmtTrees → Bool
strip_leaves t s k h body = of_name (λ w. leaves (setting_at t s) (heads_round t s ++ strips_head k w h ∷ []) (strip_end k w)) (strip_variable t)

-- which rules forbid the step: the statement is no DO, or a PARALLEL DO; it has PRIVATE names; a variable of it is read outside its DO; its limit isn't plain; its increment isn't 1; the last value of a strip may leave 2^62; the new program isn't valid, or the new name would be too long; the size isn't allowed, and then the two rules before aren't asked (this project)
abbrev pub StandsAgainstStripping : (s : ℕ) → (k : ℤ) → ProgramTree → Rules
StandsAgainstStripping s k t =
    also NoLoop (WhereNoLoop t s)
    (also ParallelState (WhereLoop t s is_parallel)
    (also HasPrivate (WhereLoop t s has_private)
    (also IndexEscapes (WhereEscape t s)
    (also BoundNotPlain (WhereUnplain t s (IsItsLimit t s))
    (also StepShape (WhereLoop t s (has_other_step (table_of t).constants is_one))
    (also Range (Unless (is_bad_size k) (WhereLoop t s (strip_leaves t s k)))
    (also Limit (Unless (is_bad_size k) (WhereLimit (MakesStripped s k) t s))
    (also BadFactor (WhereLoop t s (has_bad_size k)) no_rules))))))))

-- `strip s k`: no dependence forbids it, since the order of the iterations stays (Allen and Kennedy, section 6.6.1)
abbrev pub stripping : ℕ → ℤ → StepAt
stripping s k = record {
  statement = s;
  kind = transformation;
  IsCause = λ t. IsFirstCause t (StandsAgainstStripping s k t) none_forbids;
  Makes = MakesStripped s k;
  IsTrueFor = asks_no_more;
}
