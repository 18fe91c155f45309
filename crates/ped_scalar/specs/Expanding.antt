-- `expand`: a scalar becomes an array with an element for each value of a DO's variable. The new program, and the rules that forbid it (Allen and Kennedy, section 5.3; ParaScope).
use Rattle.std.specs.Prelude.{◌≡◌, ◌⊎◌, ◌↔◌, ℕ, ◌+◌, ℤ, nat_lt, List, [], ◌∷◌, ◌++◌, map, codes, Bool, true, false, ◌&&◌, IsTrue, Option, Some, None, if◌then◌else◌}
use Rattle.std.specs.List.{range_with_len}
use Rattle.ped_tree.specs.Tree.{Var, Head, StmtTree, StmtTrees, Assign, If, Do, Print, Read, Stop, Comment, no_stmts, more_stmts, ProgramTree}
use Rattle.ped_tree.specs.Numbering.{statements_count}
use Rattle.ped_rules.specs.ped_symbols.specs.Kinds.{table_of}
use Rattle.ped_rules.specs.ped_symbols.specs.NameRefusals.{IsValid}
use Rattle.ped_rules.specs.ped_flow.specs.Questions.{LoopOf, IsLiveAfter, IsAssignedThrough}
use Rattle.ped_symbolic.specs.Arithmetic.{literal}
use Rattle.ped_symbolic.specs.Substitution.{statements_substituted}
use Rattle.ped_rules.specs.ped_steps.specs.declared.rules.Rule.TheVariants.{NoLoop, ParallelState, Range, ExposedOrLive, NotScalar, NotConstant, Limit, AlreadyPrivate}
use Rattle.ped_rules.specs.ped_steps.specs.Causes.{Rules, IsFirstCause, none_forbids}
use Rattle.ped_rules.specs.ped_steps.specs.Replacing.{alone, all_replaced}
use Rattle.ped_rules.specs.Steps.{transformation, StepAt, asks_no_more}
use Rattle.ped_rules.specs.Chains.{no_rules, also, WhereLoop}
use Rattle.ped_rules.specs.Rules.{WhereNoLoop, is_parallel, isnt_constant}
use Rattle.ped_rules.specs.Spans.{Span, span_of}
use Rattle.ped_rules.specs.Fresh.{fresh_name}
use Rattle.ped_rules.specs.Scalars.{is_scalar, is_unfit, IsLiveBy, IsExposedBy, IsUnexposed}
use Rattle.ped_rules.specs.Scalars.{is_private_near, has_far_value}
use Rattle.ped_rules.specs.ScalarArrays.{element, declaration}

-- the name of the new array: the first of KX1, KX2 and so on that doesn't occur in the program; none where it would have more than 31 characters (this project)
abbrev pub array_name : ProgramTree → Option (List ℕ)
array_name t = fresh_name (codes "KX") t

-- the scalar keeps what its last element holds, where it is live (Allen and Kennedy, section 5.3)
abbrev pub kept_value : Bool → List ℕ → List ℕ → ℤ → StmtTrees
kept_value true x array last = alone (Assign (Var x) (element array (literal last)))
kept_value false x array last = no_stmts

-- a DO with elements of the array in place of the scalar in its body, and after it, where the scalar is live, the assignment of the last element to it (Allen and Kennedy, section 5.3)
abbrev pub with_elements : List ℕ → List ℕ → Bool → ℤ → StmtTree → StmtTrees
with_elements x array live last (Do h body) = more_stmts (Do h (statements_substituted x (element array (Var h.variable)) body)) (kept_value live x array last)
with_elements x array live last (Assign left right) = alone (Assign left right)
with_elements x array live last (If condition then_part else_part) = alone (If condition then_part else_part)
with_elements x array live last (Print items) = alone (Print items)
with_elements x array live last (Read items) = alone (Read items)
with_elements x array live last Stop = alone Stop
with_elements x array live last (Comment text) = alone (Comment text)

-- the program after the step, with this array over these values (Allen and Kennedy, section 5.3)
abbrev pub expanded : ProgramTree → ℕ → List ℕ → Bool → List ℕ → Span → ProgramTree
expanded t s x live array v = record { decls = t.decls ++ declaration array v ∷ []; body = all_replaced (with_elements x array live v.last) s t.body 1 }

-- the scalar is exposed in the DO by this statement, or else live after it by this statement and not assigned on each path through the body (Allen and Kennedy, section 5.3; this project)
abbrev pub IsLostBy : ProgramTree → ℕ → List ℕ → ℕ → Type 0
IsLostBy t s x n = IsExposedBy t s x n ⊎ (IsUnexposed t s x × IsLiveBy t s x n × (IsAssignedThrough t s x → ⊥))

-- the name is that of a scalar variable, which is exposed in the DO, or live and not assigned, by this statement (ParaScope; this project)
abbrev pub IsScalarLostBy : ProgramTree → ℕ → List ℕ → ℕ → Type 0
IsScalarLostBy t s x n = IsTrue (is_scalar t x) × IsLostBy t s x n

-- the truth value says whether the scalar is live after the DO (Allen and Kennedy, section 4.4)
abbrev pub SaysLive : ProgramTree → ℕ → List ℕ → Bool → Type 0
SaysLive t s x live = IsTrue live ↔ IsLiveAfter t s x

-- with what is found in a program the step makes this new program: a fresh name, the first and the last value of the DO's variable, and whether the scalar is live after the DO (this project)
pub record IsExpanded (t : ProgramTree) (s : ℕ) (x : List ℕ) (h : Head) (new : ProgramTree) : Type 0 where
  pub array : List ℕ
  pub fresh : array_name t ≡ Some array
  pub span : Span
  pub spans : span_of (table_of t).constants h ≡ Some span
  pub live : Bool
  pub says : SaysLive t s x live
  pub made : new ≡ expanded t s x live array span

-- statements up to this number keep their numbers, and the numbers after it grow by one where the truth value says so (this project)
abbrev pub moved_behind : ℕ → Bool → ℕ → ℕ
moved_behind end further n = if nat_lt end n && further then n + 1 else n

-- the statements that the step keeps: all, and the numbers after the DO grow by one if an assignment follows it now (this project)
abbrev pub expand_kept : ProgramTree → ℕ → StmtTrees → Bool → List (ℕ × ℕ)
expand_kept t s body live = map (λ n. (n, moved_behind (s + statements_count body) live n)) (range_with_len 1 (statements_count t.body))

-- what the step makes (ParaScope)
abbrev pub MakesExpanded : (s : ℕ) → List ℕ → ProgramTree → ProgramTree → List (ℕ × ℕ) → Type 0
MakesExpanded s x t new keep = (l : LoopOf t s) × (e : IsExpanded t s x l.head new) × (keep ≡ expand_kept t s l.body e.live)

-- rule 12: a scalar is exposed in the DO, or live after it and not assigned on each path through the body. What is asked of a scalar isn't asked of another name (ParaScope; this project)
abbrev pub WhereLost : ProgramTree → (s : ℕ) → List ℕ → ℕ → Type 0
WhereLost t s x n = LoopOf t s × IsScalarLostBy t s x n

-- rule 15: the new array's name would be too long, or the new program isn't valid; where a bound isn't constant there is none (this project)
abbrev pub WhereArrayLimit : ProgramTree → (s : ℕ) → List ℕ → ℕ → Type 0
WhereArrayLimit t s x n = (l : LoopOf t s) × ((array_name t ≡ None) ⊎ ((new : ProgramTree) × IsExpanded t s x l.head new × (IsValid new → ⊥))) × (n ≡ s)

-- rule 17: a scalar is in the PRIVATE list of the DO, of one in it or of one around it (ParaScope)
abbrev pub is_scalar_private_near : ProgramTree → ℕ → List ℕ → Head → StmtTrees → Bool
is_scalar_private_near t s x h body = is_scalar t x && is_private_near t s h body x

-- which rules forbid the step: the statement is no DO; it is a PARALLEL DO; a value of its variable is one that no literal has; the scalar is exposed, or live and not assigned on each path through the body; the name is no such scalar; a bound isn't constant, or there is no iteration; the new array's name would be too long, or the new program isn't valid; the name is in the PRIVATE list of the DO, of one in it or of one around it (ParaScope; this project)
abbrev pub StandsAgainstExpanding : (s : ℕ) → List ℕ → ProgramTree → Rules
StandsAgainstExpanding s x t =
    also NoLoop (WhereNoLoop t s)
    (also ParallelState (WhereLoop t s is_parallel)
    (also Range (WhereLoop t s (has_far_value (table_of t).constants))
    (also ExposedOrLive (WhereLost t s x)
    (also NotScalar (WhereLoop t s (is_unfit t s x))
    (also NotConstant (WhereLoop t s (isnt_constant (table_of t).constants))
    (also Limit (WhereArrayLimit t s x)
    (also AlreadyPrivate (WhereLoop t s (is_scalar_private_near t s x)) no_rules)))))))

-- the step at a statement: a scalar becomes an array with an element for each value of a DO's variable (Allen and Kennedy, section 5.3; ParaScope)
abbrev pub expanding : ℕ → List ℕ → StepAt
expanding s x = record {
  statement = s;
  kind = transformation;
  IsCause = λ t. IsFirstCause t (StandsAgainstExpanding s x t) none_forbids;
  Makes = MakesExpanded s x;
  IsTrueFor = asks_no_more;
}
