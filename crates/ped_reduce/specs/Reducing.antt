-- `reduce`: the iterations of a DO may be done in any order though all add to some scalars. Which lists of sums are live, and what comes of a program when they are lowered (Allen and Kennedy, section 5.6; this project).
use Rattle.std.specs.Prelude.{◌≡◌, ◌⊎◌, ◌≤◌, ℕ, ◌+◌, ◌-◌, ◌==◌, nat_lt, List, [], ◌∷◌, length, Bool, true, false, not, ◌&&◌, ◌||◌, is_none, Option, Some, None, option_map}
use Rattle.std.specs.List.{list_any, find, range_with_len}
use Rattle.ped_base.specs.Lists.{is_among}
use Rattle.ped_tree.specs.Tree.{Head, StmtTrees, Do, ProgramTree}
use Rattle.ped_tree.specs.Nests.{Loop}
use Rattle.ped_tree.specs.NamesIn.{all_loop_variables}
use Rattle.ped_tree.specs.Numbering.{statement_with, statements_count}
use Rattle.ped_refs.specs.References.{Reference, references}
use Rattle.ped_rules.specs.ped_symbols.specs.Kinds.{table_of}
use Rattle.ped_rules.specs.ped_symbols.specs.NameRefusals.{IsValid, has_twice}
use Rattle.ped_edges.specs.Edges.{Edge}
use Rattle.ped_rules.specs.ped_flow.specs.PlainBounds.{nest_round}
use Rattle.ped_rules.specs.ped_flow.specs.Questions.{LoopOf}
use Rattle.ped_rules.specs.ped_steps.specs.declared.rules.Rule.TheVariants.{NoLoop, ParallelState, IndexEscapes, Range, NotScalar, NotConstant, Limit, AlreadyPrivate, NotSum}
use Rattle.ped_rules.specs.ped_steps.specs.Causes.{Rules, IsFirstCause}
use Rattle.ped_rules.specs.ped_steps.specs.Replacing.{alone, program_with, all_kept}
use Rattle.ped_rules.specs.Carried.{carried}
use Rattle.ped_rules.specs.Chains.{no_rules, also, WhereLoop}
use Rattle.ped_rules.specs.OnlyLoops.{on_loop}
use Rattle.ped_rules.specs.Rules.{WhereNoLoop, WhereEscape, WhereLimit, isnt_constant}
use Rattle.ped_rules.specs.Steps.{transformation, StepAt, asks_no_more}
use Rattle.ped_rules.specs.Scalars.{is_scalar, is_referred}
use Rattle.ped_rules.specs.Scalars.{is_in_parallel}
use Rattle.ped_rules.specs.Scalars.{has_far_value, is_private_near}
use Rattle.ped_reduce.specs.Lists.{list_of, with_list, has_list}
use Rattle.ped_reduce.specs.Sums.{Sum, sum_to}
use Rattle.ped_reduce.specs.Lowering.{and_then, Lowered, not_lowered, lowered_at}

-- rule 13: the DO can't add to the name: it is no scalar variable, or that of a DO of the program, or the body of this DO doesn't refer to it (this project)
abbrev pub is_unsummable : ProgramTree → (s : ℕ) → StmtTrees → List ℕ → Bool
is_unsummable t s body x = not (is_scalar t x) || is_among x (all_loop_variables t.body) || not (is_referred t s body x)

-- rule 13 holds by one of these names
abbrev pub has_unsummable : ProgramTree → (s : ℕ) → List (List ℕ) → Head → StmtTrees → Bool
has_unsummable t s names h body = list_any (is_unsummable t s body) names

-- rule 17: one of these names is in the PRIVATE list of the DO, of one in it or of one around it, or it is given twice (this project)
abbrev pub has_private_or_twice : ProgramTree → (s : ℕ) → List (List ℕ) → Head → StmtTrees → Bool
has_private_or_twice t s names h body = list_any (is_private_near t s h body) names || has_twice names

-- what the statement with number n adds to the scalar, where it is a sum of it (Allen and Kennedy, section 5.6)
abbrev pub sum_at : ProgramTree → List ℕ → (n : ℕ) → Option Sum
sum_at t x n = and_then (statement_with n t) (sum_to x)

-- a reference, in the body of the DO with number s, which with it is this many statements, refers to one of these names, and its statement is no sum of that name (Allen and Kennedy, section 5.6; this project)
abbrev pub is_beside_sums : ProgramTree → (s count : ℕ) → List (List ℕ) → Reference → Bool
is_beside_sums t s count names r =
    nat_lt s r.statement && nat_lt r.statement (s + count) && is_among r.access.name names && is_none (sum_at t r.access.name r.statement)

-- the first statement in the body of the DO with number s, which with it is this many statements, that refers to one of these names and is no sum of it; references are in text order (this project)
abbrev pub first_beside_sums : ProgramTree → (s count : ℕ) → List (List ℕ) → Option ℕ
first_beside_sums t s count names = option_map (λ r. r.statement) (find (is_beside_sums t s count names) (references t))

-- rule 19: a statement in the body refers to one of these names and is no sum of it; the rule names the first (this project)
abbrev pub WhereNoSum : ProgramTree → (s : ℕ) → List (List ℕ) → ℕ → Type 0
WhereNoSum t s names n = (l : LoopOf t s) × (first_beside_sums t s (statements_count l.body + 1) names ≡ Some n)

-- which rules with numbers below 15 forbid sums in any order, and others after them: the statement is no DO; it is a PARALLEL DO or in one; the DO reads its variable, or that of a DO in it, elsewhere than in the body of that DO, or one of these is live after it; a value of its variable is one that no literal has; it can't add to one of these names; a bound isn't constant, or there is no iteration (Allen and Kennedy, section 5.6; this project)
abbrev pub also_against_sums : (s : ℕ) → List (List ℕ) → ProgramTree → Rules → Rules
also_against_sums s names t others =
    also NoLoop (WhereNoLoop t s)
    (also ParallelState (WhereLoop t s (is_in_parallel t s))
    (also IndexEscapes (WhereEscape t s)
    (also Range (WhereLoop t s (has_far_value (table_of t).constants))
    (also NotScalar (WhereLoop t s (has_unsummable t s names))
    (also NotConstant (WhereLoop t s (isnt_constant (table_of t).constants)) others)))))

-- which rules forbid sums in any order: those with numbers below 15; a name is private near the DO, or given twice; a statement refers to a name and is no sum of it (Allen and Kennedy, section 5.6; this project)
abbrev pub StandsAgainstSumming : (s : ℕ) → List (List ℕ) → ProgramTree → Rules
StandsAgainstSumming s names t =
    also_against_sums s names t
    (also AlreadyPrivate (WhereLoop t s (has_private_or_twice t s names))
    (also NotSum (WhereNoSum t s names) no_rules))

-- a dependence forbids sums in any order where the DO carries it, the user hasn't rejected it, and it is on no scalar that is summed (Allen and Kennedy, sections 2.4.1, 5.6; ParaScope)
abbrev pub carried_beside : ProgramTree → (s : ℕ) → List (List ℕ) → Edge → Bool
carried_beside t s names e = carried t s e && not (is_among e.name names)

-- a DO is one of those that are lowered
abbrev pub is_live : Lowered → Loop → Bool
is_live p l = list_any (λ n. n == l.number) p.live

-- a DO around the statement with this number is lowered
abbrev pub is_in_live : ProgramTree → Lowered → ℕ → Bool
is_in_live t p s = list_any (is_live p) (nest_round t s)

-- a list is live: the DO with number s has one, of at most eight names; no DO around it is lowered; nothing forbids sums of these names in any order; and the program in which it is lowered after those before it is valid (this project)
pub record IsLive (t : ProgramTree) (s : ℕ) (p q : Lowered) : Type 0 where
  pub loop : LoopOf t s
  pub some : has_list loop.head loop.body ≡ true
  pub few : length (list_of loop.body) ≤ 8
  pub outside : is_in_live t p s ≡ false
  pub free : IsFirstCause t (StandsAgainstSumming s (list_of loop.body) t) (carried_beside t s (list_of loop.body)) None
  pub makes : lowered_at true p s (list_of loop.body) ≡ Some q
  pub valid : IsValid q.tree

-- what comes of lowering the statement with number s: a live list is lowered, and else nothing changes (this project)
abbrev pub LowersOne : ProgramTree → (s : ℕ) → Lowered → Lowered → Type 0
LowersOne t s p q = IsLive t s p q ⊎ (((r : Lowered) → IsLive t s p r → ⊥) × (q ≡ p))

-- what comes of lowering the statements with these numbers, in order
abbrev pub Lowers : ProgramTree → List ℕ → Lowered → Lowered → Type 0
Lowers t [] p q = q ≡ p
Lowers t (s ∷ ss) p q = (r : Lowered) × LowersOne t s p r × Lowers t ss r q

-- what comes of a program when all its live lists are lowered, in text order (this project)
abbrev pub IsLowered : ProgramTree → Lowered → Type 0
IsLowered t q = Lowers t (range_with_len 1 (statements_count t.body)) (not_lowered t) q

-- a DO with a list of these names at the front of its body
abbrev pub with_listed : List (List ℕ) → Head → StmtTrees → StmtTrees
with_listed names h body = alone (Do h (with_list names body))

-- the program after the step
abbrev pub with_reduction : ProgramTree → (s : ℕ) → List (List ℕ) → ProgramTree
with_reduction t s names = program_with (on_loop (with_listed names)) s t

-- what the step makes, which keeps each statement with its number: the list is a comment
abbrev pub MakesReduction : (s : ℕ) → List (List ℕ) → ProgramTree → ProgramTree → List (ℕ × ℕ) → Type 0
MakesReduction s names t new keep = (new ≡ with_reduction t s names) × (keep ≡ all_kept t)

-- rule 15, its second case: the DO has no list yet and is in none that is lowered; and the program in which it is lowered for these names, after the live lists before it, isn't valid (this project)
pub record IsUnlowerable (t : ProgramTree) (s : ℕ) (names : List (List ℕ)) : Type 0 where
  pub loop : LoopOf t s
  pub new : has_list loop.head loop.body ≡ false
  pub before : Lowered
  pub lowers : Lowers t (range_with_len 1 (s - 1)) (not_lowered t) before
  pub outside : is_in_live t before s ≡ false
  pub invalid : (q : Lowered) → lowered_at true before s names ≡ Some q → IsValid q.tree → ⊥

-- rule 15: the new program isn't valid, or that in which the list would be lowered (this project)
abbrev pub WhereReductionLimit : ProgramTree → (s : ℕ) → List (List ℕ) → ℕ → Type 0
WhereReductionLimit t s names n = WhereLimit (MakesReduction s names) t s n ⊎ (IsUnlowerable t s names × (n ≡ s))

-- rule 17 of the step: a name is private near the DO, or given twice, or the DO has a list already (this project)
abbrev pub is_unlistable : ProgramTree → (s : ℕ) → List (List ℕ) → Head → StmtTrees → Bool
is_unlistable t s names h body = has_private_or_twice t s names h body || has_list h body

-- which rules forbid the step: those against sums in any order; the new program, or what it is lowered to, isn't valid; the DO has a list already (this project)
abbrev pub StandsAgainstReducing : (s : ℕ) → List (List ℕ) → ProgramTree → Rules
StandsAgainstReducing s names t =
    also_against_sums s names t
    (also Limit (WhereReductionLimit t s names)
    (also AlreadyPrivate (WhereLoop t s (is_unlistable t s names))
    (also NotSum (WhereNoSum t s names) no_rules)))

-- `reduce s names`: a dependence that the DO carries, on another name than these, forbids it where the user hasn't rejected it (Allen and Kennedy, sections 2.4.1, 5.6; ParaScope)
abbrev pub reducing : ℕ → List (List ℕ) → StepAt
reducing s names = record {
  statement = s;
  kind = transformation;
  IsCause = λ t. IsFirstCause t (StandsAgainstReducing s names t) (carried_beside t s names);
  Makes = MakesReduction s names;
  IsTrueFor = asks_no_more;
}
