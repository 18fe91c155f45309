-- What rules ask of a scalar and a DO, where a step gives each iteration its own copy of the scalar (ParaScope; this project).
use Rattle.std.specs.Prelude.{◌≡◌, ◌⊎◌, ℕ, ◌+◌, List, Bool, false, not, ◌&&◌, ◌||◌, nat_lt, Option, Some, None}
use Rattle.std.specs.List.{list_any}
use Rattle.ped_base.specs.Lists.{is_same_text, is_among}
use Rattle.ped_tree.specs.Tree.{Head, StmtTrees, ProgramTree, Do}
use Rattle.ped_tree.specs.Nests.{indices_of}
use Rattle.ped_tree.specs.Numbering.{statements_count}
use Rattle.ped_refs.specs.References.{Reference, references}
use Rattle.ped_loop_runs.specs.ped_symbols.specs.Kinds.{kind_in}
use Rattle.ped_tree.specs.NamesIn.{loop_variables, private_names_in}
use Rattle.ped_rules.specs.Spans.{Values, Span, span_of, spans_far}
use Rattle.ped_loop_runs.specs.ped_symbols.specs.RightUses.RightUses as uses
use Rattle.ped_loop_runs.specs.ped_flow.specs.PlainBounds.{nest_round}
use Rattle.ped_loop_runs.specs.ped_flow.specs.Questions.{IsFirst, IsExposed, IsReadBehind, IsShownBehind}

-- the name is that of a scalar variable of the program (ANSI X3.9-1978, section 2.5)
abbrev pub is_scalar : ProgramTree → List ℕ → Bool
is_scalar t x = uses.is_scalar (kind_in t) x

-- a reference in the body of the DO with number s refers to the name, where the DO and those in it are this many statements; what the DO's header reads is outside (this project)
abbrev pub is_reference_in : ℕ → ℕ → List ℕ → Reference → Bool
is_reference_in s count x r = nat_lt s r.statement && nat_lt r.statement (s + count) && is_same_text x r.access.name

-- the scalar is the variable of the DO with this head and body, of one around it or of one in it (ANSI X3.9-1978, section 11.10)
abbrev pub is_index_near : ProgramTree → ℕ → Head → StmtTrees → List ℕ → Bool
is_index_near t s h body x = is_among x (indices_of (nest_round t s)) || is_among x (loop_variables (Do h body))

-- a reference in the body of the DO with this number refers to the name (Allen and Kennedy, section 2.2.1)
abbrev pub is_referred : ProgramTree → ℕ → StmtTrees → List ℕ → Bool
is_referred t s body x = list_any (is_reference_in s (statements_count body + 1) x) (references t)

-- rule 13: no step can give each iteration of the DO its own copy of the name: it is no scalar variable, or the variable of the DO, of one around it or of one in it, or the body doesn't refer to it (this project)
abbrev pub is_unfit : ProgramTree → ℕ → List ℕ → Head → StmtTrees → Bool
is_unfit t s x h body = not (is_scalar t x) || is_index_near t s h body x || not (is_referred t s body x)

-- the scalar is live after the DO by this statement: the first that may read it, or the DO itself where none may and the program's end may show it (Allen and Kennedy, section 4.4; this project)
abbrev pub IsLiveBy : ProgramTree → ℕ → List ℕ → ℕ → Type 0
IsLiveBy t s x n = IsFirst (IsReadBehind t s x) (Some n) ⊎ (IsFirst (IsReadBehind t s x) None × IsShownBehind t s x × (n ≡ s))

-- the scalar is exposed in the DO, first in this statement (Allen and Kennedy, section 5.2)
abbrev pub IsExposedBy : ProgramTree → ℕ → List ℕ → ℕ → Type 0
IsExposedBy t s x n = IsFirst (IsExposed t s x) (Some n)

-- the scalar isn't exposed in the DO (Allen and Kennedy, section 5.2)
abbrev pub IsUnexposed : ProgramTree → ℕ → List ℕ → Type 0
IsUnexposed t s x = IsFirst (IsExposed t s x) None

-- rule 3: the DO or one around it is a PARALLEL DO (ParaScope)
abbrev pub is_in_parallel : ProgramTree → ℕ → Head → StmtTrees → Bool
is_in_parallel t s h body = h.parallel || list_any (λ m. m.head.parallel) (nest_round t s)

-- the name is in the PRIVATE list of the DO, of one in it or of one around it (ParaScope)
abbrev pub is_private_near : ProgramTree → ℕ → Head → StmtTrees → List ℕ → Bool
is_private_near t s h body x = is_among x (private_names_in (Do h body)) || list_any (λ l. is_among x l.head.private) (nest_round t s)

-- there are values of a DO's variable, and they pass the test
abbrev pub of_span : (Span → Bool) → Option Span → Bool
of_span test None = false
of_span test (Some v) = test v

-- rule 9: the bounds are constant, there is an iteration, and a value of the DO's variable is one that no literal has (ANSI X3.9-1978, section 4.3; this project)
abbrev pub has_far_value : Values → Head → StmtTrees → Bool
has_far_value constants h body = of_span spans_far (span_of constants h)
