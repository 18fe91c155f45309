-- `fuse`: a DO and the next one in its list become one (Allen and Kennedy, section 6.2.5; ParaScope).
use Rattle.std.specs.Prelude.{◌≡◌, ◌⊎◌, ℕ, ◌+◌, nat_le, nat_lt, List, filter, length, Bool, true, false, ◌&&◌, All, Option, Some, None}
use Rattle.ped_tree.specs.Tree.{Head, StmtTrees, ProgramTree}
use Rattle.ped_tree.specs.Numbering.{statements_count}
use Rattle.ped_rules.specs.Carried.{carried}
use Rattle.ped_rules.specs.Chains.{no_rules, also, WhereLoop}
use Rattle.ped_rules.specs.Rules.{WhereNoLoop, is_parallel, has_private, WhereUnplain, WhereLimit}
use Rattle.ped_rules.specs.Steps.{transformation, StepAt}
use Rattle.ped_rules.specs.ped_flow.specs.Questions.{LoopOf, IsFirst, IsBrokenBy, IsShown}
use Rattle.ped_rules.specs.ped_steps.specs.declared.rules.Rule.TheVariants.{NoLoop, ParallelState, HasPrivate, IndexEscapes, BoundNotPlain, NoNeighbour, Limit}
use Rattle.ped_rules.specs.ped_steps.specs.Causes.{Rules, Cause, rule, dependence, NoRule, IsFirstRule, IsFirstForbidding}
use Rattle.ped_refs.specs.References.{Reference, references, pairs}
use Rattle.ped_edges.specs.Edges.{Edge, rejected}
use Rattle.ped_rules.specs.ped_store.specs.Races.{Access}
use Rattle.ped_rules.specs.ped_loop_runs.specs.Carried.{IsCoveredAt}
use Rattle.ped_rules.specs.ped_graph.specs.Dependences.{EdgesOfPairs}
use Rattle.ped_splits.specs.Distributing.{IsItsBound}
use Rattle.ped_splits.specs.Neighbours.{Neighbour, AreAlike, fused, next_number, kept_without}
use Rattle.ped_splits.specs.OneVariable.{in_one, Cross}
use Rattle.ped_rules.specs.KeepMaps.{opened_at}

-- a DO comes next that is alike (ParaScope)
pub record Match (t : ProgramTree) (s : ℕ) : Type 0 where
  pub neighbour : Neighbour t s
  pub alike : AreAlike neighbour.own neighbour.next neighbour.next_body

-- what the step makes: the second DO goes, and the number of each statement after it decreases by one (ParaScope; this project)
abbrev pub MakesFused : (s : ℕ) → ProgramTree → ProgramTree → List (ℕ × ℕ) → Type 0
MakesFused s t new keep = (m : Match t s) × (new ≡ fused m.neighbour) × (keep ≡ kept_without (next_number m.neighbour) t)

-- a DO comes next whose head and body pass the test; the rule names the first one (this project)
abbrev pub WhereNext : ProgramTree → (s : ℕ) → (Head → StmtTrees → Bool) → ℕ → Type 0
WhereNext t s test n = (x : Neighbour t s) × (test x.next x.next_body ≡ true) × (n ≡ s)

-- the DO passes the test, or the one that comes next does (this project)
abbrev pub WhereEither : ProgramTree → (s : ℕ) → (Head → StmtTrees → Bool) → ℕ → Type 0
WhereEither t s test n = WhereLoop t s test n ⊎ WhereNext t s test n

-- by a read of the statement with number k the DO isn't contained, or the next one isn't, whether it is alike or not; or, where it is alike, the one DO that the two would become, which has the statement under its new number (this project)
abbrev pub IsBrokenInFusion : ProgramTree → (s : ℕ) → (k : ℕ) → Type 0
IsBrokenInFusion t s k =
    IsBrokenBy t s k
    ⊎ (((x : Neighbour t s) × IsBrokenBy t (next_number x) k)
    ⊎ ((m : Match t s) × (j : ℕ) × IsBrokenBy (fused m.neighbour) s j × (k ≡ opened_at (next_number m.neighbour) j)))

-- the program's end may show a variable of the DO, of the next one or of the one DO that the two would become (this project)
abbrev pub IsShownInFusion : ProgramTree → (s : ℕ) → Type 0
IsShownInFusion t s = IsShown t s ⊎ (((x : Neighbour t s) × IsShown t (next_number x)) ⊎ ((m : Match t s) × IsShown (fused m.neighbour) s))

-- rule 5 of `fuse`: one of the two DO loops, or the one that they would become, isn't contained; the rule names the first statement by whose read that is so, or the first DO, where none reads and the program's end may show a variable (this project)
abbrev pub WhereFusionEscapes : ProgramTree → (s : ℕ) → ℕ → Type 0
WhereFusionEscapes t s n =
    LoopOf t s × (IsFirst (IsBrokenInFusion t s) (Some n) ⊎ (IsFirst (IsBrokenInFusion t s) None × IsShownInFusion t s × (n ≡ s)))

-- rule 10: no DO comes next, or it isn't alike (ParaScope)
abbrev pub WhereNoMatch : ProgramTree → (s : ℕ) → ℕ → Type 0
WhereNoMatch t s n = LoopOf t s × (Match t s → ⊥) × (n ≡ s)

-- rule 15 of `fuse`, where a DO comes next that is alike (this project)
abbrev pub WhereFusedLimit : ProgramTree → (s : ℕ) → ℕ → Type 0
WhereFusedLimit t s n = Match t s × WhereLimit (MakesFused s) t s n

-- which rules forbid the step: the statement is no DO; it or the next DO is a PARALLEL DO, or has PRIVATE names; a variable of one of them, or of the one DO that they would become, or of a DO in it is read outside that DO, or SAVE alone may show it at the program's end; a bound of the DO isn't plain (that of the next one is equal); no DO comes next that is alike; the new program isn't valid (ParaScope; this project)
abbrev pub StandsAgainstFusion : (s : ℕ) → ProgramTree → Rules
StandsAgainstFusion s t =
    also NoLoop (WhereNoLoop t s)
    (also ParallelState (WhereEither t s is_parallel)
    (also HasPrivate (WhereEither t s has_private)
    (also IndexEscapes (WhereFusionEscapes t s)
    (also BoundNotPlain (WhereUnplain t s (IsItsBound t s))
    (also NoNeighbour (WhereNoMatch t s)
    (also Limit (WhereFusedLimit t s) no_rules))))))

-- in the new program the source of the pair is in what was the second body, and the sink in what was the first one (Allen and Kennedy, section 6.2.5)
abbrev pub goes_back : {t : ProgramTree} {s : ℕ} → Neighbour t s → Reference × Reference → Bool
goes_back {t} {s} x p =
    let m = next_number x in
    (nat_le m p.0.statement && nat_lt p.0.statement (m + statements_count x.next_body)) && (nat_lt s p.1.statement && nat_lt p.1.statement m)

-- these are the dependences of the new program that lead from the second body to the first one (Allen and Kennedy, section 6.2.5)
abbrev pub AreBack : {t : ProgramTree} {s : ℕ} → Neighbour t s → List Edge → Type 0
AreBack x edges = EdgesOfPairs (fused x) (filter (goes_back x) (pairs (references (fused x)))) edges

-- one of them forbids the step where the new DO carries it and the user hasn't rejected it: the sink would come before the source (Allen and Kennedy, section 6.2.5)
abbrev pub forbids_fusion : {t : ProgramTree} {s : ℕ} → Neighbour t s → Edge → Bool
forbids_fusion {t} {s} x e = carried (fused x) s e

-- a dependence of the new program with the numbers that its statements have in the present one (this project)
abbrev pub with_present_numbers : (m : ℕ) → Edge → Edge
with_present_numbers m e = record e { source = (opened_at m e.source.0, e.source.1); sink = (opened_at m e.sink.0, e.sink.1) }

-- the first cause that forbids the step: of the rules the one with the least number, and else the first dependence of the new program that forbids it, with the present numbers; none where there is neither (Allen and Kennedy, section 6.2.5; this project)
abbrev pub IsFusionCause : (s : ℕ) → ProgramTree → Option Cause → Type 0
IsFusionCause s t (Some (rule r n)) = IsFirstRule (StandsAgainstFusion s t) r n
IsFusionCause s t (Some (dependence e)) =
    NoRule (StandsAgainstFusion s t) × (m : Match t s) × (edges : List Edge) × AreBack m.neighbour edges
    × (f : Edge) × IsFirstForbidding (forbids_fusion m.neighbour) edges f × (e ≡ with_present_numbers (next_number m.neighbour) f)
IsFusionCause s t None =
    NoRule (StandsAgainstFusion s t) × ((m : Match t s) (edges : List Edge) → AreBack m.neighbour edges → All (λ e. forbids_fusion m.neighbour e ≡ false) edges)

-- no dependence of the program with the one DO that a C$PED REJECT line puts aside, and that leads from the second body to the first, covers what an iteration of the second DO does, in the run on these data, and a later iteration of the first (Allen and Kennedy, section 6.2.5; ParaScope; this project)
abbrev pub IsTrueFused : (s : ℕ) → ProgramTree → (data_bytes : List ℕ) → Type 0
IsTrueFused s t data_bytes =
    (m : Match t s) (edges : List Edge) → AreBack m.neighbour edges → (a b : Access) (x : Cross m.neighbour data_bytes a b)
    → (c : IsCoveredAt (fused m.neighbour) edges (Some (length x.round + 1)) (in_one m.neighbour a) b) → c.0.edge.mark ≡ rejected → ⊥

-- `fuse s`: the DO with this number and the next one after it become one (Allen and Kennedy, section 6.2.5; ParaScope)
abbrev pub fusing : ℕ → StepAt
fusing s = record {
  statement = s;
  kind = transformation;
  IsCause = IsFusionCause s;
  Makes = MakesFused s;
  IsTrueFor = IsTrueFused s;
}
