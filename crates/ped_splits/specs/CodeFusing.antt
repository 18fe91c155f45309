-- How the code of `fuse` keeps what it asks of two DO loops and of the one that they would become. Only contracts of private functions and lemmas use it (this project).
use Rattle.std.specs.Prelude.{◌≡◌, ◌<◌, ◌⊎◌, ℕ, ◌+◌, nat_le, nat_lt, List, filter, Bool, true, false, not, ◌&&◌, All, Option, Some, None, if◌then◌else◌}
use Rattle.ped_tree.specs.Tree.{Head, ProgramTree}
use Rattle.ped_tree.specs.Numbering.{statements_count}
use Rattle.ped_tree.specs.Views.{stmt_trees, head_of}
use Rattle.ped_rules.specs.ped_steps.specs.Causes.{IsFirstForbidding}
use Rattle.ped_rules.specs.ped_flow.specs.PlainBounds.{IsPlain}
use Rattle.ped_rules.specs.ped_flow.specs.Questions.{IsFirst, IsBrokenBy, IsShown}
use Rattle.ped_rules.specs.ped_flow.specs.declared.flows.Reader.{Reader}
use Rattle.ped_rules.specs.ped_flow.specs.declared.flows.Reader.TheVariants.{Statement, Saved}
use Rattle.ped_rules.specs.ped_symbols.specs.Kinds.{table_of}
use Rattle.ped_rules.specs.ped_graph.specs.DependencePane.{is_level}
use Rattle.ped_rules.specs.ped_graph.specs.Dependences.{EdgesOfPairs}
use Rattle.ped_rules.specs.ped_graph.specs.declared.frames.PairKey.{PairKey}
use Rattle.ped_edges.specs.CodeEdges.{edge_of, HasAtMostSixLoops}
use Rattle.ped_edges.specs.Edges.{Edge, is_rejected}
use Rattle.ped_edges.specs.declared.edges.Edge.{Edge as CodeEdge}
use Rattle.ped_refs.specs.References.{Reference}
use Rattle.ped_splits.specs.declared.neighbours.Pair.{Pair}
use Rattle.ped_splits.specs.declared.returning.Bodies.{Bodies}
use Rattle.ped_rules.specs.KeepMaps.{opened_at}
use Rattle.ped_splits.specs.Fusing.{with_present_numbers}

-- the source of the pair is in the second body, and the sink in the first one
abbrev pub is_back : Bodies → Reference × Reference → Bool
is_back b p = (nat_le b.second p.0.statement && nat_lt p.0.statement b.behind) && (nat_lt b.number p.1.statement && nat_lt p.1.statement b.second)

-- where the code keeps the two bodies of a pair in the new program
abbrev pub bodies_of : Pair → ℕ → Bodies
bodies_of p level = record {
  number = p.number;
  second = p.number + 1 + statements_count (stmt_trees p.own.now.body.items);
  behind = p.number + 1 + statements_count (stmt_trees p.own.now.body.items) + statements_count (stmt_trees p.next.now.body.items);
  level = level;
}

-- the same of the key of a pair
abbrev pub key_is_back : Bodies → PairKey → Bool
key_is_back b k = (nat_le b.second k.source.0 && nat_lt k.source.0 b.behind) && (nat_le (b.number + 1) k.sink.0 && nat_lt k.sink.0 b.second)

-- a dependence is before the end of the bodies
pub record StandsInside (b : Bodies) (e : CodeEdge) : Type 0 where
  pub source : e.source.0 < b.behind
  pub sink : e.sink.0 < b.second

-- the DO of this level carries the dependence, and the user hasn't rejected it
abbrev pub forbids_at : ℕ → Edge → Bool
forbids_at level e = is_level level e.level && not (is_rejected e.mark)

-- of these dependences this is the first that forbids, with the present numbers; none where none forbids
abbrev pub IsFirstAmong : Bodies → List Edge → Option CodeEdge → Type 0
IsFirstAmong b edges None = All (λ e. forbids_at b.level e ≡ false) edges
IsFirstAmong b edges (Some f) = (e : Edge) × IsFirstForbidding (forbids_at b.level) edges e × (edge_of f ≡ with_present_numbers b.second e) × HasAtMostSixLoops f

-- the same of the dependences of those of these pairs that go back
abbrev pub IsFirstBack : ProgramTree → Bodies → List (Reference × Reference) → Option CodeEdge → Type 0
IsFirstBack u b ps None = (edges : List Edge) → EdgesOfPairs u (filter (is_back b) ps) edges → IsFirstAmong b edges None
IsFirstBack u b ps (Some f) = (edges : List Edge) × EdgesOfPairs u (filter (is_back b) ps) edges × IsFirstAmong b edges (Some f)

-- of those that break what is asked this is the first; or none does, and the program's end may show something
abbrev pub IsReaderOf : (ℕ → Type 0) → Type 0 → Option Reader → Type 0
IsReaderOf Broken Shown None = IsFirst Broken None × (Shown → ⊥)
IsReaderOf Broken Shown (Some (Statement n)) = IsFirst Broken (Some n)
IsReaderOf Broken Shown (Some Saved) = IsFirst Broken None × Shown

-- the statement with number k, or the one that this reader is, where that comes before it
abbrev pub before : ℕ → Option Reader → ℕ
before k None = k
before k (Some Saved) = k
before k (Some (Statement n)) = if nat_lt k n then k else n

-- of two readers the earlier statement; where neither is a statement, the program's end
abbrev pub earlier : Option Reader → Option Reader → Option Reader
earlier None other = other
earlier (Some Saved) None = Some Saved
earlier (Some Saved) (Some reader) = Some reader
earlier (Some (Statement k)) other = Some (Statement (before k other))

-- by a read of the statement with this number one of the DO loops with these numbers isn't contained
abbrev pub IsBrokenInTwo : ProgramTree → (s m k : ℕ) → Type 0
IsBrokenInTwo t s m k = IsBrokenBy t s k ⊎ IsBrokenBy t m k

-- the program's end may show a variable of one of these DO loops
abbrev pub IsShownInTwo : ProgramTree → (s m : ℕ) → Type 0
IsShownInTwo t s m = IsShown t s ⊎ IsShown t m

-- by a read of the statement that has this number before the step the DO of the new program isn't contained
abbrev pub IsBrokenInNew : ProgramTree → (s m k : ℕ) → Type 0
IsBrokenInNew u s m k = (j : ℕ) × IsBrokenBy u s j × (k ≡ opened_at m j)

-- the statement that the rule names, where this reads: the one that does, or else the DO with number s
abbrev pub named_by : (s : ℕ) → Option Reader → Option ℕ
named_by s None = None
named_by s (Some (Statement n)) = Some n
named_by s (Some Saved) = Some s

-- the bounds of the DO are plain
pub record HasPlainBounds (t : ProgramTree) (s : ℕ) (h : Head) : Type 0 where
  pub first : IsPlain (table_of t).constants t s h.first
  pub last : IsPlain (table_of t).constants t s h.last
