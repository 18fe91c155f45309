-- The dependences of a program: for each pair of references its vectors, divided by the loop that carries them (Allen and Kennedy, section 2.2).
use Rattle.std.specs.Prelude.{◌≡◌, ℕ, suc, ℤ, List, [], ◌∷◌, ◌++◌, map, filter, length, Bool, true, false, ◌==◌, Option, Some, None, if◌then◌else◌}
use Rattle.std.specs.List.{flat_map, range_with_len}
use Rattle.ped_base.specs.Lists.{has_some}
use Rattle.ped_views.specs.declared.directions.Direction.{Direction}
use Rattle.ped_views.specs.declared.directions.Direction.TheVariants.{Before, Same, After}
use Rattle.ped_views.specs.Views.{View}
use Rattle.ped_views.specs.Vectors.{AreVectors, distance}
use Rattle.ped_tree.specs.Tree.{StmtTree, Do, ProgramTree}
use Rattle.ped_tree.specs.Numbering.{statement_with}
use Rattle.ped_symbols.specs.Kinds.{table_of}
use Rattle.ped_tree.specs.Names.Collecting.{with_names}
use Rattle.ped_refs.specs.References.{Reference, comes_before, outermost, references, pairs}
use Rattle.ped_affine.specs.Assigned.{assigned_in}
use Rattle.ped_tree.specs.NamesIn.{all_loop_variables}
use Rattle.ped_affine.specs.Ranges.{Setting}
use Rattle.ped_affine.specs.PairViews.{Site, view_at}
use Rattle.ped_graph.specs.Owners.{have_same_owner, owner_level, within_iteration}
use Rattle.ped_graph.specs.Guards.{guards}
use Rattle.ped_edges.specs.Edges.{Kind, flow, anti, output, Edge}
use Rattle.ped_graph.specs.Marks.{mark_of}

-- by the first sign other than `=`: carried by the loop at that level, independent where there is none, or from the sink to the source (Allen and Kennedy, section 2.2.5)
pub data Carriage : Type 0 where
  carried : ℕ → Carriage
  independent : Carriage
  backward : Carriage

-- the carriage of a vector whose first sign is of this level (Allen and Kennedy, section 2.2.5)
abbrev pub carriage_from : ℕ → List Direction → Carriage
carriage_from level [] = independent
carriage_from level (Before ∷ rest) = carried level
carriage_from level (Same ∷ rest) = carriage_from (suc level) rest
carriage_from level (After ∷ rest) = backward

-- carried by the loop at this level, None for independent (Allen and Kennedy, section 2.2.5)
abbrev pub is_of : Option ℕ → Carriage → Bool
is_of (Some level) (carried k) = k == level
is_of (Some level) independent = false
is_of (Some level) backward = false
is_of None (carried k) = false
is_of None independent = true
is_of None backward = false

-- the vectors of a level (Allen and Kennedy, section 2.2.5)
abbrev pub vectors_of : Option ℕ → List (List Direction) → List (List Direction)
vectors_of level vectors = filter (λ v. is_of level (carriage_from 1 v)) vectors

-- the kind by whether the source writes and whether the sink does (Allen and Kennedy, section 2.2.1)
abbrev pub kind_by : Bool → Bool → Kind
kind_by true true = output
kind_by true false = flow
kind_by false true = anti
kind_by false false = anti

-- the kind by who writes (Allen and Kennedy, section 2.2.1)
abbrev pub kind_of : Reference → Reference → Kind
kind_of source sink = kind_by source.access.writes sink.access.writes

-- the distance in each common loop (Allen and Kennedy, section 2.2.4)
abbrev pub distances_of : View → List (Option ℤ)
distances_of v = map (distance v) (range_with_len 0 (length v.loops))

-- the statement and the number of a reference (this project)
abbrev pub place_of : Reference → ℕ × ℕ
place_of r = (r.statement, r.number)

-- what edges depend on in addition to a pair of references and its view: the named constants with their values, and for each statement whether it is in an IF
pub record Facts : Type 0 where
  pub constants : List (List ℕ × ℤ)
  pub guards : List Bool

-- the dependence of a level with these vectors, where there are any (Allen and Kennedy, section 2.2.5)
abbrev pub edge_at : Facts → Reference → Reference → View → Option ℕ → List (List Direction) → List Edge
edge_at facts source sink v level vectors =
    if has_some vectors then (record {
      source = place_of source;
      sink = place_of sink;
      name = source.access.name;
      kind = kind_of source sink;
      level = level;
      vectors = vectors;
      distances = distances_of v;
      mark = mark_of facts.constants facts.guards source sink v level;
    }) ∷ [] else []

-- the dependence that is independent of loops: only from a source that comes before the sink (Allen and Kennedy, section 2.2.5)
abbrev pub independent_edge : Facts → Reference → Reference → View → List (List Direction) → List Edge
independent_edge facts source sink v vectors = if comes_before source sink then edge_at facts source sink v None (vectors_of None vectors) else []

-- the dependences of a pair with these vectors: carried by each common loop in turn, and then independent of loops (Allen and Kennedy, section 2.2.5; ParaScope)
abbrev pub divided : Facts → Reference → Reference → View → List (List Direction) → List Edge
divided facts source sink v vectors =
    flat_map (λ level. edge_at facts source sink v (Some level) (vectors_of (Some level) vectors)) (range_with_len 1 (length v.loops))
    ++ independent_edge facts source sink v vectors

-- the dependences of a pair whose view has these vectors: none where the references belong to different private copies (ParaScope; this project)
abbrev pub edges_by : Facts → Reference → Reference → View → List (List Direction) → List Edge
edges_by facts source sink v vectors =
    if have_same_owner source sink then divided facts source sink v (within_iteration (owner_level source) vectors) else []

-- what a DO assigns, where the statement is one
abbrev pub assigned_by : Option StmtTree → List (List ℕ)
assigned_by (Some (Do h body)) = assigned_in (Do h body)
assigned_by s = []

-- the setting of the references of a program in the DO with this number, the outermost around them; each of its names occurs once (this project)
abbrev pub setting_in : ProgramTree → ℕ → Setting
setting_in t number = record {
  constants = (table_of t).constants;
  loop_variables = with_names [] (all_loop_variables t.body);
  assigned = with_names [] (assigned_by (statement_with number t));
}

-- where a reference is
abbrev pub site_of : Reference → Site
site_of r = record { nest = r.nest; subscripts = r.access.subscripts }

-- the view of an ordered pair of references of a program (Allen and Kennedy, section 3.2)
abbrev pub view_of : ProgramTree → Reference → Reference → View
view_of t source sink = view_at (setting_in t (outermost source)) (site_of source) (site_of sink)

-- what edges of a program depend on beside pairs and views
abbrev pub facts_of : ProgramTree → Facts
facts_of t = record { constants = (table_of t).constants; guards = guards t }

-- these are the dependences of a pair of references of a program (Allen and Kennedy, section 3.2)
pub record PairEdges (t : ProgramTree) (source sink : Reference) (edges : List Edge) : Type 0 where
  pub vectors : List (List Direction)
  pub possible : AreVectors (view_of t source sink) vectors
  pub divided : edges ≡ edges_by (facts_of t) source sink (view_of t source sink) vectors

-- these are the dependences of the pairs, pair by pair (this project)
abbrev pub EdgesOfPairs : ProgramTree → List (Reference × Reference) → List Edge → Type 0
EdgesOfPairs t [] edges = edges ≡ []
EdgesOfPairs t (p ∷ ps) edges = (first : List Edge) × (rest : List Edge) × (edges ≡ first ++ rest) × PairEdges t p.0 p.1 first × EdgesOfPairs t ps rest

-- these are the dependences of the program, in the order of the pane (Allen and Kennedy, section 3.2; ParaScope)
abbrev pub AreEdges : ProgramTree → List Edge → Type 0
AreEdges t edges = EdgesOfPairs t (pairs (references t)) edges
