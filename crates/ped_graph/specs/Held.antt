-- What a dependence graph holds of a program: for each pair of references its view and what else its dependences depend on, and how many statements are in each statement (this project).
use Rattle.std.specs.Prelude.{ℕ, List, [], ◌∷◌, ◌++◌, map, length, slice_index_or, ◌-◌, Bool, false, ◌&&◌, Option, Some, None, if◌then◌else◌}
use Rattle.std.specs.List.{flat_map, range_with_len}
use Rattle.ped_base.specs.Lists.{has_some}
use Rattle.ped_views.specs.declared.directions.Direction.{Direction}
use Rattle.ped_views.specs.Views.{View}
use Rattle.ped_tree.specs.Tree.{ProgramTree}
use Rattle.ped_tree.specs.Nests.{common_nest}
use Rattle.ped_tree.specs.Numbering.{all_numbered, statement_count}
use Rattle.ped_refs.specs.References.{Reference, comes_before, references, pairs}
use Rattle.ped_edges.specs.Edges.{Kind, Edge}
use Rattle.ped_graph.specs.Owners.{have_same_owner, owner_level, within_iteration}
use Rattle.ped_graph.specs.Marks.{mark_by, is_firm, is_telling, is_rejected}
use Rattle.ped_graph.specs.Dependences.{Facts, facts_of, kind_of, place_of, view_of, vectors_of, distances_of}

-- what is known of a pair of references without a test: where they are, the variable, the kind, whether the source comes first, the level of the DO whose private copies both mean (0 for none, None where they mean different ones), whether constants alone decide that both are reached, and for each level whether its loop rejects the variable
pub record Framed : Type 0 where
  pub source : ℕ × ℕ
  pub sink : ℕ × ℕ
  pub name : List ℕ
  pub kind : Kind
  pub is_forward : Bool
  pub owner : Option ℕ
  pub firm : Bool
  pub rejecting : List Bool

-- what is held of a pair of references: the same, with whether the dependence is proven, and the view
pub record Pair : Type 0 where
  pub source : ℕ × ℕ
  pub sink : ℕ × ℕ
  pub name : List ℕ
  pub kind : Kind
  pub is_forward : Bool
  pub owner : Option ℕ
  pub proven : Bool
  pub rejecting : List Bool
  pub view : View

-- the level of the DO whose private copies both references mean
abbrev pub common_owner : Reference → Reference → Option ℕ
common_owner source sink = if have_same_owner source sink then Some (owner_level source) else None

-- for each of the six levels that there may be, whether its loop rejects the variable
abbrev pub rejecting_levels : Reference → Reference → List Bool
rejecting_levels source sink = map (λ level. is_rejected source.access.name (common_nest source.nest sink.nest) (Some level)) (range_with_len 1 6)

-- what is known of a pair without a test
abbrev pub framed : Facts → Reference → Reference → Framed
framed facts source sink = record {
  source = place_of source;
  sink = place_of sink;
  name = source.access.name;
  kind = kind_of source sink;
  is_forward = comes_before source sink;
  owner = common_owner source sink;
  firm = is_firm facts.constants facts.guards source && is_firm facts.constants facts.guards sink;
  rejecting = rejecting_levels source sink;
}

-- what is held of a pair of which this is known, with this view: its dependences are proven where constants alone decide that both references are reached and the tests of the view prove them
abbrev pub pair_by : Framed → View → Pair
pair_by f v = record {
  source = f.source;
  sink = f.sink;
  name = f.name;
  kind = f.kind;
  is_forward = f.is_forward;
  owner = f.owner;
  proven = f.firm && is_telling v;
  rejecting = f.rejecting;
  view = v;
}

-- what is held of a pair with this view
abbrev pub pair_with : Facts → Reference → Reference → View → Pair
pair_with facts source sink v = pair_by (framed facts source sink) v

-- what is held of a pair of references of a program
abbrev pub pair_of : ProgramTree → Reference × Reference → Pair
pair_of t p = pair_with (facts_of t) p.0 p.1 (view_of t p.0 p.1)

-- what is known of a program without a test: its pairs, and how many statements are in each statement
pub record HeldFrame : Type 0 where
  pub pairs : List Framed
  pub extents : List ℕ

-- what a graph holds: what is known without a test, and for each pair the view that was tested
pub record Held : Type 0 where
  pub frame : HeldFrame
  pub views : List View

-- what is known of a program without a test, by its pairs in the order of the pane and by its statements
abbrev pub frame_of : ProgramTree → HeldFrame
frame_of t = record { pairs = map (λ p. framed (facts_of t) p.0 p.1) (pairs (references t)); extents = map statement_count (all_numbered t.body) }

-- the views of the pairs of a program, in the order of the pane
abbrev pub views_of : ProgramTree → List View
views_of t = map (λ p. view_of t p.0 p.1) (pairs (references t))

-- what the graph of a program holds
abbrev pub held_of : ProgramTree → Held
held_of t = record { frame = frame_of t; views = views_of t }

-- pairs with their views, side by side
abbrev pub pairs_by : List Framed → List View → List Pair
pairs_by (f ∷ fs) (v ∷ vs) = pair_by f v ∷ pairs_by fs vs
pairs_by [] vs = []
pairs_by (f ∷ fs) [] = []

-- the pairs that a graph holds
abbrev pub held_pairs : Held → List Pair
held_pairs h = pairs_by h.frame.pairs h.views

-- the loop at this level rejects the variable; none where the dependence is independent of loops
abbrev pub rejects_at : List Bool → Option ℕ → Bool
rejects_at rejecting None = false
rejects_at rejecting (Some level) = slice_index_or rejecting (level - 1) false

-- the dependence of a level with these vectors, where there are any
abbrev pub held_edge : Pair → Option ℕ → List (List Direction) → List Edge
held_edge p level vectors =
    if has_some vectors then (record {
      source = p.source;
      sink = p.sink;
      name = p.name;
      kind = p.kind;
      level = level;
      vectors = vectors;
      distances = distances_of p.view;
      mark = mark_by p.proven (rejects_at p.rejecting level);
    }) ∷ [] else []

-- the dependences of a pair with these vectors
abbrev pub held_divided : Pair → List (List Direction) → List Edge
held_divided p vectors =
    flat_map (λ level. held_edge p (Some level) (vectors_of (Some level) vectors)) (range_with_len 1 (length p.view.loops))
    ++ (if p.is_forward then held_edge p None (vectors_of None vectors) else [])

-- the dependences of a pair by its owner
abbrev pub held_by : Option ℕ → Pair → List (List Direction) → List Edge
held_by None p vectors = []
held_by (Some level) p vectors = held_divided p (within_iteration level vectors)

-- the dependences of a pair whose view has these vectors
abbrev pub held_edges : Pair → List (List Direction) → List Edge
held_edges p vectors = held_by p.owner p vectors
