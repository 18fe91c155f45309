-- What the code keeps of a pair of references: what is known without a test, its view, and its verdict (this project).
use Rattle.std.specs.Prelude.{◌≡◌, List, [], ◌∷◌, map, length, Option, Some, None}
use Rattle.ped_views.specs.Views.{View}
use Rattle.ped_refs.specs.Occurrences.{name_text}
use Rattle.ped_edges.specs.CodeEdges.{kind_of}
use Rattle.ped_graph.specs.Held.{Framed, HeldFrame, Pair, pair_by}
use Rattle.ped_graph.specs.declared.facts.Facts.{Facts as CodeFacts}
use Rattle.ped_graph.specs.declared.edges.SeenPair.{SeenPair}

-- what the code knows of a pair without a test
abbrev pub framed_of : CodeFacts → Framed
framed_of f = record {
  source = f.source;
  sink = f.sink;
  name = name_text f.name;
  kind = kind_of f.kind;
  is_forward = f.is_forward;
  owner = f.owner;
  firm = f.firm;
  rejecting = f.rejecting;
}

-- the pair with its view
abbrev pub pair_seen : SeenPair → Pair
pair_seen p = pair_by (framed_of p.facts.now) p.view.now

-- the verdicts that are there, by their views
abbrev pub views_in : List (Option View) → List View
views_in [] = []
views_in (Some v ∷ slots) = v ∷ views_in slots
views_in (None ∷ slots) = views_in slots

-- each verdict is there, one for each pair
pub record AreWhole (frame : HeldFrame) (slots : List (Option View)) : Type 0 where
  pub there : slots ≡ map Some (views_in slots)
  pub paired : length slots ≡ length frame.pairs
