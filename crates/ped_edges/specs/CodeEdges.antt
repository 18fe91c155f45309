-- The dependences that the code keeps, and what they stand for (Allen and Kennedy, section 2.2; ParaScope).
use Rattle.std.specs.Prelude.{◌≤◌, length}
use Rattle.ped_refs.specs.Occurrences.{name_text}
use Rattle.ped_edges.specs.Edges as plain
use Rattle.ped_edges.specs.declared.edges.Kind.{Kind}
use Rattle.ped_edges.specs.declared.edges.Kind.TheVariants.{Flow, Anti, Output}
use Rattle.ped_edges.specs.declared.edges.Mark.{Mark}
use Rattle.ped_edges.specs.declared.edges.Mark.TheVariants.{Proven, Pending, Rejected}
use Rattle.ped_edges.specs.declared.edges.Edge.{Edge}
use Rattle.ped_edges.specs.declared.edges.ShownEdge.{ShownEdge}

-- the kind as the definitions have it (Allen and Kennedy, section 2.2.1)
abbrev pub kind_of : Kind → plain.Kind
kind_of Flow = plain.flow
kind_of Anti = plain.anti
kind_of Output = plain.output

-- the mark as the definitions have it (ParaScope)
abbrev pub mark_of : Mark → plain.Mark
mark_of Proven = plain.proven
mark_of Pending = plain.pending
mark_of Rejected = plain.rejected

-- the dependence as the definitions have it (Allen and Kennedy, section 2.2; ParaScope)
abbrev pub edge_of : Edge → plain.Edge
edge_of e = record {
  source = e.source;
  sink = e.sink;
  name = name_text e.name;
  kind = kind_of e.kind;
  level = e.level;
  vectors = e.vectors.items;
  distances = e.distances.items;
  mark = mark_of e.mark;
}

-- the dependence of which the code lends the parts, as the definitions have it (Allen and Kennedy, section 2.2; ParaScope)
abbrev pub edge_shown : ShownEdge → plain.Edge
edge_shown e = record {
  source = e.source;
  sink = e.sink;
  name = name_text e.name.now;
  kind = kind_of e.kind;
  level = e.level;
  vectors = e.vectors.now;
  distances = e.distances.now;
  mark = mark_of e.mark;
}

-- at most six loops enclose both references (this project)
abbrev pub HasAtMostSixLoops : Edge → Type 0
HasAtMostSixLoops e = length e.distances.items ≤ 6
