-- The dependence pane of a program: a row for each dependence (ParaScope; this project).
use Rattle.std.specs.Prelude.{◌≡◌, ℕ, ◌+◌, List, filter, nat_le, nat_lt, Bool, false, ◌&&◌, ◌||◌, ◌==◌, Option, Some, None}
use Rattle.ped_tree.specs.Tree.{StmtTree, ProgramTree}
use Rattle.ped_tree.specs.Numbering.{statement_with, statement_count}
use Rattle.ped_edges.specs.Edges.{Edge}
use Rattle.ped_edges.specs.Rows.{edges_pane}
use Rattle.ped_graph.specs.Dependences.{AreEdges}

-- the dependence pane of a program
abbrev pub IsDependencePane : ProgramTree → List ℕ → Type 0
IsDependencePane t pane = (edges : List Edge) × AreEdges t edges × (pane ≡ edges_pane edges)

-- how many numbered statements are in a statement, itself among them; none where it isn't there
abbrev pub extent_by : Option StmtTree → ℕ
extent_by (Some s) = statement_count s
extent_by None = 0

-- how many numbered statements the statement with this number has, itself and those in it (this project)
abbrev pub extent_of : ProgramTree → ℕ → ℕ
extent_of t number = extent_by (statement_with number t)

-- the second statement is the first or is in it, where the first has this many statements
abbrev pub is_in : ℕ → ℕ → ℕ → Bool
is_in number extent other = nat_le number other && nat_lt other (number + extent)

-- the dependences whose source or sink is a statement, or is in it (this project)
abbrev pub edges_of : ProgramTree → ℕ → List Edge → List Edge
edges_of t number edges = filter (λ e. is_in number (extent_of t number) e.source.0 || is_in number (extent_of t number) e.sink.0) edges

-- the same level of a loop
abbrev pub is_level : ℕ → Option ℕ → Bool
is_level level None = false
is_level level (Some k) = k == level

-- a statement is in the body of the DO with this number, which has this many statements
abbrev pub is_in_body : ℕ → ℕ → ℕ → Bool
is_in_body number extent other = nat_lt number other && nat_lt other (number + extent)

-- the dependences of a level with both references in the body of a DO (Allen and Kennedy, section 2.2.5; this project)
abbrev pub edges_at : ProgramTree → ℕ → ℕ → List Edge → List Edge
edges_at t number level edges = filter (λ e. is_level level e.level && (is_in_body number (extent_of t number) e.source.0 && is_in_body number (extent_of t number) e.sink.0)) edges

-- the dependence pane of a program with the rows of one statement alone; its first line has their number (this project)
abbrev pub IsDependencePaneOf : ProgramTree → Option ℕ → List ℕ → Type 0
IsDependencePaneOf t None pane = IsDependencePane t pane
IsDependencePaneOf t (Some number) pane = (edges : List Edge) × AreEdges t edges × (pane ≡ edges_pane (edges_of t number edges))
