-- Only contracts of private functions use which statements are there and how dependences are selected, by what a graph holds of statements (this project).
use Rattle.std.specs.Prelude.{ℕ, ◌-◌, List, length, slice_index_or, nat_lt, Bool, true, false, ◌&&◌, ◌||◌, ◌==◌, if◌then◌else◌}
use Rattle.ped_edges.specs.Edges.{Edge}
use Rattle.ped_graph.specs.declared.selections.Question.{Question}
use Rattle.ped_graph.specs.declared.selections.Question.TheVariants.{All, Touching, Within}
use Rattle.ped_graph.specs.DependencePane.{is_in, is_level, is_in_body}

-- how many numbered statements the statement with this number has, where these are the numbers of all statements; 0 where it isn't there (this project)
abbrev pub extent_held : List ℕ → ℕ → ℕ
extent_held extents number = if number == 0 then 0 else slice_index_or extents (number - 1) 0

-- a statement has this number, where these are the numbers of all statements: statements count from 1 (this project)
abbrev pub has_number : List ℕ → ℕ → Bool
has_number extents number = if number == 0 then false else nat_lt (number - 1) (length extents)

-- the source or the sink is the statement with this number, which has this many statements, or is in it (this project)
abbrev pub touches : ℕ → ℕ → Edge → Bool
touches number extent e = is_in number extent e.source.0 || is_in number extent e.sink.0

-- both references are in the body of the DO with this number, which has this many statements (this project)
abbrev pub stands_in : ℕ → ℕ → Edge → Bool
stands_in number extent e = is_in_body number extent e.source.0 && is_in_body number extent e.sink.0

-- the dependence may be asked for
abbrev pub asks : Question → Edge → Bool
asks All e = true
asks (Touching s) e = touches s.number s.extent e
asks (Within s) e = stands_in s.number s.extent e

-- the dependence is of the level, with both references in the body of the DO with this number, which has this many statements (Allen and Kennedy, section 2.2.5; this project)
abbrev pub is_carried_in : ℕ → ℕ → ℕ → Edge → Bool
is_carried_in number extent level e = is_level level e.level && stands_in number extent e
