-- What the dependences that a DO carries are on: the names that `privatise` and `reduce` may take away (Allen and Kennedy, sections 2.2.5, 5.2; ParaScope).
use Rattle.std.specs.Prelude.{◌≡◌, ℕ, List, [], ◌++◌, map, filter, length, codes, nat_le, Bool, not, ◌&&◌, ◌||◌}
use Rattle.std.specs.List.{list_all}
use Rattle.ped_base.specs.Lists.{has_some, is_same_text}
use Rattle.ped_rules.specs.ped_flow.specs.ped_tree.specs.Tree.{ProgramTree}
use Rattle.ped_rules.specs.ped_flow.specs.ped_tree.specs.Names.Collecting.{with_names}
use Rattle.ped_rules.specs.ped_edges.specs.Edges.{Edge}
use Rattle.ped_rules.specs.ped_graph.specs.Dependences.{AreEdges}
use Rattle.ped_rules.specs.Carried.{carried}
use Rattle.ped_rules.specs.Scalars.{is_scalar}

-- the data lines or the output, which no variable names (this project)
abbrev pub is_file : List ℕ → Bool
is_file x = is_same_text x (codes "(IN)") || is_same_text x (codes "(OUT)")

-- the names with the data lines and the output after the others
abbrev pub files_last : List (List ℕ) → List (List ℕ)
files_last names = filter (λ x. not (is_file x)) names ++ filter is_file names

-- the names of those dependences that the DO with this number carries and the user hasn't rejected, each once, in the order of the pane, the data lines and the output last (Allen and Kennedy, section 2.2.5; ParaScope)
abbrev pub carried_names : ProgramTree → ℕ → List Edge → List (List ℕ)
carried_names t number edges = files_last (with_names [] (map (λ e. e.name) (filter (carried t number) edges)))

-- these are the names for a program
abbrev pub AreCarried : ProgramTree → ℕ → List (List ℕ) → Type 0
AreCarried t number names = (edges : List Edge) × AreEdges t edges × (names ≡ carried_names t number edges)

-- the name is that of a scalar variable of the program
abbrev pub is_scalar_name : ProgramTree → List ℕ → Bool
is_scalar_name t x = not (is_file x) && is_scalar t x

-- there is a name, and all are those of scalar variables
abbrev pub are_scalars : ProgramTree → List (List ℕ) → Bool
are_scalars t names = has_some names && list_all (is_scalar_name t) names

-- one to eight names, all of them those of scalar variables: as many as `reduce` takes (this project)
abbrev pub are_few_scalars : ProgramTree → List (List ℕ) → Bool
are_few_scalars t names = are_scalars t names && nat_le (length names) 8
