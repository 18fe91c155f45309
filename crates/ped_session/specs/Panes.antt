-- What a session prints of its present program (ParaScope; this project).
use Rattle.std.specs.Prelude.{◌≡◌, ℕ, List, [], ◌∷◌, ◌++◌, codes}
use Rattle.std.specs.Fmt.{decimal}
use Rattle.ped_tree.specs.Tree.{ProgramTree}
use Rattle.ped_tree.specs.SourcePane.{source_pane}
use Rattle.ped_transformations.specs.ped_graph.specs.DependencePane.{IsDependencePane}

-- the source pane of a program
abbrev pub IsSourcePane : ProgramTree → List ℕ → Type 0
IsSourcePane t pane = pane ≡ source_pane t

-- both panes of a program: the source pane, and after it the dependence pane
abbrev pub ArePanes : ProgramTree → List ℕ → Type 0
ArePanes t bytes = (pane : List ℕ) × IsDependencePane t pane × (bytes ≡ source_pane t ++ pane)

-- how many pairs of references were tested (this project)
abbrev pub tested_row : ℕ → List ℕ
tested_row n = codes "tested " ++ decimal n ++ 10 ∷ []
