-- New statements in their place, as the code has it. Only contracts of private functions use it (this project).
use Rattle.std.specs.Prelude.{ℕ}
use Rattle.ped_tree.specs.Tree.{StmtTree, StmtTrees}
use Rattle.ped_tree.specs.Views.{stmt_trees}
use Rattle.ped_steps.specs.declared.replacing.Place.{Place}
use Rattle.ped_steps.specs.Replacing.{replaced, all_replaced}

-- a statement with this number, with the new ones in their place
abbrev pub placed : Place → StmtTree → ℕ → StmtTrees
placed place s n = replaced (λ t. stmt_trees place.new.now) place.number s n

-- statements, of which the first has this number, with the new ones in their place
abbrev pub all_placed : Place → StmtTrees → ℕ → StmtTrees
all_placed place ss n = all_replaced (λ t. stmt_trees place.new.now) place.number ss n
