-- The setting and the places that the code is called with, by those of the tree (this project).
use Rattle.std.specs.Prelude.{map}
use Rattle.ped_tree.specs.Views.{expr_tree}
use Rattle.ped_refs.specs.Loops.{nest_of}
use Rattle.ped_affine.specs.declared.settings.Setting.{Setting as CodeSetting}
use Rattle.ped_affine.specs.declared.settings.Place.{Place}
use Rattle.ped_affine.specs.Ranges.{Setting}
use Rattle.ped_affine.specs.PairViews.{Site}

-- the named constants, the variables of the DO loops of the program, and what the outermost DO assigns
abbrev pub setting_of : CodeSetting → Setting
setting_of s = record { constants = s.constants.now; loop_variables = s.loop_variables.now; assigned = s.assigned.now }

-- the loops around a reference, and its subscripts
abbrev pub site : Place → Site
site p = record { nest = nest_of p.nest.now; subscripts = map expr_tree p.subscripts.now }
