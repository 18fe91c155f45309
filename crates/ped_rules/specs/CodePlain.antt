-- The place of a bound, as the code has it. Only contracts of private functions use it (this project).
use Rattle.std.specs.Prelude.{◌≡◌, ℕ, ◌+◌, ◌<◌, ◌^◌, List, [], None}
use Rattle.ped_base.specs.Lists.{is_among}
use Rattle.ped_tree.specs.Tree.{ExprTree, ProgramTree}
use Rattle.ped_tree.specs.Views.{program_tree}
use Rattle.ped_tree.specs.Numbering.{statements_count}
use Rattle.ped_affine.specs.Arguments.{setting_of}
use Rattle.ped_affine.specs.PairViews.{heads_of}
use Rattle.ped_affine.specs.Ranges.{interval_of, around_with}
use Rattle.ped_refs.specs.Loops.{nest_of}
use Rattle.ped_loop_runs.specs.ped_flow.specs.PlainBounds.{Values, nest_round, setting_round}
use Rattle.ped_rules.specs.declared.bounds.Place.{Place}

-- the program in which the bound is
abbrev pub tree_at : Place → ProgramTree
tree_at p = program_tree p.flow.now.program.now

-- the named constants with their values
abbrev pub values_at : Place → Values
values_at p = p.setting.now.constants.now

-- the place has the DO loops around the DO, the variables of all DO loops, and what the outermost DO assigns
pub record IsPlaced (p : Place) : Type 0 where
  pub few : statements_count (tree_at p).body + 1 < 2 ^ 32
  pub round : nest_of p.round.now ≡ nest_round (tree_at p) p.number
  pub variables : (x : List ℕ) → is_among x p.setting.now.loop_variables.now ≡ is_among x (setting_round (values_at p) (tree_at p) p.number).loop_variables
  pub assigned : (x : List ℕ) → is_among x p.setting.now.assigned.now ≡ is_among x (setting_round (values_at p) (tree_at p) p.number).assigned

-- no part of the expression may leave 2^62 at this place
abbrev pub HasInterval : Place → ExprTree → Type 0
HasInterval p e = (interval_of (setting_of p.setting.now) (around_with (setting_of p.setting.now) [] (heads_of (nest_of p.round.now))) e ≡ None) → ⊥
