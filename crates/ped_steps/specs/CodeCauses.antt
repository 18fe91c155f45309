-- The causes that the code keeps (this project).
use Rattle.ped_edges.specs.CodeEdges.{edge_of, HasAtMostSixLoops}
use Rattle.ped_steps.specs.declared.causes.Refused.{Refused}
use Rattle.ped_steps.specs.declared.causes.Refused.TheVariants as variant
use Rattle.ped_steps.specs.Causes.{Cause, rule, dependence}

-- the cause for which a step is refused (this project)
abbrev pub cause_of : Refused → Cause
cause_of (variant.Rule r n) = rule r n
cause_of (variant.Dependence e) = dependence (edge_of e)

-- a dependence among causes is in at most six loops (this project)
abbrev pub IsShort : Refused → Type 0
IsShort (variant.Rule r n) = Unit {0}
IsShort (variant.Dependence e) = HasAtMostSixLoops e
