-- The rules by which steps are refused, with their numbers and names (ParaScope; this project).
use Rattle.std.specs.Prelude.{ℕ, List, codes}
use Rattle.ped_steps.specs.declared.rules.Rule.{Rule}
use Rattle.ped_steps.specs.declared.rules.Rule.TheVariants.{NoLoop, NotPerfect, ParallelState, HasPrivate, IndexEscapes, BoundNotPlain, BoundsShape, StepShape, Range, NoNeighbour, OneBlock, ExposedOrLive, NotScalar, NotConstant, Limit, BadFactor, AlreadyPrivate, NothingToReject, NotSum, NoCall}

-- the number of a rule (this project)
abbrev pub number_of : Rule → ℕ
number_of NoLoop = 1
number_of NotPerfect = 2
number_of ParallelState = 3
number_of HasPrivate = 4
number_of IndexEscapes = 5
number_of BoundNotPlain = 6
number_of BoundsShape = 7
number_of StepShape = 8
number_of Range = 9
number_of NoNeighbour = 10
number_of OneBlock = 11
number_of ExposedOrLive = 12
number_of NotScalar = 13
number_of NotConstant = 14
number_of Limit = 15
number_of BadFactor = 16
number_of AlreadyPrivate = 17
number_of NothingToReject = 18
number_of NotSum = 19
number_of NoCall = 20

-- the name of a rule (this project)
abbrev pub name_of : Rule → List ℕ
name_of NoLoop = codes "NoLoop"
name_of NotPerfect = codes "NotPerfect"
name_of ParallelState = codes "ParallelState"
name_of HasPrivate = codes "HasPrivate"
name_of IndexEscapes = codes "IndexEscapes"
name_of BoundNotPlain = codes "BoundNotPlain"
name_of BoundsShape = codes "BoundsShape"
name_of StepShape = codes "StepShape"
name_of Range = codes "Range"
name_of NoNeighbour = codes "NoNeighbour"
name_of OneBlock = codes "OneBlock"
name_of ExposedOrLive = codes "ExposedOrLive"
name_of NotScalar = codes "NotScalar"
name_of NotConstant = codes "NotConstant"
name_of Limit = codes "Limit"
name_of BadFactor = codes "BadFactor"
name_of AlreadyPrivate = codes "AlreadyPrivate"
name_of NothingToReject = codes "NothingToReject"
name_of NotSum = codes "NotSum"
name_of NoCall = codes "NoCall"
