-- What refusals of the code stand for (this project).
use Rattle.std.specs.Prelude.{Option, Some, None}
use Rattle.ped_tree.specs.Grammar.Refusal as plain
use Rattle.ped_tree.specs.Grammar.Refusal.{Refusal, Finding}
use Rattle.ped_tree.specs.declared.grammar.refusals.RefusalKind.{RefusalKind}
use Rattle.ped_tree.specs.declared.grammar.refusals.RefusalKind.TheVariants as kind
use Rattle.ped_tree.specs.declared.grammar.refusals.Refusal as declared

-- the refusal of a kind
abbrev pub kind_of : RefusalKind → Refusal
kind_of kind.Tab = plain.Tab
kind_of kind.BadLabel = plain.BadLabel
kind_of kind.TooManyContinuations = plain.TooManyContinuations
kind_of kind.ContinuationFirst = plain.ContinuationFirst
kind_of kind.BadCharacter = plain.BadCharacter
kind_of kind.OpenConstant = plain.OpenConstant
kind_of kind.Syntax = plain.Syntax
kind_of kind.NotInProfile = plain.NotInProfile
kind_of kind.OpenBlock = plain.OpenBlock
kind_of kind.BadTerminal = plain.BadTerminal
kind_of kind.IndexAssigned = plain.IndexAssigned
kind_of kind.StopPlace = plain.StopPlace
kind_of kind.Limit = plain.Limit
kind_of kind.RealName = plain.RealName
kind_of kind.DeclaredTwice = plain.DeclaredTwice
kind_of kind.NotConstant = plain.NotConstant
kind_of kind.RankDiffers = plain.RankDiffers
kind_of kind.BoundsEmpty = plain.BoundsEmpty
kind_of kind.StorageLimit = plain.StorageLimit

-- a refusal at its line
abbrev pub finding_of : declared.Refusal → Finding
finding_of r = record { refusal = kind_of r.kind; line = r.line }

-- a refusal at its line, where there is one
abbrev pub found_of : Option declared.Refusal → Option Finding
found_of None = None
found_of (Some r) = Some (finding_of r)
