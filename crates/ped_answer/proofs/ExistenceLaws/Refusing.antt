-- Each finding is that of a refusal as the code has it.
use Rattle.std.proofs.Common.{◌≡◌, refl}
use Rattle.ped_tree.specs.Grammar.Refusal as plain
use Rattle.ped_tree.specs.Grammar.Refusal.{Refusal, Finding}
use Rattle.ped_tree.specs.declared.grammar.refusals.RefusalKind.{RefusalKind}
use Rattle.ped_tree.specs.declared.grammar.refusals.RefusalKind.TheVariants as kind
use Rattle.ped_tree.specs.declared.grammar.refusals.Refusal as declared
use Rattle.ped_tree.specs.Grammar.RefusalViews.{kind_of, finding_of}

kind_for : (r : Refusal) → (k : RefusalKind) × (kind_of k ≡ r)
kind_for plain.Tab = (kind.Tab, refl)
kind_for plain.BadLabel = (kind.BadLabel, refl)
kind_for plain.TooManyContinuations = (kind.TooManyContinuations, refl)
kind_for plain.ContinuationFirst = (kind.ContinuationFirst, refl)
kind_for plain.BadCharacter = (kind.BadCharacter, refl)
kind_for plain.OpenConstant = (kind.OpenConstant, refl)
kind_for plain.Syntax = (kind.Syntax, refl)
kind_for plain.NotInProfile = (kind.NotInProfile, refl)
kind_for plain.OpenBlock = (kind.OpenBlock, refl)
kind_for plain.BadTerminal = (kind.BadTerminal, refl)
kind_for plain.IndexAssigned = (kind.IndexAssigned, refl)
kind_for plain.StopPlace = (kind.StopPlace, refl)
kind_for plain.Limit = (kind.Limit, refl)
kind_for plain.RealName = (kind.RealName, refl)
kind_for plain.DeclaredTwice = (kind.DeclaredTwice, refl)
kind_for plain.NotConstant = (kind.NotConstant, refl)
kind_for plain.RankDiffers = (kind.RankDiffers, refl)
kind_for plain.BoundsEmpty = (kind.BoundsEmpty, refl)
kind_for plain.StorageLimit = (kind.StorageLimit, refl)

pub refusal_for : (f : Finding) → (why : declared.Refusal) × (finding_of why ≡ f)
refusal_for f = let k = kind_for f.refusal in (record { kind = k.0; line = f.line }, λ i. record { refusal = k.1 i; line = f.line })
