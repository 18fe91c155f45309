-- Refusals of the code that stand for one finding are one refusal.
use Rattle.std.proofs.Common.{◌≡◌, refl, sym, ap, ◌∙◌}
use Rattle.ped_tree.specs.Grammar.Refusal as plain
use Rattle.ped_tree.specs.Grammar.Refusal.{Refusal, Finding}
use Rattle.ped_tree.specs.declared.grammar.refusals.RefusalKind.{RefusalKind}
use Rattle.ped_tree.specs.declared.grammar.refusals.RefusalKind.TheVariants as kind
use Rattle.ped_tree.specs.declared.grammar.refusals.Refusal as declared
use Rattle.ped_tree.specs.Grammar.RefusalViews.{kind_of, finding_of}

-- the kind of a refusal
abbrev back : Refusal → RefusalKind
back plain.Tab = kind.Tab
back plain.BadLabel = kind.BadLabel
back plain.TooManyContinuations = kind.TooManyContinuations
back plain.ContinuationFirst = kind.ContinuationFirst
back plain.BadCharacter = kind.BadCharacter
back plain.OpenConstant = kind.OpenConstant
back plain.Syntax = kind.Syntax
back plain.NotInProfile = kind.NotInProfile
back plain.OpenBlock = kind.OpenBlock
back plain.BadTerminal = kind.BadTerminal
back plain.IndexAssigned = kind.IndexAssigned
back plain.StopPlace = kind.StopPlace
back plain.Limit = kind.Limit
back plain.RealName = kind.RealName
back plain.DeclaredTwice = kind.DeclaredTwice
back plain.NotConstant = kind.NotConstant
back plain.RankDiffers = kind.RankDiffers
back plain.BoundsEmpty = kind.BoundsEmpty
back plain.StorageLimit = kind.StorageLimit

-- it is the kind that the refusal came from
back_again : (k : RefusalKind) → back (kind_of k) ≡ k
back_again kind.Tab = refl
back_again kind.BadLabel = refl
back_again kind.TooManyContinuations = refl
back_again kind.ContinuationFirst = refl
back_again kind.BadCharacter = refl
back_again kind.OpenConstant = refl
back_again kind.Syntax = refl
back_again kind.NotInProfile = refl
back_again kind.OpenBlock = refl
back_again kind.BadTerminal = refl
back_again kind.IndexAssigned = refl
back_again kind.StopPlace = refl
back_again kind.Limit = refl
back_again kind.RealName = refl
back_again kind.DeclaredTwice = refl
back_again kind.NotConstant = refl
back_again kind.RankDiffers = refl
back_again kind.BoundsEmpty = refl
back_again kind.StorageLimit = refl

-- one refusal has one kind
one_kind : (a b : RefusalKind) → kind_of a ≡ kind_of b → a ≡ b
one_kind a b e = sym (back_again a) ∙ ap back e ∙ back_again b

-- one finding is that of one refusal
pub one_found : (r s : declared.Refusal) → finding_of r ≡ finding_of s → r ≡ s
one_found r s e =
    let kinds = one_kind r.kind s.kind (ap (λ (f : Finding). f.refusal) e) in
    let lines = ap (λ (f : Finding). f.line) e in
    λ i. record { kind = kinds i; line = lines i }
