-- Refusals of a text, and which of those found is the first (this project).
use Rattle.std.specs.Prelude.{◌≡◌, ◌⊎◌, codes, ℕ, List, [], ◌∷◌, Option, Some, None, Bool, ◌&&◌, ◌||◌, ◌==◌, nat_lt, if◌then◌else◌}

-- why a text isn't read
pub data Refusal : Type 0 where
  Tab : Refusal
  BadLabel : Refusal
  TooManyContinuations : Refusal
  ContinuationFirst : Refusal
  BadCharacter : Refusal
  OpenConstant : Refusal
  Syntax : Refusal
  NotInProfile : Refusal
  OpenBlock : Refusal
  BadTerminal : Refusal
  IndexAssigned : Refusal
  StopPlace : Refusal
  Limit : Refusal
  RealName : Refusal
  DeclaredTwice : Refusal
  NotConstant : Refusal
  RankDiffers : Refusal
  BoundsEmpty : Refusal
  StorageLimit : Refusal

-- the number of a refusal
abbrev pub number_of : Refusal → ℕ
number_of Tab = 1
number_of BadLabel = 2
number_of TooManyContinuations = 3
number_of ContinuationFirst = 4
number_of BadCharacter = 5
number_of OpenConstant = 6
number_of Syntax = 7
number_of NotInProfile = 8
number_of OpenBlock = 9
number_of BadTerminal = 10
number_of IndexAssigned = 11
number_of StopPlace = 12
number_of Limit = 13
number_of RealName = 14
number_of DeclaredTwice = 15
number_of NotConstant = 16
number_of RankDiffers = 17
number_of BoundsEmpty = 18
number_of StorageLimit = 19

-- the name of a refusal; the last one passes a limit, too, by what the program stores and refers to
abbrev pub name_of_refusal : Refusal → List ℕ
name_of_refusal Tab = codes "Tab"
name_of_refusal BadLabel = codes "BadLabel"
name_of_refusal TooManyContinuations = codes "TooManyContinuations"
name_of_refusal ContinuationFirst = codes "ContinuationFirst"
name_of_refusal BadCharacter = codes "BadCharacter"
name_of_refusal OpenConstant = codes "OpenConstant"
name_of_refusal Syntax = codes "Syntax"
name_of_refusal NotInProfile = codes "NotInProfile"
name_of_refusal OpenBlock = codes "OpenBlock"
name_of_refusal BadTerminal = codes "BadTerminal"
name_of_refusal IndexAssigned = codes "IndexAssigned"
name_of_refusal StopPlace = codes "StopPlace"
name_of_refusal Limit = codes "Limit"
name_of_refusal RealName = codes "RealName"
name_of_refusal DeclaredTwice = codes "DeclaredTwice"
name_of_refusal NotConstant = codes "NotConstant"
name_of_refusal RankDiffers = codes "RankDiffers"
name_of_refusal BoundsEmpty = codes "BoundsEmpty"
name_of_refusal StorageLimit = codes "Limit"

-- a refusal at a line
pub record Finding : Type 0 where
  pub refusal : Refusal
  pub line : ℕ

-- the refusal at this line, where its test holds
unfoldable pub refused_if : Bool → Refusal → ℕ → List Finding
refused_if test refusal line = if test then record { refusal = refusal; line = line } ∷ [] else []

-- comes before: the lesser line, and then the lesser number
unfoldable pub is_before : Finding → Finding → Bool
is_before r s = nat_lt r.line s.line || (r.line == s.line && nat_lt (number_of r.refusal) (number_of s.refusal))

-- the earlier one of what was found and r
unfoldable pub earlier : Option Finding → Finding → Option Finding
earlier None r = Some r
earlier (Some found) r = if is_before r found then Some r else Some found

-- the earliest one of what was found and these
abbrev pub earliest : Option Finding → List Finding → Option Finding
earliest found [] = found
earliest found (r ∷ rs) = earliest (earlier found r) rs

-- the first of these
abbrev pub first_of : List Finding → Option Finding
first_of findings = earliest None findings

-- one of these (plain words)
abbrev pub IsAmong : Finding → List Finding → Type 0
IsAmong r [] = ⊥
IsAmong r (s ∷ rs) = (r ≡ s) ⊎ IsAmong r rs
