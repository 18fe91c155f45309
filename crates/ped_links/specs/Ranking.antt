-- Ranks that rise along arrows. Only contracts of private functions use it.
use Rattle.std.specs.Prelude.{◌<◌, ℕ, List, [], ◌∷◌, get_or}
use Rattle.ped_links.specs.Reaching.{Leads}

-- the rank of a number; 0 where it has none
abbrev pub rank_of : List ℕ → ℕ → ℕ
rank_of ranks n = get_or ranks n 0

-- the first number has a lesser rank than the second, where this has a rank
abbrev pub RisesTo : List ℕ → ℕ → ℕ → Type 0
RisesTo ranks i j = 0 < rank_of ranks j → (0 < rank_of ranks i) × (rank_of ranks i < rank_of ranks j)

-- each arrow that ends at a number with a rank begins at one with a lesser rank
abbrev pub Rise : List (List ℕ) → List ℕ → Type 0
Rise ends ranks = (i j : ℕ) → Leads ends i j → RisesTo ranks i j

-- the same of the arrows from one number to these
abbrev pub RiseFrom : List ℕ → ℕ → List ℕ → Type 0
RiseFrom ranks i [] = Unit {0}
RiseFrom ranks i (j ∷ js) = RisesTo ranks i j × RiseFrom ranks i js
