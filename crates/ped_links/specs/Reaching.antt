-- What arrows between numbers lead to. Only contracts of private functions use it.
use Rattle.std.specs.Prelude.{◌≡◌, ◌<◌, ◌+◌, ◌⊎◌, ℕ, List, [], ◌∷◌, length, get_or, map, Bool, false, true, Option, Some, None}
use Rattle.std.specs.Global.{Vec}
use Rattle.ped_units.specs.Linking.{IsIn}

-- for each number the numbers that arrows lead to from it
abbrev pub ends_in : List (Vec ℕ) → List (List ℕ)
ends_in ends = map (λ (v : Vec ℕ). v.items) ends

-- an arrow leads from one number to another
abbrev pub Leads : List (List ℕ) → ℕ → ℕ → Type 0
Leads ends i j = IsIn j (get_or ends i [])

-- arrows lead from a number along these to another, which may be itself
abbrev pub LeadAlong : List (List ℕ) → ℕ → List ℕ → ℕ → Type 0
LeadAlong ends i [] j = i ≡ j
LeadAlong ends i (k ∷ path) j = Leads ends i k × LeadAlong ends k path j

-- arrows lead from one of these numbers to another, which may be one of them
pub record IsReached (ends : List (List ℕ)) (seeds : List ℕ) (j : ℕ) : Type 0 where
  pub seed : ℕ
  pub is_seed : IsIn seed seeds
  pub path : List ℕ
  pub leads : LeadAlong ends seed path j

-- the numbers are below a bound
abbrev pub AreBelow : ℕ → List ℕ → Type 0
AreBelow count ns = (n : ℕ) → IsIn n ns → n < count

-- arrows end below a bound
abbrev pub EndBelow : ℕ → List (List ℕ) → Type 0
EndBelow count ends = (i j : ℕ) → Leads ends i j → j < count

-- a number is marked
abbrev pub IsMarked : List Bool → ℕ → Type 0
IsMarked marks n = get_or marks n false ≡ true

-- there is a number, and it is marked
abbrev pub IsMarkedNumber : List Bool → Option ℕ → Type 0
IsMarkedNumber marks None = ⊥
IsMarkedNumber marks (Some k) = IsMarked marks k

-- how many numbers aren't marked
abbrev pub unmarked : List Bool → ℕ
unmarked [] = 0
unmarked (true ∷ marks) = unmarked marks
unmarked (false ∷ marks) = unmarked marks + 1

-- these numbers are marked now, and those of them wait that were not marked before
pub record AreAdded (ns : List ℕ) (marks : List Bool) (waiting : List ℕ) (marks_now : List Bool) (waiting_now : List ℕ) : Type 0 where
  pub wide : length marks_now ≡ length marks
  pub marked : (j : ℕ) → IsIn j ns → IsMarked marks_now j
  pub kept : (j : ℕ) → IsMarked marks j → IsMarked marks_now j
  pub known : (j : ℕ) → IsMarked marks_now j → IsMarked marks j ⊎ IsIn j ns
  pub stays : (j : ℕ) → IsIn j waiting → IsIn j waiting_now
  pub waits : (j : ℕ) → IsMarked marks_now j → IsMarked marks j ⊎ IsIn j waiting_now
  pub new : (j : ℕ) → IsIn j waiting_now → IsIn j waiting ⊎ IsIn j ns
  pub even : unmarked marks_now + length waiting_now ≡ unmarked marks + length waiting
