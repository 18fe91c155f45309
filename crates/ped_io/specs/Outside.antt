-- What is outside: files by name, the bytes that a read gives, and counts of faults (this project).
use Rattle.std.specs.Prelude.{◌≡◌, ◌⊎◌, ◌<◌, ◌≤◌, ◌++◌, ℕ, List, Option, IsSome, length, take, drop, find, option_map}
use Rattle.std.specs.List.{AllByRecursion}
use Rattle.std.specs.Option.{option_or}
use Rattle.ped_base.specs.Lists.{is_same_text}

-- a count of faults has risen, or it is the greatest number that 64 bits hold and can't rise
abbrev pub Rose : ℕ → ℕ → Type 0
Rose before now = (before < now) ⊎ (now ≡ 18446744073709551615)

-- a list of names, the newest first, has grown by such names alone
abbrev pub AddsOnly : (List ℕ → Type 0) → List (List ℕ) → List (List ℕ) → Type 0
AddsOnly IsSuch before after = (since : List (List ℕ)) × (after ≡ since ++ before) × AllByRecursion IsSuch since

-- the files that a shelf reports: names with contents, and what every other name holds, if anything
pub record Contents : Type 0 where
  pub held : List (List ℕ × List ℕ)
  pub other : Option (List ℕ)

-- the first file of a name: the name and its content
abbrev pub file_named : List (List ℕ × List ℕ) → List ℕ → Option (List ℕ × List ℕ)
file_named files name = find (λ file. is_same_text file.0 name) files

-- what a name that is held holds
abbrev pub held_content : Contents → List ℕ → Option (List ℕ)
held_content contents name = option_map (λ file. file.1) (file_named contents.held name)

-- the name is among the files
abbrev pub IsHeld : Contents → List ℕ → Type 0
IsHeld contents name = IsSome (held_content contents name)

-- what any name holds
abbrev pub content : Contents → List ℕ → Option (List ℕ)
content contents name = option_or (held_content contents name) contents.other

-- a read of n bytes from `at` on into a piece: these bytes, none past the end, and no byte only
-- where the piece has no room or nothing is left
pub record GivesPart (bytes : List ℕ) (at n : ℕ) (old new : List ℕ) : Type 0 where
  pub part : take n new ≡ take n (drop at bytes)
  pub inside : n ≤ length (drop at bytes)
  pub end : n ≡ 0 → (length old ≡ 0) ⊎ (length bytes ≤ at)
