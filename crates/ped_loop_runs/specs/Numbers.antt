-- Numbers under which the statements of a new program count, so that those that stay have their old ones (this project).
use Rattle.std.specs.Prelude.{◌≡◌, ℕ, zero, suc, ◌+◌, ◌-◌, ◌<◌, ◌≤◌, List, [], ◌∷◌, ◌++◌, ◌==◌, ◌⊎◌, if◌then◌else◌}
use Rattle.ped_bodies.specs.ped_laws.specs.Acts.Orders.{IsIn}

-- two numbers exchanged (plain words)
abbrev pub exchanged_numbers : (a b : ℕ) → ℕ → ℕ
exchanged_numbers a b n = if n == a then b else (if n == b then a else n)

-- numbers under which others count: of each pair the first one under the second, and where no pair has a number first, it counts under one that is left (this project)
abbrev pub counted_by : List (ℕ × ℕ) → ℕ → ℕ
counted_by [] n = n
counted_by (x ∷ pairs) n = exchanged_numbers (counted_by pairs x.0) x.1 (counted_by pairs n)

-- which number counts under this one (plain words)
abbrev pub told_by : List (ℕ × ℕ) → ℕ → ℕ
told_by [] n = n
told_by (x ∷ pairs) n = told_by pairs (exchanged_numbers (counted_by pairs x.0) x.1 n)

-- no two of these pairs have the same first number, nor the same second (plain words)
abbrev pub AreApart : List (ℕ × ℕ) → Type 0
AreApart [] = Unit {0}
AreApart (x ∷ xs) = ((y : ℕ × ℕ) → IsIn y xs → (y.0 ≡ x.0 → ⊥) × (y.1 ≡ x.1 → ⊥)) × AreApart xs

-- this many numbers in a row, each with one of another row (plain words)
abbrev pub in_a_row : (from to count : ℕ) → List (ℕ × ℕ)
in_a_row from to zero = []
in_a_row from to (suc count) = (from, to) ∷ in_a_row (from + 1) (to + 1) count

-- the statements of a program, where old ones from number l on have given way to new ones, by the counts of the old ones, of the new ones and of all statements: those before them and after them keep their numbers, and others count as these pairs say (this project)
abbrev pub kept_numbers : (l old new all : ℕ) → List (ℕ × ℕ) → List (ℕ × ℕ)
kept_numbers l old new all inside = in_a_row 0 0 l ++ (in_a_row (l + new) (l + old) (all + 1 - (l + old)) ++ inside)

-- pairs of numbers for the new statements: each counts under the number of one that has given way, or under a number that no statement has (this project)
pub record FitInGap (l old new all : ℕ) (inside : List (ℕ × ℕ)) : Type 0 where
  pub room : l + old ≤ all + 1
  pub apart : AreApart inside
  pub from : (y : ℕ × ℕ) → IsIn y inside → l ≤ y.0
  pub to : (y : ℕ × ℕ) → IsIn y inside → y.0 < l + new
  pub under : (y : ℕ × ℕ) → IsIn y inside → ((l ≤ y.1) × (y.1 < l + old)) ⊎ (all < y.1)
