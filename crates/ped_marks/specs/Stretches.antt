-- How marks are kept: by entries at the places at which they begin, each of which reaches to an end (this project).
use Rattle.std.specs.Prelude.{◌≡◌, ℕ, zero, suc, ◌+◌, ◌<◌, ◌≤◌, ◌==◌, nat_lt, if◌then◌else◌, Option, Some, None, List, [], ◌∷◌, ◌⊎◌}
use Rattle.ped_marks.specs.declared.marks.Mark.{Mark}
use Rattle.ped_marks.specs.declared.marks.Mark.TheVariants as mark
use Rattle.ped_marks.specs.declared.stretches.Stretch.{Stretch}
use Rattle.ped_marks.specs.declared.stretches.Stretch.TheVariants.{Running, Done}

-- the place after the last one that an entry at a place covers
abbrev pub end_of : ℕ → Stretch → ℕ
end_of start (Running key) = start + 1
end_of start (Done end) = end

-- the state that an entry gives to each place that it covers
abbrev pub meaning : Stretch → Mark
meaning (Running key) = mark.Running key
meaning (Done end) = mark.Done

-- what is known of a place by the last entry at or before it
abbrev pub said : ℕ → ℕ → Stretch → Mark
said place start x = if nat_lt place (end_of start x) then meaning x else mark.Waits

-- what is known of a place by the last entry at or before it, if there is one
abbrev pub said_last : ℕ → Option (ℕ × Stretch) → Mark
said_last place (Some last) = said place last.0 last.1
said_last place None = mark.Waits

-- the place after an entry, if it is a stretch of finished iterations that covers a place, and else that place
abbrev pub open_by : ℕ → Stretch → ℕ
open_by place (Running key) = place
open_by place (Done end) = if nat_lt place end then end else place

-- the place after the stretch of finished iterations that covers a place, by the last entry at or before it; that place, where none does
abbrev pub first_open : ℕ → Option (ℕ × Stretch) → ℕ
first_open place (Some last) = open_by place last.1
first_open place None = place

-- what is known of a place by an entry at another one, if there is any, and else by what comes before
abbrev pub said_or : ℕ → ℕ → Option Stretch → Mark → Mark
said_or place start (Some x) before = said place start x
said_or place start None before = before

-- what is known of a place by the last entry up to another one
abbrev pub mark_by : (ℕ → Option Stretch) → ℕ → ℕ → Mark
mark_by entries place zero = said_or place zero (entries zero) mark.Waits
mark_by entries place (suc n) = said_or place (suc n) (entries (suc n)) (mark_by entries place n)

-- what is known of a place
abbrev pub mark_at : (ℕ → Option Stretch) → ℕ → Mark
mark_at entries place = mark_by entries place place

-- the values of a function at 0, 1, 2 and so on, as many as given (plain words)
abbrev pub values : (ℕ → Mark) → ℕ → List Mark
values f zero = []
values f (suc n) = f 0 ∷ values (λ k. f (suc k)) n

-- what is known of the first places, as many as given
abbrev pub marks_of : ℕ → (ℕ → Option Stretch) → List Mark
marks_of count entries = values (mark_at entries) count

-- the entries cover only places below the count, no place twice, and no two stretches of finished iterations touch
pub record IsLaidOut (count : ℕ) (entries : ℕ → Option Stretch) : Type 0 where
  pub within : (start : ℕ) (x : Stretch) → entries start ≡ Some x → (start < end_of start x) × (end_of start x ≤ count)
  pub apart : (first second : ℕ) (x y : Stretch) → entries first ≡ Some x → entries second ≡ Some y → first < second → end_of first x ≤ second
  pub whole : (start end other : ℕ) → entries start ≡ Some (Done end) → entries end ≡ Some (Done other) → ⊥

-- the last entry at a place or before it
abbrev pub IsLast : (ℕ → Option Stretch) → ℕ → Option (ℕ × Stretch) → Type 0
IsLast entries place None = (other : ℕ) → other ≤ place → entries other ≡ None
IsLast entries place (Some last) = (last.0 ≤ place) × (entries last.0 ≡ Some last.1) × ((other : ℕ) → last.0 < other → other ≤ place → entries other ≡ None)

-- where a stretch ends that may begin at a place
abbrev pub end_from : ℕ → Option Stretch → ℕ
end_from place (Some (Done end)) = end
end_from place (Some (Running key)) = place
end_from place None = place

-- where a stretch begins that ends at a place and is the last entry before it; there, where none does
abbrev pub IsStart : (ℕ → Option Stretch) → ℕ → ℕ → Type 0
IsStart entries place start =
    ((start < place) × (entries start ≡ Some (Done place)))
    ⊎ ((start ≡ place) × ((other : ℕ) → other < place → entries other ≡ Some (Done place) → ((between : ℕ) → other < between → between < place → entries between ≡ None) → ⊥))

-- the entries with another one at a place, or with none there
abbrev pub with_entry : (ℕ → Option Stretch) → ℕ → Option Stretch → ℕ → Option Stretch
with_entry entries place entry other = if other == place then entry else entries other
