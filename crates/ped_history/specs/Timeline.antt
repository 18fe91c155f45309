-- A history as two lists: what can be taken back, and what was taken back and can be done again (this project).
use Rattle.std.specs.Prelude.{ℕ, ◌+◌, ◌-◌, List, [], ◌∷◌, drop, refl}
use Rattle.std.specs.Coded.{Coded, code_by, coded×, coded_list, coded_ℕ}

-- the past, its newest entry first; the future, its next entry first; and how many entries can be pushed before memory is taken
pub record Timeline (D : Type 0) : Type 0 where
  pub past : List D
  pub future : List D
  pub spare : ℕ

module _ {D : Type 0} where
  abbrev pub timeline : List D → List D → ℕ → Timeline D
  timeline past future spare = record { past = past; future = future; spare = spare }

  -- a timeline is stored as its parts
  abbrev pub timeline_code : Coded D → Coded (Timeline D)
  timeline_code c = code_by (List D × (List D × ℕ)) (coded× (coded_list c) (coded× (coded_list c) coded_ℕ)) (λ h. (h.past, (h.future, h.spare))) (λ p. timeline p.0 p.1.0 p.1.1) (λ _. refl)

  -- a new entry is the newest of the past, and there is no future
  abbrev pub pushed : D → Timeline D → Timeline D
  pushed d h = timeline (d ∷ h.past) [] (h.spare - 1)

  -- the newest of the past is the next of the future, as it was left there
  abbrev pub gone_back : Timeline D → D → Timeline D
  gone_back h left = timeline (drop 1 h.past) (left ∷ h.future) (h.spare + 1)

  -- the next of the future is the newest of the past, as it was left there
  abbrev pub gone_forward : Timeline D → D → Timeline D
  gone_forward h left = timeline (left ∷ h.past) (drop 1 h.future) (h.spare - 1)
