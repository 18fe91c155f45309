-- What a move of the place between past and future does to both lists, where the entry that it passes is left as some other.
use Rattle.std.proofs.Common.{◌≡◌, ℕ, ◌+◌, ◌-◌, ◌<◌, ◌≤◌, List, [], ◌∷◌, length, take, drop, reverse, slice_set, slice_index_or, slice_get, Some, sym, ap, subst, ◌∙◌, arith, drop-cons, add-one}
use Rattle.std.proofs.lemmas.List.{take_more, take_more_set, take-set, drop-set, drop-set-lt, reverse-append}
use Rattle.ped_history.specs.Timeline.{Timeline, timeline, gone_back, gone_forward}

module _ {D : Type 0} where
  -- the entries below a place, the newest first, and those from it on
  abbrev pub around : List D → ℕ → ℕ → Timeline D
  around xs at room = timeline (reverse (take at xs)) (drop at xs) (room - at)

  newest : (xs : List D) (i : ℕ) (d : D) → i < length xs → reverse (take (i + 1) xs) ≡ slice_index_or xs i d ∷ reverse (take i xs)
  newest xs i d h = ap reverse (take_more xs i d h) ∙ reverse-append (take i xs) (slice_index_or xs i d ∷ [])

  next : (xs : List D) (i : ℕ) (d : D) → i < length xs → drop i xs ≡ slice_index_or xs i d ∷ drop (i + 1) xs
  next xs i d h = rw add-one (drop-cons xs i d h)

  same_parts : {a b c d : List D} {m n : ℕ} → a ≡ b → c ≡ d → m ≡ n → timeline a c m ≡ timeline b d n
  same_parts p q r = λ i. timeline (p i) (q i) (r i)

  back_to : (xs : List D) (i room : ℕ) (left : D) → i < length xs → i < room → around (slice_set xs i left) i room ≡ gone_back (around xs (i + 1) room) left
  back_to xs i room left h k =
      same_parts (ap reverse (take-set xs i left) ∙ sym (ap (drop 1) (newest xs i left h))) (drop-set xs i left h) (omega arith)

  pub back_from : (xs : List D) (at room : ℕ) (left : D) → ¬ (at ≡ 0) → at ≤ length xs → at ≤ room → around (slice_set xs (at - 1) left) (at - 1) room ≡ gone_back (around xs at room) left
  back_from xs at room left n h k =
      let one : at - 1 + 1 ≡ at = omega arith in
      back_to xs (at - 1) room left (omega arith) (omega arith) ∙ ap (λ (i : ℕ). gone_back (around xs i room) left) one

  pub newest_from : (xs : List D) (at : ℕ) (d : D) → ¬ (at ≡ 0) → at ≤ length xs → d ≡ slice_index_or xs (at - 1) d → slice_get (reverse (take at xs)) 0 ≡ Some d
  newest_from xs at d n h e =
      let one : at - 1 + 1 ≡ at = omega arith in
      let front = newest xs (at - 1) d (omega arith) in
      subst (λ (i : ℕ). slice_get (reverse (take i xs)) 0 ≡ Some d) one (ap (λ (ys : List D). slice_get ys 0) front ∙ ap Some (sym e))

  pub forward_from : (xs : List D) (at room : ℕ) (left : D) → at < length xs → around (slice_set xs at left) (at + 1) room ≡ gone_forward (around xs at room) left
  forward_from xs at room left h =
      same_parts (ap reverse (take_more_set xs at left h) ∙ reverse-append (take at xs) (left ∷ [])) (drop-set-lt (at + 1) xs at left (omega arith) ∙ sym (ap (drop 1) (next xs at left h))) (omega arith)

  pub next_from : (xs : List D) (at : ℕ) (d : D) → at < length xs → d ≡ slice_index_or xs at d → slice_get (drop at xs) 0 ≡ Some d
  next_from xs at d h e = ap (λ (ys : List D). slice_get ys 0) (next xs at d h) ∙ ap Some (sym e)
