-- Statements but one, as the code keeps them.
use Rattle.std.proofs.Common.{◌≡◌, ◌==◌, ℕ, List, [], ◌∷◌, map, filter, cond, not, Bool, true, false, refl, ap, ◌∙◌, if◌then◌else◌}
use Rattle.std.specs.List.{range_with_len}
use Rattle.ped_rules.specs.KeepMaps.{closed_up}

pub unless_kept : {A : Type 0} (gone : Bool) (x : A) → (if gone then [] else x ∷ []) ≡ cond (not gone) (x ∷ []) []
unless_kept true x = refl
unless_kept false x = refl

module _ (f : ℕ → ℕ × ℕ) (keeps : ℕ → Bool) (same : (k : ℕ) → (f k).0 ≡ k) where
  one_more : (k : ℕ) (ks : List (ℕ × ℕ)) (ns : List ℕ) (b : Bool) → ks ≡ map f ns → cond b (f k ∷ ks) ks ≡ map f (cond b (k ∷ ns) ns)
  one_more k ks ns true h = ap (λ (es : List (ℕ × ℕ)). f k ∷ es) h
  one_more k ks ns false h = h

  -- pairs that are kept by their first number
  filtered_by : (ns : List ℕ) → filter (λ (p : ℕ × ℕ). keeps p.0) (map f ns) ≡ map f (filter keeps ns)
  filtered_by [] = refl
  filtered_by (k ∷ ns) =
      ap (λ (j : ℕ). cond (keeps j) (f k ∷ filter (λ (p : ℕ × ℕ). keeps p.0) (map f ns)) (filter (λ (p : ℕ × ℕ). keeps p.0) (map f ns))) (same k)
      ∙ one_more k (filter (λ (p : ℕ × ℕ). keeps p.0) (map f ns)) (filter keeps ns) (keeps k) (filtered_by ns)

-- statements up to this number but one, with their numbers behind the step
abbrev pub kept_up_to : (m count : ℕ) → List (ℕ × ℕ)
kept_up_to m count = map (λ k. (k, closed_up m k)) (filter (λ k. not (k == m)) (range_with_len 1 count))

pub kept_but : (m count : ℕ) → filter (λ (p : ℕ × ℕ). not (p.0 == m)) (map (λ k. (k, closed_up m k)) (range_with_len 1 count)) ≡ kept_up_to m count
kept_but m count = filtered_by (λ k. (k, closed_up m k)) (λ k. not (k == m)) (λ k. refl) (range_with_len 1 count)
