-- Rows that are changed one by one, and paths over the places below a bound.
use Rattle.std.proofs.Common.{◌≡◌, ℕ, ◌+◌, ◌<◌, List, [], ◌∷◌, ◌++◌, length, slice_index_or, Bool, false, ◌↔◌, refl, ap, sym, subst, ◌∙◌, ◌⊎◌, inl, inr, arith}
use Rattle.std.proofs.lemmas.List.{get_or_past}
use Rattle.std.proofs.lemmas.Bool.{cases_lt, cases_eq, false≢true}
use Rattle.ped_bits.specs.Places.{Has}
use Rattle.ped_bits.specs.Reaching.{row_of, Arrow, IsPath, Reaches, IsSquare}

-- ---- paths
abbrev pub AllBelow : ℕ → List ℕ → Type 0
AllBelow n [] = Unit {0}
AllBelow n (k ∷ via) = (k < n) × AllBelow n via

-- a path over places below n
abbrev pub Within : List (List Bool) → ℕ → ℕ → ℕ → Type 0
Within m n i j = (via : List ℕ) × IsPath m i via j × AllBelow n via

join : (m : List (List Bool)) (i k j : ℕ) (v w : List ℕ) → IsPath m i v k → IsPath m k w j → IsPath m i (v ++ k ∷ w) j
join m i k j [] w p q = (p, q)
join m i k j (x ∷ v) w p q = (p.0, join m x k j v w p.1 q)

both_below : (n k : ℕ) (v w : List ℕ) → k < n → AllBelow n v → AllBelow n w → AllBelow n (v ++ k ∷ w)
both_below n k [] w h a b = (h, b)
both_below n k (x ∷ v) w h a b = (a.0, both_below n k v w h a.1 b)

more_below : (n : ℕ) (v : List ℕ) → AllBelow n v → AllBelow (n + 1) v
more_below n [] a = tt
more_below n (x ∷ v) a = (let h = a.0 in omega arith, more_below n v a.1)

split : (m : List (List Bool)) (n i j : ℕ) (via : List ℕ) → IsPath m i via j → AllBelow (n + 1) via → Within m n i j ⊎ (Within m n i n × Within m n n j)
split m n i j [] p b = inl ([], p, tt)
split m n i j (k ∷ via) p b =
    elim (cases_eq k n) [
      | inl e ↦ elim (split m n k j via p.1 b.1) [
        | inl w ↦ inr (([], subst (λ (x : ℕ). Arrow m i x) e p.0, tt), subst (λ (x : ℕ). Within m n x j) e w)
        | inr w ↦ inr (([], subst (λ (x : ℕ). Arrow m i x) e p.0, tt), w.1)
      ]
      | inr d ↦
          let h : k < n = let l = b.0 in omega arith in
          elim (split m n k j via p.1 b.1) [
            | inl w ↦ inl (k ∷ w.0, (p.0, w.1), (h, w.2))
            | inr w ↦ inr ((k ∷ w.0.0, (p.0, w.0.1), (h, w.0.2)), w.1)
          ]
    ]

pub one_more : (m : List (List Bool)) (n i j : ℕ) → (Within m n i j ⊎ (Within m n i n × Within m n n j)) ↔ Within m (n + 1) i j
one_more m n i j = (there, λ w. split m n i j w.0 w.1 w.2)
  where
    there : Within m n i j ⊎ (Within m n i n × Within m n n j) → Within m (n + 1) i j
    there (inl w) = (w.0, w.1, more_below n w.0 w.2)
    there (inr (v, w)) = (v.0 ++ n ∷ w.0, join m i n j v.0 w.0 v.1 w.1, both_below (n + 1) n v.0 w.0 (omega arith) (more_below n v.0 v.2) (more_below n w.0 w.2))

pub arrow_alone : (m : List (List Bool)) (i j : ℕ) → Arrow m i j ↔ Within m 0 i j
arrow_alone m i j = (λ a. ([], a, tt), back)
  where
    back : Within m 0 i j → Arrow m i j
    back ([], p, b) = p
    back (k ∷ via, p, b) = absurd (let h = b.0 in omega arith)

has_below : (row : List Bool) (j : ℕ) → Has row j → j < length row
has_below row j h = elim (cases_lt j (length row)) [
  | inl l ↦ l
  | inr g ↦ absurd (false≢true (sym (get_or_past row j false g) ∙ h))
]

arrow_below : (m : List (List Bool)) → IsSquare m → (i j : ℕ) → Arrow m i j → j < length m
arrow_below m square i j a = elim (cases_lt i (length m)) [
  | inl l ↦ let h = has_below (row_of m i) j a in let s = square i l in omega arith
  | inr g ↦ absurd (false≢true (sym (ap (λ (row : List Bool). slice_index_or row j false) (get_or_past m i [] g)) ∙ a))
]

all_below : (m : List (List Bool)) → IsSquare m → (i j : ℕ) (via : List ℕ) → IsPath m i via j → AllBelow (length m) via
all_below m square i j [] p = tt
all_below m square i j (k ∷ via) p = (arrow_below m square i k p.0, all_below m square k j via p.1)

pub within_all : (m : List (List Bool)) (i j : ℕ) → IsSquare m → Within m (length m) i j ↔ Reaches m i j
within_all m i j square = (λ w. (w.0, w.1), λ r. (r.0, r.1, all_below m square i j r.0 r.1))

-- ---- what closing keeps: an arrow for each path over the places below n
pub record IsClosedBelow (old : List (List Bool)) (n : ℕ) (rows : List (List Bool)) : Type 0 where
  pub width : length rows ≡ length old
  pub square : IsSquare rows
  pub arrows : (i j : ℕ) → Arrow rows i j ↔ Within old n i j

pub at_first : (old : List (List Bool)) → IsSquare old → IsClosedBelow old 0 old
at_first old s = record { width = refl; square = s; arrows = arrow_alone old }

abbrev pub GoesOver : List (List Bool) → ℕ → List (List Bool) → Type 0
GoesOver rows n after = (i j : ℕ) → Arrow after i j ↔ (Arrow rows i j ⊎ (Arrow rows i n × Arrow rows n j))

pub next : (old rows after : List (List Bool)) (n : ℕ) → IsClosedBelow old n rows → length after ≡ length rows → IsSquare after → GoesOver rows n after → IsClosedBelow old (n + 1) after
next old rows after n closed l s e = record {
  width = l ∙ closed.width;
  square = s;
  arrows = λ i j. (
    λ a. (one_more old n i j).0 (elim ((e i j).0 a) [
      | inl x ↦ inl ((closed.arrows i j).0 x)
      | inr x ↦ inr ((closed.arrows i n).0 x.0, (closed.arrows n j).0 x.1)
    ]),
    λ w. (e i j).1 (elim ((one_more old n i j).1 w) [
      | inl x ↦ inl ((closed.arrows i j).1 x)
      | inr x ↦ inr ((closed.arrows i n).1 x.0, (closed.arrows n j).1 x.1)
    ]),
  );
}

pub at_last : (old rows : List (List Bool)) (n : ℕ) → IsSquare old → n ≡ length old → IsClosedBelow old n rows → (i j : ℕ) → Arrow rows i j ↔ Reaches old i j
at_last old rows n s e closed i j =
    let closed' = subst (λ (k : ℕ). IsClosedBelow old k rows) e closed in
    let all = within_all old i j s in
    (λ a. all.0 ((closed'.arrows i j).0 a), λ r. (closed'.arrows i j).1 (all.1 r))
