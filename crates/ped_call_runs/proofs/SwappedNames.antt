-- Names that change places in pairs.
use Rattle.std.proofs.Common.{◌≡◌, ℕ, List, [], ◌∷◌, Bool, true, false, ◌||◌, refl, sym, ap, ◌∙◌, if◌then◌else◌}
use Rattle.ped_base.specs.Lists.{is_same_text, is_among}
use Rattle.ped_base.proofs.NameEquality.{same_is, same_itself, same_flip}

-- the other name of the first pair in which the name stands
abbrev pub swapped : List (List ℕ × List ℕ) → List ℕ → List ℕ
swapped [] y = y
swapped (p ∷ ps) y = if is_same_text y p.0 then p.1 else (if is_same_text y p.1 then p.0 else swapped ps y)

-- the names in pairs
abbrev pub paired : List (List ℕ × List ℕ) → List (List ℕ)
paired [] = []
paired (p ∷ ps) = p.0 ∷ (p.1 ∷ paired ps)

-- no name stands in two pairs
abbrev pub AreApart : List (List ℕ × List ℕ) → Type 0
AreApart [] = Unit {0}
AreApart (p ∷ ps) = (is_among p.0 (paired ps) ≡ false) × (is_among p.1 (paired ps) ≡ false) × AreApart ps

or_none : (a b : Bool) → a || b ≡ false → (a ≡ false) × (b ≡ false)
or_none true b h = absurd cc
or_none false b h = (refl, h)

-- a name in no pair stays
pub unpaired_stays : (ps : List (List ℕ × List ℕ)) (y : List ℕ) → is_among y (paired ps) ≡ false → swapped ps y ≡ y
unpaired_stays [] y h = refl
unpaired_stays (p ∷ ps) y h =
    let a = or_none (is_same_text y p.0) (is_same_text y p.1 || is_among y (paired ps)) h in
    let c = or_none (is_same_text y p.1) (is_among y (paired ps)) a.1 in
    (λ i. if a.0 i then p.1 else (if c.0 i then p.0 else swapped ps y)) ∙ unpaired_stays ps y c.1

-- a name is led to another name of a pair, or stays
pub lands_elsewhere : (ps : List (List ℕ × List ℕ)) (y x : List ℕ) → is_among x (paired ps) ≡ false → is_same_text y x ≡ false → is_same_text (swapped ps y) x ≡ false
lands_elsewhere [] y x h k = k
lands_elsewhere (p ∷ ps) y x h k =
    let a = or_none (is_same_text x p.0) (is_same_text x p.1 || is_among x (paired ps)) h in
    let c = or_none (is_same_text x p.1) (is_among x (paired ps)) a.1 in
    go (is_same_text y p.0) (is_same_text y p.1) (same_flip p.0 x ∙ a.0) (same_flip p.1 x ∙ c.0) (lands_elsewhere ps y x c.1 k)
  where
    go : (t u : Bool) → is_same_text p.0 x ≡ false → is_same_text p.1 x ≡ false → is_same_text (swapped ps y) x ≡ false → is_same_text (if t then p.1 else (if u then p.0 else swapped ps y)) x ≡ false
    go true u left right more = right
    go false true left right more = left
    go false false left right more = more

-- names that change places twice are where they were
pub swapped_twice : (ps : List (List ℕ × List ℕ)) → AreApart ps → (y : List ℕ) → swapped ps (swapped ps y) ≡ y
swapped_twice [] h y = refl
swapped_twice (p ∷ ps) h y = go (is_same_text y p.0) (is_same_text y p.1) refl refl (swapped_twice ps h.2 y)
  where
    -- the second name of the pair goes to the first
    second : (t : Bool) → is_same_text p.1 p.0 ≡ t → swapped (p ∷ ps) p.1 ≡ p.0
    second true e = ap (λ (t : Bool). if t then p.1 else (if is_same_text p.1 p.1 then p.0 else swapped ps p.1)) e ∙ same_is p.1 p.0 e
    second false e = (λ i. if e i then p.1 else (if same_itself p.1 i then p.0 else swapped ps p.1))

    first : swapped (p ∷ ps) p.0 ≡ p.1
    first = ap (λ (t : Bool). if t then p.1 else (if is_same_text p.0 p.1 then p.0 else swapped ps p.0)) (same_itself p.0)

    go : (t u : Bool) → is_same_text y p.0 ≡ t → is_same_text y p.1 ≡ u → swapped ps (swapped ps y) ≡ y → swapped (p ∷ ps) (if t then p.1 else (if u then p.0 else swapped ps y)) ≡ y
    go true u e d more = second (is_same_text p.1 p.0) refl ∙ sym (same_is y p.0 e)
    go false true e d more = first ∙ sym (same_is y p.1 d)
    go false false e d more =
        (λ i. if lands_elsewhere ps y p.0 h.0 e i then p.1 else (if lands_elsewhere ps y p.1 h.1 d i then p.0 else swapped ps (swapped ps y))) ∙ more
