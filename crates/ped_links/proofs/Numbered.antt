-- Numbers that are kept under names, one after the other.
use Rattle.std.proofs.Common.{◌≡◌, ℕ, ◌+◌, ◌-◌, ◌<◌, ◌≤◌, List, [], ◌∷◌, ◌++◌, Bool, true, false, Option, Some, None, is_some, length, map, take, drop, get_or, refl, sym, ap, ◌∙◌, if◌then◌else◌, arith, take_all}
use Rattle.std.proofs.lemmas.List.{length-drop, length-map, take_more, get_or-drop, get_or-map}
use Rattle.ped_base.specs.Lists.{is_same_text}
use Rattle.ped_base.proofs.NameEquality.{same_is}
use Rattle.ped_units.specs.ped_valid.specs.ped_symbols.specs.Entries.{entry_of, with_entry}
use Rattle.ped_units.specs.Units.{ProgramUnit}
use Rattle.ped_links.specs.Numbers.{number_among, place_among, with_number, ArePlaces}
use Rattle.ped_units.specs.Views.{name_or_none, program_unit_of}
use Rattle.ped_units.specs.declared.units.ProgramUnit as code

-- the first where there is one, else the other
abbrev pub either_of : Option ℕ → Option ℕ → Option ℕ
either_of (Some n) o = Some n
either_of None o = o

either_none : (o : Option ℕ) → either_of o None ≡ o
either_none (Some n) = refl
either_none None = refl

-- an entry behind others is found where none of these is
entry_behind : (es : List (List ℕ × ℕ)) (y : List ℕ) (n : ℕ) (x : List ℕ) → entry_of (es ++ (y, n) ∷ []) x ≡ either_of (entry_of es x) (if is_same_text x y then Some n else None)
entry_behind [] y n x = refl
entry_behind (e ∷ es) y n x = by (is_same_text x e.0) (entry_behind es y n x)
  where
    by : (b : Bool) → entry_of (es ++ (y, n) ∷ []) x ≡ either_of (entry_of es x) (if is_same_text x y then Some n else None)
        → (if b then Some e.1 else entry_of (es ++ (y, n) ∷ []) x) ≡ either_of (if b then Some e.1 else entry_of es x) (if is_same_text x y then Some n else None)
    by true h = refl
    by false h = h

-- what is kept under a name
pub entry_kept : (es : List (List ℕ × ℕ)) (y : List ℕ) (n : ℕ) (x : List ℕ) → entry_of (with_entry es y n) x ≡ either_of (entry_of es x) (if is_same_text x y then Some n else None)
entry_kept es y n x = there (is_some (entry_of es y)) refl (is_same_text x y) refl
  where
    some_of : (o : Option ℕ) → is_some o ≡ true → either_of o (Some n) ≡ o
    some_of (Some m) h = refl
    some_of None h = absurd cc

    there : (b : Bool) → is_some (entry_of es y) ≡ b → (s : Bool) → is_same_text x y ≡ s → entry_of (if b then es else es ++ (y, n) ∷ []) x ≡ either_of (entry_of es x) (if s then Some n else None)
    there true h true s =
        let same : x ≡ y = same_is x y s in
        sym (some_of (entry_of es x) (ap (λ (z : List ℕ). is_some (entry_of es z)) same ∙ h))
    there true h false s = sym (either_none (entry_of es x))
    there false h s e = entry_behind es y n x ∙ ap (λ (b : Bool). either_of (entry_of es x) (if b then Some n else None)) e

number_behind : (us : List ProgramUnit) (u : ProgramUnit) (n : ℕ) (x : List ℕ) (m : ℕ) → m ≡ n + length us → number_among (us ++ u ∷ []) n x ≡ either_of (number_among us n x) (if is_same_text x u.name then Some m else None)
number_behind [] u n x m h = let same : n ≡ m = omega (arith, h) in ap (λ (k : ℕ). if is_same_text x u.name then Some k else None) same
number_behind (v ∷ us) u n x m h = by (is_same_text x v.name) (number_behind us u (n + 1) x m (omega (arith, h)))
  where
    by : (b : Bool) → number_among (us ++ u ∷ []) (n + 1) x ≡ either_of (number_among us (n + 1) x) (if is_same_text x u.name then Some m else None)
        → (if b then Some n else number_among (us ++ u ∷ []) (n + 1) x) ≡ either_of (if b then Some n else number_among us (n + 1) x) (if is_same_text x u.name then Some m else None)
    by true e = refl
    by false e = e

place_behind : (ys : List (List ℕ)) (y : List ℕ) (n : ℕ) (x : List ℕ) (m : ℕ) → m ≡ n + length ys → place_among (ys ++ y ∷ []) n x ≡ either_of (place_among ys n x) (if is_same_text x y then Some m else None)
place_behind [] y n x m h = let same : n ≡ m = omega (arith, h) in ap (λ (k : ℕ). if is_same_text x y then Some k else None) same
place_behind (z ∷ ys) y n x m h = by (is_same_text x z) (place_behind ys y (n + 1) x m (omega (arith, h)))
  where
    by : (b : Bool) → place_among (ys ++ y ∷ []) (n + 1) x ≡ either_of (place_among ys (n + 1) x) (if is_same_text x y then Some m else None)
        → (if b then Some n else place_among (ys ++ y ∷ []) (n + 1) x) ≡ either_of (if b then Some n else place_among ys (n + 1) x) (if is_same_text x y then Some m else None)
    by true e = refl
    by false e = e

-- one place more
pub places_more : (names all : List (List ℕ)) (y : List ℕ) (n : ℕ) (es next : List (List ℕ × ℕ)) → n ≡ length names → all ≡ names ++ y ∷ [] → next ≡ with_entry es y n → ArePlaces names es → ArePlaces all next
places_more names all y n es next l a e h = λ x.
    ap (λ (k : List (List ℕ × ℕ)). entry_of k x) e
    ∙ entry_kept es y n x
    ∙ ap (λ (o : Option ℕ). either_of o (if is_same_text x y then Some n else None)) (h x)
    ∙ sym (place_behind names y 0 x n (omega (arith, l)))
    ∙ ap (λ (k : List (List ℕ)). place_among k 0 x) (sym a)

unnamed : (es : List (List ℕ × ℕ)) (name : Option (List ℕ)) (n : ℕ) (x : List ℕ) → (x ≡ [] → ⊥) → entry_of (with_number es name n) x ≡ either_of (entry_of es x) (if is_same_text x (name_or_none name) then Some n else None)
unnamed es (Some y) n x h = entry_kept es y n x
unnamed es None n x h = sym (either_none (entry_of es x)) ∙ ap (λ (b : Bool). either_of (entry_of es x) (if b then Some n else None)) (other x h)
  where
    other : (z : List ℕ) → (z ≡ [] → ⊥) → false ≡ is_same_text z []
    other [] k = absurd (k refl)
    other (c ∷ cs) k = refl

-- the number of one more unit
pub numbers_more : (us all : List ProgramUnit) (u : ProgramUnit) (name : Option (List ℕ)) (n : ℕ) (es next : List (List ℕ × ℕ)) → n ≡ length us + 1 → all ≡ us ++ u ∷ [] → u.name ≡ name_or_none name → next ≡ with_number es name n
    → ((x : List ℕ) → (x ≡ [] → ⊥) → entry_of es x ≡ number_among us 1 x) → (x : List ℕ) → (x ≡ [] → ⊥) → entry_of next x ≡ number_among all 1 x
numbers_more us all u name n es next l a is e h = λ x k.
    ap (λ (s : List (List ℕ × ℕ)). entry_of s x) e
    ∙ unnamed es name n x k
    ∙ ap (λ (y : List ℕ). either_of (entry_of es x) (if is_same_text x y then Some n else None)) (sym is)
    ∙ ap (λ (o : Option ℕ). either_of o (if is_same_text x u.name then Some n else None)) (h x k)
    ∙ sym (number_behind us u 1 x n (omega (arith, l)))
    ∙ ap (λ (s : List ProgramUnit). number_among s 1 x) (sym a)

-- one unit more of those behind the first
pub unit_behind : (units : List code.ProgramUnit) (n : ℕ) (unit : code.ProgramUnit) → 1 ≤ n → n < length units → unit ≡ get_or units n unit
    → take (n + 1 - 1) (drop 1 (map program_unit_of units)) ≡ take (n - 1) (drop 1 (map program_unit_of units)) ++ program_unit_of unit ∷ []
unit_behind units n unit above below is =
    let us = map program_unit_of units in
    let d = program_unit_of unit in
    let long = length-drop 1 us in
    let wide = length-map units program_unit_of in
    let same : n + 1 - 1 ≡ n - 1 + 1 = omega (arith, above) in
    let place : 1 + (n - 1) ≡ n = omega (arith, above) in
    ap (λ (k : ℕ). take k (drop 1 us)) same
    ∙ take_more (drop 1 us) (n - 1) d (omega (arith, above, below, long, wide))
    ∙ ap (λ (u : ProgramUnit). take (n - 1) (drop 1 us) ++ u ∷ []) (get_or-drop 1 us (n - 1) d ∙ ap (λ (k : ℕ). get_or us k d) place ∙ get_or-map program_unit_of units n unit d below ∙ ap program_unit_of (sym is))

-- all of those behind the first
pub all_behind : (us : List ProgramUnit) (n : ℕ) → length us ≤ n → take (n - 1) (drop 1 us) ≡ drop 1 us
all_behind us n h = let long = length-drop 1 us in take_all (n - 1) (drop 1 us) (omega (arith, h, long))
