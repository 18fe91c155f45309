-- Numbers of dummy arguments tell them apart.
use Rattle.std.proofs.Common.{◌≡◌, ℕ, zero, suc, ◌+◌, ◌-◌, ◌<◌, ◌≤◌, List, [], ◌∷◌, Bool, true, false, Option, Some, None, length, take, get_or, refl, sym, ap, ◌∙◌, ◌||◌, if◌then◌else◌, arith}
use Rattle.std.specs.List.{flat_map}
use Rattle.std.proofs.lemmas.List.{length-append}
use Rattle.ped_base.specs.Lists.{is_same_text, is_among}
use Rattle.ped_base.proofs.NameEquality.{same_is}
use Rattle.ped_units.specs.Units.{ProgramUnit}
use Rattle.ped_links.specs.Numbers.{place_among}
use Rattle.ped_links.specs.Arguments.{formal_count, formals_at, number_behind, formal_number}

-- a name has a place, counted from a number
pub record HasPlace (ys : List (List ℕ)) (n p : ℕ) (x : List ℕ) : Type 0 where
  pub above : n ≤ p
  pub below : p < n + length ys
  pub there : get_or ys (p - n) [] ≡ x
  pub among : is_among x ys ≡ true

pub placed_there : (ys : List (List ℕ)) (n p : ℕ) (x : List ℕ) → place_among ys n x ≡ Some p → HasPlace ys n p x
placed_there [] n p x h = absurd cc
placed_there (y ∷ ys) n p x h = by (placed_there ys (n + 1) p x) (is_same_text x y) refl h
  where
    inner : (a b : ℕ) → Some a ≡ Some b → a ≡ b
    inner a b e = cc

    by : (place_among ys (n + 1) x ≡ Some p → HasPlace ys (n + 1) p x) → (b : Bool) → is_same_text x y ≡ b → (if b then Some n else place_among ys (n + 1) x) ≡ Some p → HasPlace (y ∷ ys) n p x
    by later true e k =
        let is : n ≡ p = inner n p k in
        let none : p - n ≡ 0 = omega (arith, is) in
        record {
          above = omega (arith, is);
          below = omega (arith, is);
          there = ap (λ (j : ℕ). get_or (y ∷ ys) j []) none ∙ sym (same_is x y e);
          among = ap (λ (b : Bool). b || is_among x ys) e;
        }
    by later false e k =
        let rest = later k in
        let above = rest.above in
        let below = rest.below in
        let more : p - n ≡ suc (p - (n + 1)) = omega (arith, above) in
        record {
          above = omega (arith, above);
          below = omega (arith, below);
          there = ap (λ (j : ℕ). get_or (y ∷ ys) j []) more ∙ rest.there;
          among = ap (λ (b : Bool). b || is_among x ys) e ∙ rest.among;
        }

pub has_a_place : (ys : List (List ℕ)) (n : ℕ) (x : List ℕ) → is_among x ys ≡ true → (p : ℕ) × (place_among ys n x ≡ Some p)
has_a_place [] n x h = absurd cc
has_a_place (y ∷ ys) n x h = by (has_a_place ys (n + 1) x) (is_same_text x y) refl h
  where
    by : (is_among x ys ≡ true → (p : ℕ) × (place_among ys (n + 1) x ≡ Some p)) → (b : Bool) → is_same_text x y ≡ b → (b || is_among x ys) ≡ true → (p : ℕ) × (place_among (y ∷ ys) n x ≡ Some p)
    by later true e k = (n, ap (λ (b : Bool). if b then Some n else place_among ys (n + 1) x) e)
    by later false e k = let rest = later k in (rest.0, ap (λ (b : Bool). if b then Some n else place_among ys (n + 1) x) e ∙ rest.1)

behind_both : (a b : ℕ) (o : Option ℕ) → number_behind (a + b) o ≡ number_behind a (number_behind b o)
behind_both a b None = refl
behind_both a b (Some p) = let same : a + b + p ≡ a + (b + p) = omega arith in ap (λ (n : ℕ). Some n) same

number_later : (u : ProgramUnit) (us : List ProgramUnit) (k : ℕ) (x : List ℕ) → formal_number (u ∷ us) (suc k) x ≡ number_behind (length u.formals) (formal_number us k x)
number_later u us k x = ap (λ (n : ℕ). number_behind n (place_among (formals_at us k) 0 x)) (length-append u.formals (flat_map (λ (v : ProgramUnit). v.formals) (take k us))) ∙ behind_both (length u.formals) (formal_count (take k us)) (place_among (formals_at us k) 0 x)

-- behind a number there is one only where there is one
taken_off : (a : ℕ) (o : Option ℕ) (n : ℕ) → number_behind a o ≡ Some n → (m : ℕ) × (o ≡ Some m) × (n ≡ a + m)
taken_off a None n h = absurd cc
taken_off a (Some m) n h = (m, refl, sym (inner (a + m) n h))
  where
    inner : (i j : ℕ) → Some i ≡ Some j → i ≡ j
    inner i j e = cc

-- a number with its dummy argument
pub record IsNumbered (us : List ProgramUnit) (k : ℕ) (x : List ℕ) (n : ℕ) : Type 0 where
  pub among : is_among x (formals_at us k) ≡ true
  pub below : n < formal_count us

pub numbered_there : (us : List ProgramUnit) (k : ℕ) (x : List ℕ) (n : ℕ) → formal_number us k x ≡ Some n → IsNumbered us k x n
numbered_there [] k x n h = absurd cc
numbered_there (u ∷ us) zero x n h =
    let off = taken_off 0 (place_among u.formals 0 x) n h in
    let place = placed_there u.formals 0 off.0 x off.1 in
    let below = place.below in
    let is = off.2 in
    let long = length-append u.formals (flat_map (λ (v : ProgramUnit). v.formals) us) in
    record { among = place.among; below = omega (arith, below, is, long) }
numbered_there (u ∷ us) (suc k) x n h =
    let off = taken_off (length u.formals) (formal_number us k x) n (sym (number_later u us k x) ∙ h) in
    let rest = numbered_there us k x off.0 off.1 in
    let below = rest.below in
    let is = off.2 in
    let long = length-append u.formals (flat_map (λ (v : ProgramUnit). v.formals) us) in
    record { among = rest.among; below = omega (arith, below, is, long) }

-- a dummy argument has a number
pub has_a_number : (us : List ProgramUnit) (k : ℕ) (x : List ℕ) → is_among x (formals_at us k) ≡ true → (n : ℕ) × (formal_number us k x ≡ Some n)
has_a_number us k x h = let place = has_a_place (formals_at us k) 0 x h in (formal_count (take k us) + place.0, ap (number_behind (formal_count (take k us))) place.1)

first_below : (u : ProgramUnit) (us : List ProgramUnit) (x : List ℕ) (n : ℕ) → formal_number (u ∷ us) zero x ≡ Some n → (n < length u.formals) × (get_or u.formals n [] ≡ x)
first_below u us x n h =
    let off = taken_off 0 (place_among u.formals 0 x) n h in
    let place = placed_there u.formals 0 off.0 x off.1 in
    let below = place.below in
    let is = off.2 in
    let same : n ≡ off.0 - 0 = omega (arith, is) in
    (omega (arith, below, is), ap (λ (j : ℕ). get_or u.formals j []) same ∙ place.there)

-- a number has one dummy argument
pub one_number : (us : List ProgramUnit) (k i : ℕ) (x y : List ℕ) (n : ℕ) → formal_number us k x ≡ Some n → formal_number us i y ≡ Some n → (k ≡ i) × (x ≡ y)
one_number [] k i x y n h g = absurd cc
one_number (u ∷ us) zero zero x y n h g = (refl, sym (first_below u us x n h).1 ∙ (first_below u us y n g).1)
one_number (u ∷ us) zero (suc i) x y n h g =
    let low = (first_below u us x n h).0 in
    let off = taken_off (length u.formals) (formal_number us i y) n (sym (number_later u us i y) ∙ g) in
    let is = off.2 in
    absurd (omega (arith, low, is))
one_number (u ∷ us) (suc k) zero x y n h g =
    let low = (first_below u us y n g).0 in
    let off = taken_off (length u.formals) (formal_number us k x) n (sym (number_later u us k x) ∙ h) in
    let is = off.2 in
    absurd (omega (arith, low, is))
one_number (u ∷ us) (suc k) (suc i) x y n h g =
    let one = taken_off (length u.formals) (formal_number us k x) n (sym (number_later u us k x) ∙ h) in
    let other = taken_off (length u.formals) (formal_number us i y) n (sym (number_later u us i y) ∙ g) in
    let is = one.2 in
    let also = other.2 in
    let same : other.0 ≡ one.0 = omega (arith, is, also) in
    let rest = one_number us k i x y one.0 one.1 (other.1 ∙ ap (λ (m : ℕ). Some m) same) in
    (ap suc rest.0, rest.1)
