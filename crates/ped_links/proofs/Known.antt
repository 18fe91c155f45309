-- Whether something holds is known, by cases.
use Rattle.std.proofs.Common.{◌≡◌, ◌⊎◌, inl, inr, ℕ, zero, suc, ◌<◌, ℤ, pos, negsuc, List, [], ◌∷◌, Bool, true, false, Option, Some, None, refl, sym, ap, subst, arith}
use Rattle.ped_base.specs.Dimensions.{Dimensions}
use Rattle.ped_units.specs.Linking.{IsIn}

-- it holds, or it doesn't
pub data IsKnown (P : Type 0) : Type 0 where
  holds : P → IsKnown P
  fails : (P → ⊥) → IsKnown P

never : false ≡ true → ⊥
never h = cc

pub known_true : (b : Bool) → IsKnown (b ≡ true)
known_true true = holds refl
known_true false = fails never

pub known_false : (b : Bool) → IsKnown (b ≡ false)
known_false false = holds refl
known_false true = fails (λ h. never (sym h))

pub known_either : {P Q : Type 0} → IsKnown P → IsKnown Q → IsKnown (P ⊎ Q)
known_either (holds p) q = holds (inl p)
known_either (fails n) (holds q) = holds (inr q)
known_either (fails n) (fails m) = fails (λ h. elim h [ inl p ↦ n p | inr q ↦ m q ])

pub known_both : {P Q : Type 0} → IsKnown P → IsKnown Q → IsKnown (P × Q)
known_both (holds p) (holds q) = holds (p, q)
known_both (holds p) (fails m) = fails (λ h. m h.1)
known_both (fails n) q = fails (λ h. n h.0)

pub known_not : {P : Type 0} → IsKnown P → IsKnown (P → ⊥)
known_not (holds p) = fails (λ n. n p)
known_not (fails n) = holds n

pub known_as : {P Q : Type 0} → (P → Q) → (Q → P) → IsKnown P → IsKnown Q
known_as f g (holds p) = holds (f p)
known_as f g (fails n) = fails (λ q. n (g q))

-- one of a list
pub record HasOne {X : Type 0} (P : X → Type 0) (xs : List X) : Type 0 where
  pub one : X
  pub is_in : IsIn one xs
  pub stands : P one

known_first : {X : Type 0} (P : X → Type 0) (x : X) (xs : List X) → IsKnown (P x) → IsKnown (HasOne P xs) → IsKnown (HasOne P (x ∷ xs))
known_first P x xs (holds p) rest = holds (record { one = x; is_in = inl refl; stands = p })
known_first P x xs (fails n) (holds r) = holds (record { one = r.one; is_in = inr r.is_in; stands = r.stands })
known_first P x xs (fails n) (fails m) =
    fails (λ h. elim h.is_in [ inl e ↦ n (subst P e h.stands) | inr i ↦ m (record { one = h.one; is_in = i; stands = h.stands }) ])

pub known_one : {X : Type 0} (P : X → Type 0) (xs : List X) → ((x : X) → IsIn x xs → IsKnown (P x)) → IsKnown (HasOne P xs)
known_one P [] k = fails (λ h. h.is_in)
known_one P (x ∷ xs) k = known_first P x xs (k x (inl refl)) (known_one P xs (λ y i. k y (inr i)))

-- the same number
pub known_number : (a b : ℕ) → IsKnown (a ≡ b)
known_number zero zero = holds refl
known_number zero (suc b) = fails (λ e. absurd (omega (arith, e)))
known_number (suc a) zero = fails (λ e. absurd (omega (arith, e)))
known_number (suc a) (suc b) = known_as (λ e. ap suc e) (λ e. omega (arith, e)) (known_number a b)

pub known_less : (a b : ℕ) → IsKnown (a < b)
known_less a zero = fails (λ h. absurd (omega (arith, h)))
known_less zero (suc b) = holds (omega arith)
known_less (suc a) (suc b) = known_as (λ h. omega (arith, h)) (λ h. omega (arith, h)) (known_less a b)

pub known_member : (x : ℕ) (xs : List ℕ) → IsKnown (IsIn x xs)
known_member x [] = fails (λ h. h)
known_member x (y ∷ ys) = known_either (known_number x y) (known_member x ys)

-- the same where there is one
pub known_option : {X : Type 0} → ((x y : X) → IsKnown (x ≡ y)) → (o : Option X) (x : X) → IsKnown (o ≡ Some x)
known_option {X} k None x = fails none
  where
    none : ◌≡◌ {A = Option X} None (Some x) → ⊥
    none e = cc
known_option k (Some y) x = known_as (λ e. ap Some e) inner (k y x)
  where
    inner : Some y ≡ Some x → y ≡ x
    inner e = cc

pub known_some : (o : Option ℕ) (n : ℕ) → IsKnown (o ≡ Some n)
known_some o n = known_option known_number o n

pub known_none : {X : Type 0} (o : Option X) → IsKnown (o ≡ None)
known_none None = holds refl
known_none {X} (Some x) = fails some
  where
    some : ◌≡◌ {A = Option X} (Some x) None → ⊥
    some e = cc

-- something of what there is
pub known_there : {X : Type 0} (o : Option X) (P : X → Type 0) → ((x : X) → o ≡ Some x → IsKnown (P x)) → IsKnown ((x : X) × (o ≡ Some x) × P x)
known_there {X} None P k = fails (λ h. none h.0 h.1)
  where
    none : (x : X) → ◌≡◌ {A = Option X} None (Some x) → ⊥
    none x e = cc
known_there {X} (Some y) P k = known_as (λ p. (y, refl, p)) (λ h. subst P (sym (inner h.0 h.1)) h.2) (k y refl)
  where
    inner : (x : X) → Some y ≡ Some x → y ≡ x
    inner x e = cc

-- the same list
pub known_list : {X : Type 0} → ((x y : X) → IsKnown (x ≡ y)) → (xs ys : List X) → IsKnown (xs ≡ ys)
known_list k [] [] = holds refl
known_list {X} k [] (y ∷ ys) = fails empty
  where
    empty : ◌≡◌ {A = List X} [] (y ∷ ys) → ⊥
    empty e = cc
known_list {X} k (x ∷ xs) [] = fails empty
  where
    empty : ◌≡◌ {A = List X} (x ∷ xs) [] → ⊥
    empty e = cc
known_list {X} k (x ∷ xs) (y ∷ ys) = known_as together apart (known_both (k x y) (known_list k xs ys))
  where
    together : (x ≡ y) × (xs ≡ ys) → x ∷ xs ≡ y ∷ ys
    together h = λ i. h.0 i ∷ h.1 i

    head_same : x ∷ xs ≡ y ∷ ys → x ≡ y
    head_same e = cc

    rest_same : x ∷ xs ≡ y ∷ ys → xs ≡ ys
    rest_same e = cc

    apart : x ∷ xs ≡ y ∷ ys → (x ≡ y) × (xs ≡ ys)
    apart e = (head_same e, rest_same e)

pub known_text : (x y : List ℕ) → IsKnown (x ≡ y)
known_text x y = known_list known_number x y

known_integer : (x y : ℤ) → IsKnown (x ≡ y)
known_integer (pos a) (pos b) = known_as (λ e. ap pos e) inner (known_number a b)
  where
    inner : pos a ≡ pos b → a ≡ b
    inner e = cc
known_integer (negsuc a) (negsuc b) = known_as (λ e. ap negsuc e) inner (known_number a b)
  where
    inner : negsuc a ≡ negsuc b → a ≡ b
    inner e = cc
known_integer (pos a) (negsuc b) = fails apart
  where
    apart : pos a ≡ negsuc b → ⊥
    apart e = cc
known_integer (negsuc a) (pos b) = fails apart
  where
    apart : negsuc a ≡ pos b → ⊥
    apart e = cc

-- the same bounds
pub known_dimensions : (c d : Dimensions) → IsKnown (c ≡ d)
known_dimensions c d =
    known_as (λ h. λ i. record { lower = h.0 i; upper = h.1 i }) (λ e. (ap (λ (x : Dimensions). x.lower) e, ap (λ (x : Dimensions). x.upper) e))
    (known_both (known_list known_integer c.lower d.lower) (known_list known_integer c.upper d.upper))

pub known_bounds : (o : Option Dimensions) (d : Dimensions) → IsKnown (o ≡ Some d)
known_bounds o d = known_option known_dimensions o d

pub known_name : (o : Option (List ℕ)) (x : List ℕ) → IsKnown (o ≡ Some x)
known_name o x = known_option known_text o x
