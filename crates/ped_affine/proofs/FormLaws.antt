-- Forms within the limits, and forms whose coefficients are all zeros.
use Rattle.std.proofs.Common.{◌≡◌, ℕ, suc, ◌+◌, ◌^◌, List, [], ◌∷◌, ◌++◌, length, map, get_or, replicate, All, Bool, true, false, ◌&&◌, ◌||◌, subst, lit≤, refl, sym, ap, ◌∙◌, arith, ℤ, pos, neg_ℤ, ◌+ℤ◌, ◌-ℤ◌, ◌*ℤ◌, unsigned_abs, to_z, of_z, w64, Option, Some, None, if◌then◌else◌}
use Rattle.std.proofs.lemmas.Bool.{le-leb, leb-true, and_parts}
use Rattle.std.proofs.lemmas.Int.{ints}
use Rattle.std.proofs.lemmas.List.{length-map, length-replicate, replicate-append-replicate}
use Rattle.std.proofs.lemmas.List.Folds.{list_any-append}
use Rattle.std.proofs.lemmas.List.Elements.{All-head, All-tail, All-nil, All-cons, All-map, All-replicate}
use Rattle.std.specs.List.{list_all}
use Rattle.std.specs.Option.{ForSome}
use Rattle.std.specs.Int.{w128}
use Rattle.ped_base.specs.Lists.{is_same_text, is_among}
use Rattle.ped_views.specs.Whole.{is_zero}
use Rattle.ped_views.specs.Limits.{IsSmallConstant, IsSmallCoefficient}
use Rattle.ped_affine.specs.Ranges.{is_near}
use Rattle.ped_affine.specs.AffineForms.{AffineForm, form, is_small, within_limits, constant_form, unknown_coefficient, unknown_form, variable_form, combined, combined_form, combination, opposite, negation, times, product, is_constant_form}
use Rattle.ped_affine.specs.declared.forms.Form.{Form}
use Rattle.ped_affine.specs.KeptForms.{coefficients_of, form_kept, kept, IsOver}

-- zeros for the unknowns
abbrev pub zeros : List (List ℕ) → List ℤ
zeros unknowns = map (λ x. pos 0) unknowns

and_both : (a b : Bool) → a ≡ true → b ≡ true → (a && b) ≡ true
and_both a b p q = ap (λ (c : Bool). c && b) p ∙ q

and_not : (a b : Bool) → b ≡ false → (a && b) ≡ false
and_not true b q = q
and_not false b q = refl

-- ---- limits

pub near_is : (n : ℤ) → IsSmallConstant n → is_near n ≡ true
near_is n h = le-leb (unsigned_abs n) (2 ^ 62) h

pub is_near_is : (n : ℤ) → is_near n ≡ true → IsSmallConstant n
is_near_is n h = leb-true (unsigned_abs n) (2 ^ 62) h

zeros_small : (unknowns : List (List ℕ)) → list_all is_small (zeros unknowns) ≡ true
zeros_small [] = refl
zeros_small (x ∷ rest) = zeros_small rest

all_small : (xs : List ℤ) → All IsSmallCoefficient xs → list_all is_small xs ≡ true
all_small [] h = refl
all_small (x ∷ xs) h = and_both (is_small x) (list_all is_small xs) (le-leb (unsigned_abs x) (2 ^ 31) (All-head IsSmallCoefficient x xs h)) (all_small xs (All-tail IsSmallCoefficient x xs h))

coefficients_small : (unknowns : List (List ℕ)) (xs : List ℤ) → All IsSmallCoefficient xs → list_all is_small (coefficients_of unknowns xs) ≡ true
coefficients_small unknowns [] h = zeros_small unknowns
coefficients_small unknowns (x ∷ xs) h = all_small (x ∷ xs) h

chosen : {X : Type 0} (b : Bool) (x : X) → b ≡ true → (if b then Some x else None) ≡ Some x
chosen true x e = refl
chosen false x e = absurd cc

refused : {X : Type 0} (b : Bool) (x : X) → b ≡ false → (if b then Some x else None) ≡ None
refused false x e = refl
refused true x e = absurd cc

-- a form within the limits
within : (cs : List ℤ) (n : ℤ) → list_all is_small cs ≡ true → is_near n ≡ true → within_limits (form cs n) ≡ Some (form cs n)
within cs n p q = chosen (list_all is_small cs && is_near n) (form cs n) (and_both (list_all is_small cs) (is_near n) p q)

-- a form with a constant beyond them
pub far_constant : (cs : List ℤ) (n : ℤ) → is_near n ≡ false → within_limits (form cs n) ≡ None
far_constant cs n q = refused (list_all is_small cs && is_near n) (form cs n) (and_not (list_all is_small cs) (is_near n) q)

-- a form with a coefficient beyond them
pub great_coefficient : (cs : List ℤ) (n : ℤ) → list_all is_small cs ≡ false → within_limits (form cs n) ≡ None
great_coefficient cs n q = refused (list_all is_small cs && is_near n) (form cs n) (ap (λ (b : Bool). b && is_near n) q)

-- ---- what the code keeps

pub constant_is : (unknowns : List (List ℕ)) (xs : List ℤ) (n x : ℤ) → xs ≡ [] → x ≡ n → is_near n ≡ true → Some (form (coefficients_of unknowns xs) x) ≡ within_limits (constant_form unknowns n)
constant_is unknowns xs n x e f q =
    (λ i. Some (form (coefficients_of unknowns (e i)) (f i))) ∙ sym (within (zeros unknowns) n (zeros_small unknowns) q)

-- a form with another constant
pub constant_changed : (unknowns : List (List ℕ)) (xs : List ℤ) (n x : ℤ) → All IsSmallCoefficient xs → x ≡ n → is_near n ≡ true → Some (form (coefficients_of unknowns xs) x) ≡ within_limits (form (coefficients_of unknowns xs) n)
constant_changed unknowns xs n x h f q =
    ap (λ (y : ℤ). Some (form (coefficients_of unknowns xs) y)) f ∙ sym (within (coefficients_of unknowns xs) n (coefficients_small unknowns xs h) q)

-- ---- numbers within the limits

pub negations_small : (xs : List ℤ) → All IsSmallCoefficient xs → All IsSmallCoefficient (map neg_ℤ xs)
negations_small xs h = All-map IsSmallCoefficient neg_ℤ xs (λ k d l. opposite_small (get_or xs k d) (h k d l))
  where
    opposite_small : (x : ℤ) → IsSmallCoefficient x → IsSmallCoefficient (neg_ℤ x)
    opposite_small x h = omega (arith, ints)

pub smalls : (xs : List ℤ) → list_all is_small xs ≡ true → All IsSmallCoefficient xs
smalls [] h = All-nil IsSmallCoefficient
smalls (x ∷ xs) h =
    let p = and_parts (is_small x) (list_all is_small xs) h in
    All-cons IsSmallCoefficient x xs (leb-true (unsigned_abs x) (2 ^ 31) p.0) (smalls xs p.1)

small_again : (unknowns : List (List ℕ)) (xs : List ℤ) → list_all is_small xs ≡ true → list_all is_small (coefficients_of unknowns xs) ≡ true
small_again unknowns [] h = zeros_small unknowns
small_again unknowns (x ∷ xs) h = h

great_again : (unknowns : List (List ℕ)) (xs : List ℤ) → list_all is_small xs ≡ false → list_all is_small (coefficients_of unknowns xs) ≡ false
great_again unknowns [] h = absurd cc
great_again unknowns (x ∷ xs) h = h

-- as many coefficients again
pub complete_again : (unknowns : List (List ℕ)) (xs ys : List ℤ) → length ys ≡ length xs → length (coefficients_of unknowns xs) ≡ length unknowns → length (coefficients_of unknowns ys) ≡ length unknowns
complete_again unknowns [] [] e h = h
complete_again unknowns [] (y ∷ ys) e h = absurd (omega arith)
complete_again unknowns (x ∷ xs) [] e h = absurd (omega arith)
complete_again unknowns (x ∷ xs) (y ∷ ys) e h = e ∙ h

-- ---- the opposite

zeros_opposite : (unknowns : List (List ℕ)) → zeros unknowns ≡ map neg_ℤ (zeros unknowns)
zeros_opposite [] = refl
zeros_opposite (x ∷ rest) = ap (λ (xs : List ℤ). pos 0 ∷ xs) (zeros_opposite rest)

pub coefficients_opposite : (unknowns : List (List ℕ)) (xs : List ℤ) → coefficients_of unknowns (map neg_ℤ xs) ≡ map neg_ℤ (coefficients_of unknowns xs)
coefficients_opposite unknowns [] = zeros_opposite unknowns
coefficients_opposite unknowns (x ∷ xs) = refl

-- ---- multiples

zeros_times : (n : ℤ) (unknowns : List (List ℕ)) → zeros unknowns ≡ map (λ a. n *ℤ a) (zeros unknowns)
zeros_times n [] = refl
zeros_times n (x ∷ rest) = λ i. times_zero n i ∷ zeros_times n rest i
  where
    times_zero : (n : ℤ) → pos 0 ≡ n *ℤ pos 0
    times_zero n = omega (arith, ints)

pub coefficients_times : (n : ℤ) (unknowns : List (List ℕ)) (xs : List ℤ) → coefficients_of unknowns (map (λ a. n *ℤ a) xs) ≡ map (λ a. n *ℤ a) (coefficients_of unknowns xs)
coefficients_times n unknowns [] = zeros_times n unknowns
coefficients_times n unknowns (x ∷ xs) = refl

-- ---- zeros

zeros_are : (unknowns : List (List ℕ)) → list_all is_zero (zeros unknowns) ≡ true
zeros_are [] = refl
zeros_are (x ∷ rest) = zeros_are rest

pub coefficients_zero : (unknowns : List (List ℕ)) (xs : List ℤ) → list_all is_zero (coefficients_of unknowns xs) ≡ list_all is_zero xs
coefficients_zero unknowns [] = zeros_are unknowns
coefficients_zero unknowns (x ∷ xs) = refl

-- ---- sums

pub combined-zeros : (xs : List ℤ) (unknowns : List (List ℕ)) → length xs ≡ length unknowns → combined ◌+ℤ◌ xs (zeros unknowns) ≡ xs
combined-zeros [] unknowns e = refl
combined-zeros (x ∷ xs) [] e = absurd (omega arith)
combined-zeros (x ∷ xs) (y ∷ unknowns) e = λ i. add_zero x i ∷ combined-zeros xs unknowns (omega arith) i
  where
    add_zero : (x : ℤ) → x +ℤ pos 0 ≡ x
    add_zero x = omega (arith, ints)

pub zeros-combined : (xs : List ℤ) (unknowns : List (List ℕ)) → length xs ≡ length unknowns → combined ◌+ℤ◌ (zeros unknowns) xs ≡ xs
zeros-combined [] [] e = refl
zeros-combined [] (y ∷ unknowns) e = absurd (omega arith)
zeros-combined (x ∷ xs) [] e = absurd (omega arith)
zeros-combined (x ∷ xs) (y ∷ unknowns) e = λ i. zero_add x i ∷ zeros-combined xs unknowns (omega arith) i
  where
    zero_add : (x : ℤ) → pos 0 +ℤ x ≡ x
    zero_add x = omega (arith, ints)

pub length-combined : (f : ℤ → ℤ → ℤ) (xs ys : List ℤ) → length xs ≡ length ys → length (combined f xs ys) ≡ length xs
length-combined f [] ys e = refl
length-combined f (x ∷ xs) [] e = absurd (omega arith)
length-combined f (x ∷ xs) (y ∷ ys) e = ap suc (length-combined f xs ys (omega arith))

-- to add the opposite is to subtract
pub combined-opposite : (xs ys : List ℤ) → combined ◌+ℤ◌ xs (map neg_ℤ ys) ≡ combined ◌-ℤ◌ xs ys
combined-opposite [] ys = refl
combined-opposite (x ∷ xs) [] = refl
combined-opposite (x ∷ xs) (y ∷ ys) = ap (λ (zs : List ℤ). (x -ℤ y) ∷ zs) (combined-opposite xs ys)

-- ---- what the operations on forms keep

pub opposite_is : (unknowns : List (List ℕ)) (xs ys : List ℤ) (n x : ℤ) → ys ≡ map neg_ℤ xs → x ≡ neg_ℤ n → form (coefficients_of unknowns ys) x ≡ opposite (form (coefficients_of unknowns xs) n)
opposite_is unknowns xs ys n x e f = (λ i. form (coefficients_of unknowns (e i)) (f i)) ∙ ap (λ (cs : List ℤ). form cs (neg_ℤ n)) (coefficients_opposite unknowns xs)

-- a form that is kept is within the limits
pub kept_within : (unknowns : List (List ℕ)) (f : Form) → IsOver unknowns f → within_limits (form_kept unknowns f) ≡ Some (form_kept unknowns f)
kept_within unknowns f h = within (coefficients_of unknowns f.coefficients.items) f.constant (coefficients_small unknowns f.coefficients.items h.coefficients) (near_is f.constant h.constant)

-- the opposite of a form that is kept is within the limits
opposite_within : (unknowns : List (List ℕ)) (f : Form) → IsOver unknowns f → within_limits (opposite (form_kept unknowns f)) ≡ Some (opposite (form_kept unknowns f))
opposite_within unknowns f h =
    within (map neg_ℤ (coefficients_of unknowns f.coefficients.items)) (neg_ℤ f.constant)
    (ap (list_all is_small) (sym (coefficients_opposite unknowns f.coefficients.items)) ∙ coefficients_small unknowns (map neg_ℤ f.coefficients.items) (negations_small f.coefficients.items h.coefficients))
    (near_is (neg_ℤ f.constant) (opposite_near f.constant h.constant))
  where
    opposite_near : (x : ℤ) → IsSmallConstant x → IsSmallConstant (neg_ℤ x)
    opposite_near x h = omega (arith, ints)

-- a form and the opposite of another one
pub difference_is : (unknowns : List (List ℕ)) (s : Option AffineForm) (b : Option Form) → ForSome b (IsOver unknowns) → combination ◌+ℤ◌ s (negation (kept unknowns b)) ≡ combination ◌-ℤ◌ s (kept unknowns b)
difference_is unknowns None b h = refl
difference_is unknowns (Some s) None h = refl
difference_is unknowns (Some s) (Some f) h =
    ap (combination ◌+ℤ◌ (Some s)) (opposite_within unknowns f (h f refl))
    ∙ ap (λ (cs : List ℤ). within_limits (form cs (s.constant -ℤ f.constant))) (combined-opposite s.coefficients (coefficients_of unknowns f.coefficients.items))

pub multiple_is : (unknowns : List (List ℕ)) (xs ys : List ℤ) (n c x : ℤ) → ys ≡ map (λ a. n *ℤ a) xs → x ≡ n *ℤ c → list_all is_small (map (λ a. n *ℤ a) xs) ≡ true → is_near (n *ℤ c) ≡ true →
    Some (form (coefficients_of unknowns ys) x) ≡ within_limits (times n (form (coefficients_of unknowns xs) c))
multiple_is unknowns xs ys n c x e f p q =
    let t = coefficients_times n unknowns xs in
    (λ i. Some (form (coefficients_of unknowns (e i)) (f i))) ∙ ap (λ (cs : List ℤ). Some (form cs (n *ℤ c))) t
    ∙ sym (within (map (λ a. n *ℤ a) (coefficients_of unknowns xs)) (n *ℤ c) (ap (list_all is_small) (sym t) ∙ small_again unknowns (map (λ a. n *ℤ a) xs) p) q)

pub great_multiple : (unknowns : List (List ℕ)) (xs : List ℤ) (n c : ℤ) → list_all is_small (map (λ a. n *ℤ a) xs) ≡ false → within_limits (times n (form (coefficients_of unknowns xs) c)) ≡ None
great_multiple unknowns xs n c p =
    great_coefficient (map (λ a. n *ℤ a) (coefficients_of unknowns xs)) (n *ℤ c) (ap (list_all is_small) (sym (coefficients_times n unknowns xs)) ∙ great_again unknowns (map (λ a. n *ℤ a) xs) p)

pub product_first : (s t : AffineForm) → is_constant_form s ≡ true → within_limits (times s.constant t) ≡ product (Some s) (Some t)
product_first s t e = sym (ap (λ (b : Bool). if b then within_limits (times s.constant t) else (if is_constant_form t then within_limits (times t.constant s) else None)) e)

pub product_second : (s t : AffineForm) → is_constant_form s ≡ false → is_constant_form t ≡ true → within_limits (times t.constant s) ≡ product (Some s) (Some t)
product_second s t e f = sym (λ i. if e i then within_limits (times s.constant t) else (if f i then within_limits (times t.constant s) else None))

pub product_none : (s t : AffineForm) → is_constant_form s ≡ false → is_constant_form t ≡ false → None ≡ product (Some s) (Some t)
product_none s t e f = sym (λ i. if e i then within_limits (times s.constant t) else (if f i then within_limits (times t.constant s) else None))

-- coefficients of both forms
pub combined_again : (unknowns : List (List ℕ)) (f : ℤ → ℤ → ℤ) (xs ys : List ℤ) → ¬ (xs ≡ []) → ¬ (ys ≡ []) → coefficients_of unknowns (combined f xs ys) ≡ combined f (coefficients_of unknowns xs) (coefficients_of unknowns ys)
combined_again unknowns f [] ys p q = absurd (p refl)
combined_again unknowns f (x ∷ xs) [] p q = absurd (q refl)
combined_again unknowns f (x ∷ xs) (y ∷ ys) p q = refl

pub great_sum : (unknowns : List (List ℕ)) (xs : List ℤ) (n : ℤ) → list_all is_small xs ≡ false → within_limits (form (coefficients_of unknowns xs) n) ≡ None
great_sum unknowns xs n p = great_coefficient (coefficients_of unknowns xs) n (great_again unknowns xs p)

-- the code's test of a number that is shown otherwise
pub tested_near : (r b : Bool) (n y : ℤ) → r ≡ is_near y → y ≡ n → r ≡ b → is_near n ≡ b
tested_near r b n y e f g = ap is_near (sym f) ∙ sym e ∙ g

-- the constant that the code writes
pub written : (r n : ℤ) → r ≡ n → IsSmallConstant n → to_z w64 (of_z w64 (to_z w128 (of_z w128 r))) ≡ n
written r n e h = omega (arith, ints)

pub nil_of : (xs : List ℤ) → length xs ≡ 0 → xs ≡ []
nil_of [] e = refl
nil_of (x ∷ xs) e = absurd (omega arith)

-- a sum with a constant
pub total_with_second : (unknowns : List (List ℕ)) (xs ys : List ℤ) (n m y : ℤ) → ys ≡ [] → length (coefficients_of unknowns xs) ≡ length unknowns → y ≡ m →
    within_limits (form (coefficients_of unknowns xs) (n +ℤ y)) ≡ within_limits (combined_form ◌+ℤ◌ (form (coefficients_of unknowns xs) n) (form (coefficients_of unknowns ys) m))
total_with_second unknowns xs ys n m y e h f =
    (λ i. within_limits (form (sym (combined-zeros (coefficients_of unknowns xs) unknowns h) i) (n +ℤ f i)))
    ∙ ap (λ (zs : List ℤ). within_limits (combined_form ◌+ℤ◌ (form (coefficients_of unknowns xs) n) (form (coefficients_of unknowns zs) m))) (sym e)

pub total_with_first : (unknowns : List (List ℕ)) (xs ys : List ℤ) (n m x : ℤ) → xs ≡ [] → length (coefficients_of unknowns ys) ≡ length unknowns → x ≡ n →
    within_limits (form (coefficients_of unknowns ys) (m +ℤ x)) ≡ within_limits (combined_form ◌+ℤ◌ (form (coefficients_of unknowns xs) n) (form (coefficients_of unknowns ys) m))
total_with_first unknowns xs ys n m x e h f =
    let c : m +ℤ x ≡ n +ℤ m = omega (arith, ints) in
    (λ i. within_limits (form (sym (zeros-combined (coefficients_of unknowns ys) unknowns h) i) (c i)))
    ∙ ap (λ (zs : List ℤ). within_limits (combined_form ◌+ℤ◌ (form (coefficients_of unknowns zs) n) (form (coefficients_of unknowns ys) m))) (sym e)

-- as many coefficients of both
pub as_many : (unknowns : List (List ℕ)) (xs ys : List ℤ) → ¬ (xs ≡ []) → ¬ (ys ≡ []) → length (coefficients_of unknowns xs) ≡ length unknowns → length (coefficients_of unknowns ys) ≡ length unknowns → length xs ≡ length ys
as_many unknowns [] ys p q e f = absurd (p refl)
as_many unknowns (x ∷ xs) [] p q e f = absurd (q refl)
as_many unknowns (x ∷ xs) (y ∷ ys) p q e f = e ∙ sym f

-- ---- variables

is_among-append : (x : List ℕ) (xs ys : List (List ℕ)) → (is_among x xs || is_among x ys) ≡ is_among x (xs ++ ys)
is_among-append x xs ys = sym (list_any-append (is_same_text x) xs ys)

-- a name is one of the loops' or of the others
pub unknown_is : (x : List ℕ) (xs ys : List (List ℕ)) (a b r : Bool) → a ≡ is_among x xs → b ≡ is_among x ys → r ≡ (a || b) → r ≡ is_among x (xs ++ ys)
unknown_is x xs ys a b r e f g = g ∙ (λ i. e i || f i) ∙ is_among-append x xs ys

unknown_small : (x y : List ℕ) → IsSmallCoefficient (unknown_coefficient x y)
unknown_small x y = by_test (is_same_text x y)
  where
    by_test : (b : Bool) → IsSmallCoefficient (if b then pos 1 else pos 0)
    by_test true = lit≤ tt
    by_test false = lit≤ tt

pub unknowns_small : (x : List ℕ) (unknowns : List (List ℕ)) → All IsSmallCoefficient (map (unknown_coefficient x) unknowns)
unknowns_small x [] = All-nil IsSmallCoefficient
unknowns_small x (y ∷ rest) = All-cons IsSmallCoefficient (unknown_coefficient x y) (map (unknown_coefficient x) rest) (unknown_small x y) (unknowns_small x rest)

unknowns_complete : (x : List ℕ) (unknowns : List (List ℕ)) → coefficients_of unknowns (map (unknown_coefficient x) unknowns) ≡ map (unknown_coefficient x) unknowns
unknowns_complete x [] = refl
unknowns_complete x (y ∷ rest) = refl

pub variable_is : (x : List ℕ) (unknowns : List (List ℕ)) (xs : List ℤ) → xs ≡ map (unknown_coefficient x) unknowns → is_among x unknowns ≡ true → Some (form (coefficients_of unknowns xs) (pos 0)) ≡ variable_form unknowns x
variable_is x unknowns xs e h =
    ap (λ (ys : List ℤ). Some (form (coefficients_of unknowns ys) (pos 0))) e ∙ ap (λ (ys : List ℤ). Some (form ys (pos 0))) (unknowns_complete x unknowns)
    ∙ sym (within (map (unknown_coefficient x) unknowns) (pos 0) (all_small (map (unknown_coefficient x) unknowns) (unknowns_small x unknowns)) refl)
    ∙ sym (ap (λ (b : Bool). if b then within_limits (unknown_form unknowns x) else None) h)

pub length-unknowns : (x : List ℕ) (unknowns : List (List ℕ)) → length (coefficients_of unknowns (map (unknown_coefficient x) unknowns)) ≡ length unknowns
length-unknowns x unknowns = ap length (unknowns_complete x unknowns) ∙ length-map unknowns (unknown_coefficient x)

-- ---- zeros written out

pub zeros_written : (unknowns : List (List ℕ)) (n m : ℕ) → length unknowns ≡ n + m → replicate n (pos 0) ++ replicate m (pos 0) ≡ zeros unknowns
zeros_written unknowns n m e = replicate-append-replicate n m (pos 0) ∙ ap (λ (k : ℕ). replicate k (pos 0)) (sym e) ∙ all_zeros unknowns
  where
    all_zeros : (unknowns : List (List ℕ)) → replicate (length unknowns) (pos 0) ≡ zeros unknowns
    all_zeros [] = refl
    all_zeros (x ∷ rest) = ap (λ (xs : List ℤ). pos 0 ∷ xs) (all_zeros rest)

pub filled_is : (unknowns : List (List ℕ)) (xs zs : List ℤ) (n m : ℕ) (c x : ℤ) → xs ≡ [] → zs ≡ replicate n (pos 0) ++ replicate m (pos 0) → length unknowns ≡ n + m → x ≡ c → form zs x ≡ form (coefficients_of unknowns xs) c
filled_is unknowns xs zs n m c x e f h g =
    (λ i. form ((f ∙ zeros_written unknowns n m h) i) (g i)) ∙ ap (λ (ys : List ℤ). form (coefficients_of unknowns ys) c) (sym e)

pub filled_complete : (unknowns : List (List ℕ)) (zs : List ℤ) (n m : ℕ) → zs ≡ replicate n (pos 0) ++ replicate m (pos 0) → length unknowns ≡ n + m → (length zs ≡ length unknowns) × All IsSmallCoefficient zs
filled_complete unknowns zs n m f h =
    let e : zs ≡ replicate (n + m) (pos 0) = f ∙ replicate-append-replicate n m (pos 0) in
    (ap length e ∙ length-replicate (n + m) (pos 0) ∙ sym h, subst (All IsSmallCoefficient) (sym e) (All-replicate IsSmallCoefficient (n + m) (pos 0) (lit≤ tt)))
