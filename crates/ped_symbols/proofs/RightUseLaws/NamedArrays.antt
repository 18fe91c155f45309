-- The arrays among the names of a program, and how many elements they have.
use Rattle.std.proofs.Common.{◌≡◌, ℕ, ◌+◌, ◌≤◌, ℤ, List, [], ◌∷◌, map, Bool, true, false, Option, Some, None, refl, ap, sym, ◌∙◌, arith, if◌then◌else◌}
use Rattle.std.proofs.lemmas.Bool.{or_parts, and_from}
use Rattle.std.proofs.lemmas.List.Sums.{sum_by-cons}
use Rattle.ped_base.specs.Dimensions.{Dimensions}
use Rattle.ped_base.specs.Lists.{is_same_text, is_among}
use Rattle.ped_base.proofs.NameEquality.{same_flip, same_is}
use Rattle.ped_symbols.specs.declared.symbols.Kind.{Kind}
use Rattle.ped_symbols.specs.Entries.{entry_of}
use Rattle.ped_symbols.specs.Values.{Values}
use Rattle.ped_symbols.specs.Arrays.{Arrays}
use Rattle.ped_symbols.specs.StorageLimits.{elements, elements_of}
use Rattle.ped_symbols.specs.NameRefusals.{has_twice}
use Rattle.ped_symbols.specs.Kinds.{kind_by, kind_among}
use Rattle.ped_symbols.specs.RightUses.RightArrays.{array_is_right, arrays_are_right, kind_is_right, kinds_are_right, kind_elements, kinds_elements}
use Rattle.ped_symbols.proofs.RightUseLaws.UseKinds.{found_right}

kind_right : (value : Option ℤ) (found : Option Dimensions) → ((d : Dimensions) → found ≡ Some d → array_is_right d ≡ true) → kind_is_right (kind_by value found) ≡ true
kind_right (Some n) found h = refl
kind_right None None h = refl
kind_right None (Some d) h = h d refl

-- names with what they stand for, where the arrays are right
pub kinds_right : (values : Values) (arrays : Arrays) (names : List (List ℕ)) → arrays_are_right arrays ≡ true → kinds_are_right (map (λ x. (x, kind_among values arrays x)) names) ≡ true
kinds_right values arrays [] h = refl
kinds_right values arrays (x ∷ xs) h = and_from _ _ (kind_right (entry_of values x) (entry_of arrays x) (λ d e. found_right arrays x d h e)) (kinds_right values arrays xs h)

-- how many elements an array has, where there is one
abbrev found_elements : Option Dimensions → ℕ
found_elements None = 0
found_elements (Some d) = elements d

-- how many elements the names have that are found as arrays
abbrev named_elements : (List ℕ → Option Dimensions) → List (List ℕ) → ℕ
named_elements found [] = 0
named_elements found (x ∷ xs) = found_elements (found x) + named_elements found xs

kind_within : (value : Option ℤ) (found : Option Dimensions) → kind_elements (kind_by value found) ≤ found_elements found
kind_within (Some n) found = omega arith
kind_within None None = omega arith
kind_within None (Some d) = omega arith

kinds_within : (values : Values) (arrays : Arrays) (names : List (List ℕ)) → kinds_elements (map (λ x. (x, kind_among values arrays x)) names) ≤ named_elements (entry_of arrays) names
kinds_within values arrays [] = omega arith
kinds_within values arrays (x ∷ xs) =
    let split = sum_by-cons (λ (e : List ℕ × Kind). kind_elements e.1) (x, kind_among values arrays x) (map (λ x. (x, kind_among values arrays x)) xs) in
    let one = kind_within (entry_of values x) (entry_of arrays x) in
    let others = kinds_within values arrays xs in
    omega (arith, split, one, others)

-- the same of an array in front that no name is
other_names : (found : List ℕ → Option Dimensions) (k : List ℕ) (d : Dimensions) (names : List (List ℕ)) → is_among k names ≡ false
    → named_elements (λ x. if is_same_text x k then Some d else found x) names ≡ named_elements found names
other_names found k d [] h = refl
other_names found k d (x ∷ xs) h =
    let p = or_parts (is_same_text k x) (is_among k xs) h in
    let differ : is_same_text x k ≡ false = same_flip x k ∙ p.0 in
    (λ i. found_elements (if differ i then Some d else found x) + other_names found k d xs p.1 i)

-- an array in front counts once
one_more_array : (found : List ℕ → Option Dimensions) (k : List ℕ) (d : Dimensions) (names : List (List ℕ)) → has_twice names ≡ false
    → named_elements (λ x. if is_same_text x k then Some d else found x) names ≤ elements d + named_elements found names
one_more_array found k d [] h = omega arith
one_more_array found k d (x ∷ xs) h =
    let p = or_parts (is_among x xs) (has_twice xs) h in
    go (is_same_text x k) refl p.0 (one_more_array found k d xs p.1)
  where
    go : (r : Bool) → is_same_text x k ≡ r → is_among x xs ≡ false → named_elements (λ x. if is_same_text x k then Some d else found x) xs ≤ elements d + named_elements found xs
        → found_elements (if r then Some d else found x) + named_elements (λ x. if is_same_text x k then Some d else found x) xs ≤ elements d + (found_elements (found x) + named_elements found xs)
    go true e a h = let same = other_names found k d xs (ap (λ (z : List ℕ). is_among z xs) (sym (same_is x k e)) ∙ a) in omega (arith, same)
    go false e a h = omega (arith, h)

no_array_found : (names : List (List ℕ)) → named_elements (λ x. None) names ≡ 0
no_array_found [] = refl
no_array_found (x ∷ xs) = let rest = no_array_found xs in omega (arith, rest)

names_within : (arrays : Arrays) (names : List (List ℕ)) → has_twice names ≡ false → named_elements (entry_of arrays) names ≤ elements_of arrays
names_within [] names h = let none = no_array_found names in omega (arith, none)
names_within (a ∷ rest) names h =
    let split = sum_by-cons (λ (a : List ℕ × Dimensions). elements a.1) a rest in
    let one = one_more_array (entry_of rest) a.0 a.1 names h in
    let others = names_within rest names h in
    omega (arith, split, one, others)

-- names that stand once have no more elements than the arrays together
pub few_elements_named : (values : Values) (arrays : Arrays) (names : List (List ℕ)) → has_twice names ≡ false → kinds_elements (map (λ x. (x, kind_among values arrays x)) names) ≤ elements_of arrays
few_elements_named values arrays names h = let by_names = kinds_within values arrays names in let by_arrays = names_within arrays names h in omega (arith, by_names, by_arrays)
