-- The places of elements.
use Rattle.std.proofs.Common.{◌≡◌, ℕ, ◌+◌, ◌*◌, ◌/◌, ◌%◌, ◌<◌, ◌≤◌, ◌≤ℤ◌, ℤ, pos, negsuc, ◌-ℤ◌, List, [], ◌∷◌, length, Bool, true, false, ◌&&◌, Some, None, if◌then◌else◌, refl, sym, ap, ◌∙◌, arith}
use Rattle.std.specs.Prelude.{int_le}
use Rattle.std.proofs.lemmas.Bool.{and_parts}
use Rattle.std.proofs.lemmas.Int.{ints}
use Rattle.std.proofs.lemmas.Nat.{mul-add-lt, mul-le, div-mul-add, mod-mul-add}
use Rattle.ped_base.specs.Dimensions.{Dimensions}
use Rattle.ped_store.specs.Storage.{natural, extent, are_within}
use Rattle.ped_store.specs.Slots.{place, count, offset_within, place_within, place_in}

-- a subscript within its bounds lies below the extent
pub offset_less : (lower upper j : ℤ) → int_le lower j && int_le j upper ≡ true → natural (j -ℤ lower) < extent lower upper
offset_less lower upper j h = grind (arith, ints, h)

-- an element's place lies below their number
pub place_less : (lowers uppers js : List ℤ) → are_within lowers uppers js ≡ true → place lowers uppers js < count lowers uppers
place_less [] [] [] h = omega arith
place_less [] [] (j ∷ js) h = absurd cc
place_less [] (u ∷ us) js h = absurd cc
place_less (l ∷ ls) [] js h = absurd cc
place_less (l ∷ ls) (u ∷ us) [] h = absurd cc
place_less (l ∷ ls) (u ∷ us) (j ∷ js) h =
    let p = and_parts (int_le l j && int_le j u) (are_within ls us js) h in
    mul-add-lt (place ls us js) (extent l u) (natural (j -ℤ l)) (count ls us) (place_less ls us js p.1) (offset_less l u j p.0)

le_times : (a b : ℕ) → 0 < a → b ≤ a * b
le_times a b p = let q : 1 * b ≤ a * b = mul-le 1 b a b p (omega arith) in omega (arith, q)

-- a subscript that has an offset lies within its bounds
pub by_offset : (l u j : ℤ) (o : ℕ) → Some o ≡ offset_within l u j → (int_le l j && int_le j u ≡ true) × (o ≡ natural (j -ℤ l))
by_offset l u j o h = go (int_le l j && int_le j u) refl h
  where
    go : (b : Bool) → int_le l j && int_le j u ≡ b → Some o ≡ (if b then Some (natural (j -ℤ l)) else None) → (int_le l j && int_le j u ≡ true) × (o ≡ natural (j -ℤ l))
    go true p h = (p, cc)
    go false p h = absurd cc

-- one that has none doesn't
pub by_none : (l u j : ℤ) → None ≡ offset_within l u j → int_le l j && int_le j u ≡ false
by_none l u j h = go (int_le l j && int_le j u) refl h
  where
    go : (b : Bool) → int_le l j && int_le j u ≡ b → None ≡ (if b then Some (natural (j -ℤ l)) else None) → int_le l j && int_le j u ≡ false
    go true p h = absurd cc
    go false p h = p

-- with a first dimension in front the rest has no more places
pub fewer : (l u j : ℤ) (ls us : List ℤ) (o m : ℕ) → Some o ≡ offset_within l u j → count (l ∷ ls) (u ∷ us) < m → count ls us < m
fewer l u j ls us o m h k =
    let e = offset_less l u j (by_offset l u j o h).0 in
    let p : count ls us ≤ extent l u * count ls us = le_times (extent l u) (count ls us) (omega (arith, e)) in
    omega (arith, p, k)

-- no offset, no place
pub no_offset : (l u j : ℤ) (ls us js : List ℤ) → None ≡ offset_within l u j → None ≡ place_within (l ∷ ls) (u ∷ us) (j ∷ js)
no_offset l u j ls us js h = rw (by_none l u j h) refl

-- no place in the rest, no place
pub no_rest : (l u j : ℤ) (ls us js : List ℤ) (o : ℕ) → Some o ≡ offset_within l u j → None ≡ place_within ls us js → None ≡ place_within (l ∷ ls) (u ∷ us) (j ∷ js)
no_rest l u j ls us js o h k = rw ((by_offset l u j o h).0) (none_or (place ls us js) (place ls us js * extent l u + natural (j -ℤ l)) (are_within ls us js) k)
  where
    none_or : (n m : ℕ) (b : Bool) → None ≡ (if b then Some n else None) → None ≡ (if b then Some m else None)
    none_or n m true k = absurd cc
    none_or n m false k = refl

-- the place by the place in the rest
pub both : (l u j : ℤ) (ls us js : List ℤ) (o r : ℕ) → Some o ≡ offset_within l u j → Some r ≡ place_within ls us js → Some (r * extent l u + o) ≡ place_within (l ∷ ls) (u ∷ us) (j ∷ js)
both l u j ls us js o r h k =
    let p = by_offset l u j o h in
    rw (p.0, p.1) (go (are_within ls us js) k)
  where
    go : (b : Bool) → Some r ≡ (if b then Some (place ls us js) else None) → Some (r * extent l u + natural (j -ℤ l)) ≡ (if b then Some (place ls us js * extent l u + natural (j -ℤ l)) else None)
    go true k = let e : r ≡ place ls us js = cc in ap (λ n. Some (n * extent l u + natural (j -ℤ l))) e
    go false k = absurd cc

-- it lies below the number of places
pub place_below : (ls us js : List ℤ) (r : ℕ) → Some r ≡ place_within ls us js → r < count ls us
place_below ls us js r h = go (are_within ls us js) refl h
  where
    go : (b : Bool) → are_within ls us js ≡ b → Some r ≡ (if b then Some (place ls us js) else None) → r < count ls us
    go true p h = let e : r ≡ place ls us js = cc in rw e (place_less ls us js p)
    go false p h = absurd cc

-- and so it fits with what it is made of
pub bounded : (l u j : ℤ) (ls us js : List ℤ) (o r : ℕ) → Some o ≡ offset_within l u j → Some r ≡ place_within ls us js → r * extent l u + o < count (l ∷ ls) (u ∷ us)
bounded l u j ls us js o r h k = place_below (l ∷ ls) (u ∷ us) (j ∷ js) (r * extent l u + o) (both l u j ls us js o r h k)

-- the extent of a dimension is no more than the number of places
pub extent_below : (l u : ℤ) (ls us js : List ℤ) (r : ℕ) → Some r ≡ place_within ls us js → extent l u ≤ count (l ∷ ls) (u ∷ us)
extent_below l u ls us js r k =
    let p = place_below ls us js r k in
    let q : extent l u * 1 ≤ extent l u * count ls us = mul-le (extent l u) 1 (extent l u) (count ls us) (omega arith) (omega (arith, p)) in
    omega (arith, q)

natural_is : (z : ℤ) → pos 0 ≤ℤ z → pos (natural z) ≡ z
natural_is (pos n) h = refl
natural_is (negsuc n) h = absurd (omega (arith, ints, h))

one_subscript : (l u x y : ℤ) → int_le l x && int_le x u ≡ true → int_le l y && int_le y u ≡ true → natural (x -ℤ l) ≡ natural (y -ℤ l) → x ≡ y
one_subscript l u x y h k e =
    let p : int_le l x ≡ true = (and_parts (int_le l x) (int_le x u) h).0 in
    let q : int_le l y ≡ true = (and_parts (int_le l y) (int_le y u) k).0 in
    let m = natural_is (x -ℤ l) (omega (arith, ints, p)) in
    let n = natural_is (y -ℤ l) (omega (arith, ints, q)) in
    let d : x -ℤ l ≡ y -ℤ l = sym m ∙ ap pos e ∙ n in
    omega (arith, ints, d)

-- one place, one list of subscripts
pub place_same : (ls us js ks : List ℤ) → are_within ls us js ≡ true → are_within ls us ks ≡ true → place ls us js ≡ place ls us ks → js ≡ ks
place_same [] [] [] [] h k e = refl
place_same [] [] [] (x ∷ ks) h k e = absurd cc
place_same [] [] (x ∷ js) ks h k e = absurd cc
place_same [] (u ∷ us) js ks h k e = absurd cc
place_same (l ∷ ls) [] js ks h k e = absurd cc
place_same (l ∷ ls) (u ∷ us) [] ks h k e = absurd cc
place_same (l ∷ ls) (u ∷ us) (x ∷ js) [] h k e = absurd cc
place_same (l ∷ ls) (u ∷ us) (x ∷ js) (y ∷ ks) h k e =
    let p = and_parts (int_le l x && int_le x u) (are_within ls us js) h in
    let q = and_parts (int_le l y && int_le y u) (are_within ls us ks) k in
    let w = extent l u in
    let a = natural (x -ℤ l) in
    let b = natural (y -ℤ l) in
    let m = offset_less l u x p.0 in
    let n = offset_less l u y q.0 in
    let front : a ≡ b = sym (mod-mul-add (place ls us js) w a m) ∙ ap (λ z. z % w) e ∙ mod-mul-add (place ls us ks) w b n in
    let rest : place ls us js ≡ place ls us ks = sym (div-mul-add (place ls us js) w a m) ∙ ap (λ z. z / w) e ∙ div-mul-add (place ls us ks) w b n in
    let same : x ≡ y = one_subscript l u x y p.0 q.0 front in
    let others = place_same ls us js ks p.1 q.1 rest in
    λ i. same i ∷ others i

-- an element's place lies below the number of places
pub place_in_below : (bounds : Dimensions) (js : List ℤ) (r : ℕ) → Some r ≡ place_in bounds js → r < count bounds.lower bounds.upper
place_in_below bounds [] r h = absurd cc
place_in_below bounds (j ∷ js) r h = place_below bounds.lower bounds.upper (j ∷ js) r h

no_more : (b : Bool) (n : ℕ) → None ≡ (if b && false then Some n else None)
no_more true n = refl
no_more false n = refl

-- one subscript lies in no array with more lower bounds
pub one_of_lowers : (l u j : ℤ) (ls us : List ℤ) → 0 < length ls → None ≡ place_within (l ∷ ls) (u ∷ us) (j ∷ [])
one_of_lowers l u j [] us h = absurd (omega (arith, h))
one_of_lowers l u j (x ∷ ls) [] h = no_more (int_le l j && int_le j u) (place (l ∷ x ∷ ls) (u ∷ []) (j ∷ []))
one_of_lowers l u j (x ∷ ls) (y ∷ us) h = no_more (int_le l j && int_le j u) (place (l ∷ x ∷ ls) (u ∷ y ∷ us) (j ∷ []))
