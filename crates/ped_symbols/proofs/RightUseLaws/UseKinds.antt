-- Each use of a name in a valid program is one that a name of its kind may have.
use Rattle.std.proofs.Common.{◌≡◌, ℕ, zero, suc, ◌≤◌, ℤ, List, [], ◌∷◌, length, map, ◌++◌, Bool, true, false, Option, Some, None, refl, ap, sym, ◌∙◌, arith, if◌then◌else◌}
use Rattle.std.specs.Prelude.{◌&&◌, ◌||◌, ◌==◌, nat_lt}
use Rattle.std.specs.List.{list_any, list_all}
use Rattle.std.proofs.lemmas.Bool.{or_parts, or_right, and_parts, and_from, eqb-true, leb-true, lt-ltb, not-false}
use Rattle.ped_base.specs.Dimensions.{Dimensions}
use Rattle.ped_base.specs.Lists.{is_same_text, is_among}
use Rattle.ped_base.proofs.NameEquality.{same_is, same_itself as same_text}
use Rattle.ped_symbols.specs.declared.uses.Role.{Role}
use Rattle.ped_symbols.specs.declared.uses.Role.TheVariants.{Typed, Dimensioned, Named, Saved, Rejected, Private, Index, Assigned, Operand}
use Rattle.ped_symbols.specs.declared.uses.Use.{Use}
use Rattle.ped_symbols.specs.declared.symbols.Kind.{Kind}
use Rattle.ped_symbols.specs.Entries.{entry_of}
use Rattle.ped_symbols.specs.Declarations.{Declared, is_constant, or_zero, rank_by, ranks_in, given_rank, rank_of}
use Rattle.ped_symbols.specs.Values.{Values}
use Rattle.ped_symbols.specs.Arrays.{Arrays}
use Rattle.ped_symbols.specs.NameRefusals.{uses_constant, uses_other_rank, differs}
use Rattle.ped_symbols.specs.Kinds.{kind_by, kind_among}
use Rattle.ped_symbols.specs.RightUses.RightUses.{NameKinds, is_scalar_kind, is_value_kind, is_variable_kind, is_array_kind, is_rank}
use Rattle.ped_symbols.specs.RightUses.RightArrays.{bounds_are_right, array_is_right, arrays_are_right}
use Rattle.ped_symbols.proofs.RightUseLaws.DeclaredArrays.{rank_entry, Tells}

-- a use in such a role is one that a name of the kind may have
abbrev pub role_is_right : Role → Option Kind → Bool
role_is_right Typed kind = true
role_is_right (Dimensioned n) kind = true
role_is_right Named kind = true
role_is_right Saved kind = is_variable_kind kind
role_is_right Rejected kind = true
role_is_right Private kind = is_scalar_kind kind
role_is_right Index kind = is_scalar_kind kind
role_is_right (Assigned zero) kind = is_scalar_kind kind
role_is_right (Assigned (suc n)) kind = is_array_kind (suc n) kind && is_rank (suc n)
role_is_right (Operand zero) kind = is_value_kind kind
role_is_right (Operand (suc n)) kind = is_array_kind (suc n) kind && is_rank (suc n)

-- a use is one that the name's kind may have
abbrev pub use_is_right : NameKinds → Use → Bool
use_is_right k u = role_is_right u.role (k u.name)

-- what is known of constants and arrays by the declarations
pub record Known (d : Declared) (values : Values) (arrays : Arrays) : Type 0 where
  pub constants : (x : List ℕ) → is_constant d x ≡ false → entry_of values x ≡ None
  pub unused : list_any (uses_constant d) d.uses ≡ false
  pub told : Tells d.uses arrays

-- the number of dimensions of an array, where there is one
abbrev rank_in : Option Dimensions → Option ℕ
rank_in None = None
rank_in (Some d) = Some (length d.lower)

rank_found : (arrays : Arrays) (x : List ℕ) → entry_of (map rank_entry arrays) x ≡ rank_in (entry_of arrays x)
rank_found [] x = refl
rank_found (a ∷ rest) x = go (is_same_text x a.0) (rank_found rest x)
  where
    go : (r : Bool) → entry_of (map rank_entry rest) x ≡ rank_in (entry_of rest x) → (if r then Some (length a.1.lower) else entry_of (map rank_entry rest) x) ≡ rank_in (if r then Some a.1 else entry_of rest x)
    go true h = refl
    go false h = h

-- the array that is found is right
pub found_right : (arrays : Arrays) (x : List ℕ) (d : Dimensions) → arrays_are_right arrays ≡ true → entry_of arrays x ≡ Some d → array_is_right d ≡ true
found_right [] x d h k = absurd cc
found_right (a ∷ rest) x d h k =
    let p = and_parts (array_is_right a.1) (arrays_are_right rest) h in
    go (is_same_text x a.0) p.0 (found_right rest x d p.1) k
  where
    go : (r : Bool) → array_is_right a.1 ≡ true → (entry_of rest x ≡ Some d → array_is_right d ≡ true) → (if r then Some a.1 else entry_of rest x) ≡ Some d → array_is_right d ≡ true
    go true p f k = let same : a.1 ≡ d = cc in ap array_is_right (sym same) ∙ p
    go false p f k = f k

ungiven_by : (d : Declared) (x y : List ℕ) (role : Role) (rest : List (List ℕ × ℕ)) → is_constant d x ≡ true → uses_constant d (record { name = y; role = role }) ≡ false → entry_of rest x ≡ None
    → entry_of (rank_by y role ++ rest) x ≡ None
ungiven_by d x y Typed rest e n h = h
ungiven_by d x y (Dimensioned count) rest e n h = go (is_same_text x y) refl
  where
    go : (r : Bool) → is_same_text x y ≡ r → (if r then Some count else entry_of rest x) ≡ None
    go true same = absurd (let clash : true ≡ false = sym e ∙ ap (is_constant d) (same_is x y same) ∙ n in cc)
    go false same = h
ungiven_by d x y Named rest e n h = h
ungiven_by d x y Saved rest e n h = h
ungiven_by d x y Rejected rest e n h = h
ungiven_by d x y Private rest e n h = h
ungiven_by d x y Index rest e n h = h
ungiven_by d x y (Assigned count) rest e n h = h
ungiven_by d x y (Operand count) rest e n h = h

-- uses that use no constant as a variable give a constant no dimensions
ungiven : (d : Declared) (us : List Use) (x : List ℕ) → is_constant d x ≡ true → list_any (uses_constant d) us ≡ false → entry_of (ranks_in us) x ≡ None
ungiven d [] x e n = refl
ungiven d (u ∷ us) x e n =
    let p = or_parts (uses_constant d u) (list_any (uses_constant d) us) n in
    ungiven_by d x u.name u.role (ranks_in us) e p.0 (ungiven d us x e p.1)

-- so each name has as many dimensions as declarations give it
as_given : (d : Declared) (x : List ℕ) → list_any (uses_constant d) d.uses ≡ false → rank_of d x ≡ given_rank d.uses x
as_given d x n = go (is_constant d x) refl
  where
    go : (r : Bool) → is_constant d x ≡ r → (if r then 0 else given_rank d.uses x) ≡ given_rank d.uses x
    go true e = ap or_zero (sym (ungiven d d.uses x e n))
    go false e = refl

rank_is : (d : Declared) (arrays : Arrays) (x : List ℕ) → list_any (uses_constant d) d.uses ≡ false → Tells d.uses arrays → rank_of d x ≡ or_zero (rank_in (entry_of arrays x))
rank_is d arrays x n t = as_given d x n ∙ ap (λ (es : List (List ℕ × ℕ)). or_zero (entry_of es x)) (sym t.ranks) ∙ ap or_zero (rank_found arrays x)

as_many : (lower upper : List ℤ) → bounds_are_right lower upper ≡ true → length upper ≡ length lower
as_many [] [] h = refl
as_many [] (u ∷ upper) h = absurd cc
as_many (l ∷ lower) [] h = absurd cc
as_many (l ∷ lower) (u ∷ upper) h = ap suc (as_many lower upper (and_parts _ (bounds_are_right lower upper) h).1)

-- what a name stands for, by what is found of it
record Finds (d : Declared) (x : List ℕ) (found : Option Dimensions) : Type 0 where
  rank : rank_of d x ≡ or_zero (rank_in found)
  right : (a : Dimensions) → found ≡ Some a → array_is_right a ≡ true

finds : (d : Declared) (values : Values) (arrays : Arrays) → Known d values arrays → (x : List ℕ) → Finds d x (entry_of arrays x)
finds d values arrays k x = record { rank = rank_is d arrays x k.unused k.told; right = λ a e. found_right arrays x a k.told.right e }

at_least_one : (a : Dimensions) → array_is_right a ≡ true → 1 ≤ length a.lower
at_least_one a h = leb-true 1 (length a.lower) (and_parts _ _ (and_parts _ _ h).0).0

-- a name without dimensions has no array
no_array : (d : Declared) (x : List ℕ) (found : Option Dimensions) → Finds d x found → rank_of d x ≡ 0 → found ≡ None
no_array d x None f e = refl
no_array d x (Some a) f e = let one = at_least_one a (f.right a refl) in let rank = f.rank in absurd (omega (arith, one, rank, e))

scalar_by : (d : Declared) (x : List ℕ) (value : Option ℤ) (found : Option Dimensions) → Finds d x found → value ≡ None → rank_of d x ≡ 0 → is_scalar_kind (Some (kind_by value found)) ≡ true
scalar_by d x value found f v e = ap (λ (o : Option ℤ). is_scalar_kind (Some (kind_by o found))) v ∙ ap (λ (o : Option Dimensions). is_scalar_kind (Some (kind_by None o))) (no_array d x found f e)

some_value : (value : Option ℤ) → is_value_kind (Some (kind_by value None)) ≡ true
some_value None = refl
some_value (Some n) = refl

value_by : (d : Declared) (x : List ℕ) (value : Option ℤ) (found : Option Dimensions) → Finds d x found → rank_of d x ≡ 0 → is_value_kind (Some (kind_by value found)) ≡ true
value_by d x value found f e = ap (λ (o : Option Dimensions). is_value_kind (Some (kind_by value o))) (no_array d x found f e) ∙ some_value value

some_variable : (found : Option Dimensions) → is_variable_kind (Some (kind_by None found)) ≡ true
some_variable None = refl
some_variable (Some a) = refl

variable_by : (value : Option ℤ) (found : Option Dimensions) → value ≡ None → is_variable_kind (Some (kind_by value found)) ≡ true
variable_by value found v = ap (λ (o : Option ℤ). is_variable_kind (Some (kind_by o found))) v ∙ some_variable found

same_itself : (n : ℕ) → (n == n) ≡ true
same_itself n = grind (arith, eqb-true)

array_found : (d : Declared) (x : List ℕ) (found : Option Dimensions) (n : ℕ) → Finds d x found → rank_of d x ≡ suc n → (is_array_kind (suc n) (Some (kind_by None found)) && is_rank (suc n)) ≡ true
array_found d x None n f e = let rank = f.rank in absurd (omega (arith, rank, e))
array_found d x (Some a) n f e =
    let right = f.right a refl in
    let lower : length a.lower ≡ suc n = sym f.rank ∙ e in
    let upper : length a.upper ≡ suc n = as_many a.lower a.upper (and_parts _ _ right).1 ∙ lower in
    and_from _ _ (and_from _ _ (ap (λ (m : ℕ). m == suc n) lower ∙ same_itself (suc n)) (ap (λ (m : ℕ). m == suc n) upper ∙ same_itself (suc n))) (ap is_rank (sym lower) ∙ (and_parts _ _ right).0)

array_by : (d : Declared) (x : List ℕ) (value : Option ℤ) (found : Option Dimensions) (n : ℕ) → Finds d x found → value ≡ None → rank_of d x ≡ suc n
    → (is_array_kind (suc n) (Some (kind_by value found)) && is_rank (suc n)) ≡ true
array_by d x value found n f v e = ap (λ (o : Option ℤ). is_array_kind (suc n) (Some (kind_by o found)) && is_rank (suc n)) v ∙ array_found d x found n f e

-- so many subscripts as the name has dimensions
same_rank : (rank n : ℕ) → differs rank (Some n) ≡ false → rank ≡ n
same_rank rank n h = sym (eqb-true n rank (not-false (n == rank) h))

positive : (n : ℕ) → nat_lt 0 (suc n) ≡ true
positive n = lt-ltb 0 (suc n) (omega arith)

-- a use at which nothing is refused, by its role
role_right : (d : Declared) (values : Values) (arrays : Arrays) → Known d values arrays → (x : List ℕ) (role : Role) → uses_constant d (record { name = x; role = role }) ≡ false → uses_other_rank d (record { name = x; role = role }) ≡ false
    → role_is_right role (Some (kind_among values arrays x)) ≡ true
role_right d values arrays k x Typed c r = refl
role_right d values arrays k x (Dimensioned n) c r = refl
role_right d values arrays k x Named c r = refl
role_right d values arrays k x Saved c r = variable_by (entry_of values x) (entry_of arrays x) (k.constants x c)
role_right d values arrays k x Rejected c r = refl
role_right d values arrays k x Private c r = scalar_by d x (entry_of values x) (entry_of arrays x) (finds d values arrays k x) (k.constants x c) (same_rank (rank_of d x) 0 r)
role_right d values arrays k x Index c r = scalar_by d x (entry_of values x) (entry_of arrays x) (finds d values arrays k x) (k.constants x c) (same_rank (rank_of d x) 0 r)
role_right d values arrays k x (Assigned zero) c r = scalar_by d x (entry_of values x) (entry_of arrays x) (finds d values arrays k x) (k.constants x c) (same_rank (rank_of d x) 0 r)
role_right d values arrays k x (Assigned (suc n)) c r = array_by d x (entry_of values x) (entry_of arrays x) n (finds d values arrays k x) (k.constants x c) (same_rank (rank_of d x) (suc n) r)
role_right d values arrays k x (Operand zero) c r = value_by d x (entry_of values x) (entry_of arrays x) (finds d values arrays k x) (same_rank (rank_of d x) 0 r)
role_right d values arrays k x (Operand (suc n)) c r =
    array_by d x (entry_of values x) (entry_of arrays x) n (finds d values arrays k x) (k.constants x (ap (λ (b : Bool). b && is_constant d x) (sym (positive n)) ∙ c)) (same_rank (rank_of d x) (suc n) r)

-- where no constant is used as a variable and no rank differs, the uses are right, by kinds that names have where they are used
pub uses_right : (d : Declared) (values : Values) (arrays : Arrays) → Known d values arrays → (kinds : NameKinds) (us : List Use)
    → ((x : List ℕ) → is_among x (map (λ u. u.name) us) ≡ true → kinds x ≡ Some (kind_among values arrays x))
    → list_any (uses_constant d) us ≡ false → list_any (uses_other_rank d) us ≡ false → list_all (use_is_right kinds) us ≡ true
uses_right d values arrays k kinds [] has c r = refl
uses_right d values arrays k kinds (u ∷ us) has c r =
    let p = or_parts (uses_constant d u) (list_any (uses_constant d) us) c in
    let q = or_parts (uses_other_rank d u) (list_any (uses_other_rank d) us) r in
    let own : kinds u.name ≡ Some (kind_among values arrays u.name) = has u.name (ap (λ (b : Bool). b || is_among u.name (map (λ v. v.name) us)) (same_text u.name)) in
    and_from _ _
    (ap (role_is_right u.role) own ∙ role_right d values arrays k u.name u.role p.0 q.0)
    (uses_right d values arrays k kinds us (λ x m. has x (or_right (is_same_text x u.name) _ m)) p.1 q.1)
