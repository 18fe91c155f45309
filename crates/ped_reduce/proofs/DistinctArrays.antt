-- The arrays that are left in a program for the scalars of a list are names that don't occur, and all differ.
use Rattle.std.proofs.Common.{◌≡◌, ◌⊎◌, ℕ, zero, suc, ◌+◌, ◌<◌, ◌≤◌, ◌^◌, List, [], ◌∷◌, ◌++◌, map, filter, length, drop, Bool, true, false, cond, not, ◌||◌, ◌&&◌, Option, Some, None, if◌then◌else◌, inl, inr, refl, sym, ap, subst, ◌∙◌, arith, nat_le}
use Rattle.std.specs.Prelude.{codes, option_map}
use Rattle.std.specs.List.{range_with_len}
use Rattle.std.specs.Fmt.{decimal}
use Rattle.std.specs.Str.Parse.{digits_value}
use Rattle.std.proofs.lemmas.Bool.{both_ways, or_parts, or_left, or_right}
use Rattle.std.proofs.lemmas.Fmt.{decimal_is_IsNumeral_wide}
use Rattle.ped_base.specs.Letters as letters
use Rattle.ped_base.specs.Lists.{is_same_text, is_among}
use Rattle.ped_base.proofs.NameEquality.{same_is, same_flip, same_itself}
use Rattle.ped_tree.specs.Grammar.Words.{is_name}
use Rattle.ped_tree.specs.Tree.{ProgramTree}
use Rattle.ped_rules.specs.ped_symbols.specs.Kinds.{names_of}
use Rattle.ped_rules.specs.ped_symbols.specs.NameRefusals.{has_twice}
use Rattle.ped_rules.specs.ped_flow.proofs.Truths.{or_split, not_true}
use Rattle.ped_rules.specs.ped_laws.specs.Acts.Orders.{IsIn}
use Rattle.ped_rules.specs.Fresh.{occurs, most_numbered}
use Rattle.ped_rules.specs.declared.fresh.NewName.TheVariants.{Array}
use Rattle.ped_rules.proofs.FreshNames.{most_is, numbered_name}
use Rattle.ped_reduce.specs.Lowering.{Partials, fresh_arrays, partials_of}
use Rattle.ped_reduce.proofs.SumStores.{is_array_of, AreDistinct, AreThree, HaveArrays}
use Rattle.ped_reduce.proofs.SumExits.{AllDistinct}
use Rattle.ped_reduce.proofs.FreshArrays.{numbered}

-- names that all differ
abbrev pub Differ : List (List ℕ) → Type 0
Differ [] = Unit {0}
Differ (x ∷ xs) = ((y : List ℕ) → IsIn y xs → is_same_text x y ≡ false) × Differ xs

false_or : (b : Bool) → (b ≡ true → ⊥) → b ≡ false
false_or true h = absurd (h refl)
false_or false h = refl

-- different numbers make different names
numbers_same : (m n : ℕ) → m < 10 ^ 29 → n < 10 ^ 29 → numbered m ≡ numbered n → m ≡ n
numbers_same m n h k e =
    let first = decimal_is_IsNumeral_wide m (omega (arith, h)) in
    let second = decimal_is_IsNumeral_wide n (omega (arith, k)) in
    sym first.1 ∙ ap (λ (text : List ℕ). digits_value 10 (drop 2 text)) e ∙ second.1

module _ (t : ProgramTree) where
  -- a name that is left, with a number from this one on
  pub record IsLeftFrom (n : ℕ) (y : List ℕ) : Type 0 where
    pub number : ℕ
    pub from : n ≤ number
    pub most : number < 10 ^ 29
    pub is : y ≡ numbered number
    pub unused : occurs t y ≡ false

  abbrev Left : ℕ → ℕ → List (List ℕ)
  Left n count = filter (λ x. not (occurs t x)) (map (λ k. codes "KX" ++ decimal k) (range_with_len n count))

  later : (n : ℕ) (y : List ℕ) → IsLeftFrom (n + 1) y → IsLeftFrom n y
  later n y h = let from = h.from in record { number = h.number; from = omega (arith, from); most = h.most; is = h.is; unused = h.unused }

  left_from : (count n : ℕ) → n + count ≤ 10 ^ 29 → (y : List ℕ) → IsIn y (Left n count) → IsLeftFrom n y
  left_from zero n h y i = absurd i
  left_from (suc count) n h y i = by (not (occurs t (numbered n))) refl i (left_from count (n + 1) (omega (arith, h)) y)
    where
      by : (b : Bool) → not (occurs t (numbered n)) ≡ b → IsIn y (cond b (numbered n ∷ Left (n + 1) count) (Left (n + 1) count)) → (IsIn y (Left (n + 1) count) → IsLeftFrom (n + 1) y) → IsLeftFrom n y
      by true e (inl is) more = record { number = n; from = omega arith; most = omega (arith, h); is = is; unused = ap (occurs t) is ∙ not_true (occurs t (numbered n)) e }
      by true e (inr j) more = later n y (more j)
      by false e j more = later n y (more j)

  left_differ : (count n : ℕ) → n + count ≤ 10 ^ 29 → Differ (Left n count)
  left_differ zero n h = tt
  left_differ (suc count) n h = by (not (occurs t (numbered n))) (left_differ count (n + 1) (omega (arith, h)))
    where
      other : (y : List ℕ) → IsIn y (Left (n + 1) count) → is_same_text (numbered n) y ≡ false
      other y i = false_or (is_same_text (numbered n) y) (λ e. (
          let left = left_from count (n + 1) (omega (arith, h)) y i in
          let from = left.from in
          let same = numbers_same n left.number (omega (arith, h)) left.most (same_is (numbered n) y e ∙ left.is) in
          absurd (omega (arith, from, same))
          ))

      by : (b : Bool) → Differ (Left (n + 1) count) → Differ (cond b (numbered n ∷ Left (n + 1) count) (Left (n + 1) count))
      by true rest = (other, rest)
      by false rest = rest

  -- the names that are left
  pub arrays_left : (y : List ℕ) → IsIn y (fresh_arrays t) → IsLeftFrom 1 y
  arrays_left = let most = most_is in left_from most_numbered 1 (omega (arith, most))

  pub arrays_differ : Differ (fresh_arrays t)
  arrays_differ = let most = most_is in left_differ most_numbered 1 (omega (arith, most))

  -- they are names, and don't occur
  pub left_named : (y : List ℕ) → IsLeftFrom 1 y → is_name y ≡ true
  left_named y h = ap is_name h.is ∙ by (letters.is_name (numbered h.number) && nat_le (length (numbered h.number)) 31) (numbered_name Array h.number h.most)
    where
      by : (b : Bool) → (if b then Some (numbered h.number) else None) ≡ Some (numbered h.number) → b ≡ true
      by true e = refl
      by false e = absurd cc

  pub left_unused : (y : List ℕ) → IsLeftFrom 1 y → is_among y (names_of t) ≡ false
  left_unused y h = (or_parts (is_among y (names_of t)) _ h.unused).0

-- of which a scalar gets three
pub record AreFrom (ys : List (List ℕ)) (p : Partials) : Type 0 where
  pub high : IsIn p.high ys
  pub low : IsIn p.low ys
  pub flag : IsIn p.flag ys

pub record AreArrays (names ys : List (List ℕ)) (ps : List Partials) : Type 0 where
  pub scalars : (p : Partials) → IsIn p ps → is_among p.scalar names ≡ true
  pub from : (p : Partials) → IsIn p ps → AreFrom ys p
  pub three : (p : Partials) → IsIn p ps → AreThree p
  pub distinct : AllDistinct ps

nothing : {A : Type 0} (ps : List Partials) → ◌≡◌ {A = Option (List Partials)} None (Some ps) → A
nothing ps e = absurd cc

same_partials : (ps qs : List Partials) → Some ps ≡ Some qs → ps ≡ qs
same_partials ps qs e = cc

abbrev with_first : List ℕ → List ℕ → List ℕ → List ℕ → List Partials → List Partials
with_first x a b c ps = (record { scalar = x; high = a; low = b; flag = c }) ∷ ps

module _ (x a b c : List ℕ) (xs ys : List (List ℕ)) (differ : Differ (a ∷ b ∷ c ∷ ys)) (new : is_among x xs ≡ false) (qs : List Partials) (more : AreArrays xs ys qs) where
  abbrev own : Partials
  own = record { scalar = x; high = a; low = b; flag = c }

  behind_three : (y : List ℕ) → IsIn y ys → IsIn y (a ∷ b ∷ c ∷ ys)
  behind_three y i = inr (inr (inr i))

  of_own : AreFrom (a ∷ b ∷ c ∷ ys) own
  of_own = record { high = inl refl; low = inr (inl refl); flag = inr (inr (inl refl)) }

  three_own : AreThree own
  three_own = record { high_low = differ.0 b (inl refl); high_flag = differ.0 c (inr (inl refl)); low_flag = differ.1.0 c (inl refl) }

  other_scalar : (o : Partials) → IsIn o qs → is_same_text x o.scalar ≡ false
  other_scalar o i = false_or (is_same_text x o.scalar) (λ e. both_ways (is_among x xs) new (ap (λ (z : List ℕ). is_among z xs) (same_is x o.scalar e) ∙ more.scalars o i))

  distinct_own : (o : Partials) → IsIn o qs → AreDistinct own o
  distinct_own o i =
      let f = more.from o i in
      record {
        scalar = other_scalar o i;
        high = λ j. differ.0 o.high (inr (inr f.high)) j || (differ.0 o.low (inr (inr f.low)) j || differ.0 o.flag (inr (inr f.flag)) j);
        low = λ j. differ.1.0 o.high (inr f.high) j || (differ.1.0 o.low (inr f.low) j || differ.1.0 o.flag (inr f.flag) j);
        flag = λ j. differ.1.1.0 o.high f.high j || (differ.1.1.0 o.low f.low j || differ.1.1.0 o.flag f.flag j);
      }

  arrays_more : AreArrays (x ∷ xs) (a ∷ b ∷ c ∷ ys) (own ∷ qs)
  arrays_more = record { scalars = scalars; from = from; three = three; distinct = (distinct_own, more.distinct) }
    where
      scalars : (p : Partials) → IsIn p (own ∷ qs) → is_among p.scalar (x ∷ xs) ≡ true
      scalars p (inl e) = ap (λ (z : Partials). is_among z.scalar (x ∷ xs)) e ∙ or_left (is_same_text x x) (is_among x xs) (same_itself x)
      scalars p (inr i) = or_right (is_same_text p.scalar x) (is_among p.scalar xs) (more.scalars p i)

      from : (p : Partials) → IsIn p (own ∷ qs) → AreFrom (a ∷ b ∷ c ∷ ys) p
      from p (inl e) = subst (AreFrom (a ∷ b ∷ c ∷ ys)) (sym e) of_own
      from p (inr i) = let f = more.from p i in record { high = behind_three p.high f.high; low = behind_three p.low f.low; flag = behind_three p.flag f.flag }

      three : (p : Partials) → IsIn p (own ∷ qs) → AreThree p
      three p (inl e) = subst AreThree (sym e) three_own
      three p (inr i) = more.three p i

arrays_by : (x a b c : List ℕ) (xs ys : List (List ℕ)) → Differ (a ∷ b ∷ c ∷ ys) → is_among x xs ≡ false → (ps : List Partials) (o : Option (List Partials)) → ((qs : List Partials) → o ≡ Some qs → AreArrays xs ys qs) → option_map (with_first x a b c) o ≡ Some ps
    → AreArrays (x ∷ xs) (a ∷ b ∷ c ∷ ys) ps
arrays_by x a b c xs ys differ new ps None more e = nothing ps e
arrays_by x a b c xs ys differ new ps (Some qs) more e = subst (AreArrays (x ∷ xs) (a ∷ b ∷ c ∷ ys)) (same_partials (with_first x a b c qs) ps e) (arrays_more x a b c xs ys differ new qs (more qs refl))

pub are_arrays : (names ys : List (List ℕ)) (ps : List Partials) → Differ ys → has_twice names ≡ false → partials_of names ys ≡ Some ps → AreArrays names ys ps
are_arrays [] ys ps differ once e = subst (AreArrays [] ys) (same_partials [] ps e) (record { scalars = λ p i. absurd i; from = λ p i. absurd i; three = λ p i. absurd i; distinct = tt })
are_arrays (x ∷ xs) [] ps differ once e = nothing ps e
are_arrays (x ∷ xs) (a ∷ []) ps differ once e = nothing ps e
are_arrays (x ∷ xs) (a ∷ b ∷ []) ps differ once e = nothing ps e
are_arrays (x ∷ xs) (a ∷ b ∷ c ∷ ys) ps differ once e =
    let new = or_parts (is_among x xs) (has_twice xs) once in
    arrays_by x a b c xs ys differ new.0 ps (partials_of xs ys) (λ qs q. are_arrays xs ys qs differ.1.1.1 new.1 q) e

-- what differs, differs the other way round
turned : (p o : Partials) → AreDistinct o p → AreDistinct p o
turned p o h =
    let high = or_parts (is_same_text o.high p.high) (is_same_text o.high p.low || is_same_text o.high p.flag) h.high in
    let low = or_parts (is_same_text o.low p.high) (is_same_text o.low p.low || is_same_text o.low p.flag) h.low in
    let flag = or_parts (is_same_text o.flag p.high) (is_same_text o.flag p.low || is_same_text o.flag p.flag) h.flag in
    let high_rest = or_parts (is_same_text o.high p.low) (is_same_text o.high p.flag) high.1 in
    let low_rest = or_parts (is_same_text o.low p.low) (is_same_text o.low p.flag) low.1 in
    let flag_rest = or_parts (is_same_text o.flag p.low) (is_same_text o.flag p.flag) flag.1 in
    record {
      scalar = same_flip p.scalar o.scalar ∙ h.scalar;
      high = λ i. (same_flip p.high o.high ∙ high.0) i || ((same_flip p.high o.low ∙ low.0) i || (same_flip p.high o.flag ∙ flag.0) i);
      low = λ i. (same_flip p.low o.high ∙ high_rest.0) i || ((same_flip p.low o.low ∙ low_rest.0) i || (same_flip p.low o.flag ∙ flag_rest.0) i);
      flag = λ i. (same_flip p.flag o.high ∙ high_rest.1) i || ((same_flip p.flag o.low ∙ low_rest.1) i || (same_flip p.flag o.flag ∙ flag_rest.1) i);
    }

either_distinct : (ps : List Partials) → AllDistinct ps → (p o : Partials) → IsIn p ps → IsIn o ps → (o ≡ p) ⊎ AreDistinct p o
either_distinct [] h p o i j = absurd i
either_distinct (q ∷ qs) h p o (inl e) (inl f) = inl (f ∙ sym e)
either_distinct (q ∷ qs) h p o (inl e) (inr j) = inr (subst (λ (z : Partials). AreDistinct z o) (sym e) (h.0 o j))
either_distinct (q ∷ qs) h p o (inr i) (inl f) = inr (subst (λ (z : Partials). AreDistinct p z) (sym f) (turned p q (h.0 p i)))
either_distinct (q ∷ qs) h p o (inr i) (inr j) = either_distinct qs h.1 p o i j

pub have_arrays : (names ys : List (List ℕ)) (ps : List Partials) → AreArrays names ys ps → HaveArrays ps
have_arrays names ys ps h = record { three = h.three; distinct = either_distinct ps h.distinct }

-- one of the arrays is among the names that are left
pub array_from : (ys : List (List ℕ)) (p : Partials) (x : List ℕ) → AreFrom ys p → is_array_of p x ≡ true → IsIn x ys
array_from ys p x f e = elim (or_split (is_same_text x p.high) (is_same_text x p.low || is_same_text x p.flag) e) [
  | inl h ↦ subst (λ (z : List ℕ). IsIn z ys) (sym (same_is x p.high h)) f.high
  | inr k ↦ elim (or_split (is_same_text x p.low) (is_same_text x p.flag) k) [
    | inl h ↦ subst (λ (z : List ℕ). IsIn z ys) (sym (same_is x p.low h)) f.low
    | inr h ↦ subst (λ (z : List ℕ). IsIn z ys) (sym (same_is x p.flag h)) f.flag
  ]
]
