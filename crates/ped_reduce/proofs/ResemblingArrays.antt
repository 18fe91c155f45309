-- Two references to one array, each at the variable of a DO round both: no vector of theirs has `=` for the DO loops round that DO and `<` for it (Allen and Kennedy, section 3.3.2: strong SIV with distance 0).
use Rattle.std.proofs.Common.{◌≡◌, ℕ, zero, suc, ◌+◌, ◌≤◌, ◌==◌, ℤ, pos, negsuc, ◌+ℤ◌, ◌*ℤ◌, List, [], ◌∷◌, ◌++◌, map, cond, length, take, drop, Bool, true, false, not, ◌&&◌, ◌||◌, Option, Some, None, if◌then◌else◌, refl, sym, ap, subst, ◌∙◌, arith, eqb-true, append-nil}
use Rattle.std.specs.Ordering.{int_eq}
use Rattle.std.specs.Cmp.Lexicographic.{pointwise}
use Rattle.std.specs.List.{list_any, list_all, AllByRecursion}
use Rattle.std.proofs.lemmas.Int.{ints}
use Rattle.std.proofs.lemmas.Bool.{or_right}
use Rattle.ped_base.specs.Lists.{is_same_text, is_among}
use Rattle.ped_base.proofs.NameEquality.{same_itself}
use Rattle.ped_tree.specs.Tree.{Var}
use Rattle.ped_tree.specs.Constants.ConstantExpressions.{constant_value}
use Rattle.ped_tree.specs.Nests.{Loop, indices_of, common_nest}
use Rattle.ped_rules.specs.ped_flow.proofs.Truths.{untrue, or_none}
use Rattle.ped_rules.specs.ped_views.specs.declared.directions.Direction.{Direction}
use Rattle.ped_rules.specs.ped_views.specs.declared.directions.Direction.TheVariants.{Before, Same, After}
use Rattle.ped_rules.specs.ped_views.specs.declared.strong_rows.StrongRow.{StrongRow}
use Rattle.ped_rules.specs.ped_views.specs.Whole.{is_zero}
use Rattle.ped_rules.specs.ped_views.specs.Views.{SubscriptPair}
use Rattle.ped_rules.specs.ped_views.specs.Forms.{Occurrence, occurring, Form, strong_siv, other_form, common_form, form_of}
use Rattle.ped_rules.specs.ped_views.specs.Excluded.{StandsByValue, by_value, rows_in, group_of, MeetTogether, loop_at, direction_at, FormExcludes}
use Rattle.ped_rules.specs.ped_views.specs.Vectors.{IsPossible}
use Rattle.ped_rules.specs.ped_affine.specs.Ranges.{Setting}
use Rattle.ped_rules.specs.ped_affine.specs.AffineForms.{AffineForm, is_small, is_limited, within_limits, unknown_coefficient, unknown_form, variable_form, constant_or, affine_of}
use Rattle.ped_rules.specs.ped_affine.specs.PairViews.{Site, Depths, depths_of, is_other, other_variables, terms_of, other_coefficients, unusable, usable_pair, subscript_pair, position_of, view_at}
use Rattle.ped_rules.specs.ped_graph.specs.Dependences.{carriage_from, is_of}

-- numbers that all are 0
abbrev AllZero : List ℤ → Type 0
AllZero [] = Unit {0}
AllZero (a ∷ more) = (is_zero a ≡ true) × AllZero more

-- so many zeros, then 1, then zeros
abbrev HasOne : ℕ → List ℤ → Type 0
HasOne n [] = ⊥
HasOne zero (a ∷ more) = (a ≡ pos 1) × AllZero more
HasOne (suc n) (a ∷ more) = (is_zero a ≡ true) × HasOne n more

take_zero : (k : ℕ) (xs : List ℤ) → AllZero xs → AllZero (take k xs)
take_zero zero xs h = tt
take_zero (suc k) [] h = tt
take_zero (suc k) (a ∷ more) h = (h.0, take_zero k more h.1)

drop_zero : (k : ℕ) (xs : List ℤ) → AllZero xs → AllZero (drop k xs)
drop_zero zero xs h = h
drop_zero (suc k) [] h = tt
drop_zero (suc k) (a ∷ more) h = drop_zero k more h.1

take_one : (n m : ℕ) (xs : List ℤ) → n + 1 ≤ m → HasOne n xs → HasOne n (take m xs)
take_one n m [] long h = absurd h
take_one n zero (a ∷ more) long h = absurd (omega (arith, long))
take_one zero (suc m) (a ∷ more) long h = (h.0, take_zero m more h.1)
take_one (suc n) (suc m) (a ∷ more) long h = (h.0, take_one n m more (omega (arith, long)) h.1)

drop_one : (n m : ℕ) (xs : List ℤ) → n + 1 ≤ m → HasOne n xs → AllZero (drop m xs)
drop_one n m [] long h = absurd h
drop_one n zero (a ∷ more) long h = absurd (omega (arith, long))
drop_one zero (suc m) (a ∷ more) long h = drop_zero m more h.1
drop_one (suc n) (suc m) (a ∷ more) long h = drop_one n m more (omega (arith, long)) h.1

none_occurs : (k : ℕ) (xs ys : List ℤ) → AllZero xs → AllZero ys → occurring k xs ys ≡ []
none_occurs k [] ys h g = refl
none_occurs k (a ∷ more) [] h g = refl
none_occurs k (a ∷ more) (b ∷ further) h g =
    (λ i. if h.0 i && g.0 i then occurring (suc k) more further else (record { place = k; at_source = a; at_sink = b }) ∷ occurring (suc k) more further) ∙ none_occurs (suc k) more further h.1 g.1

-- the one loop that occurs
abbrev one_at : ℕ → Occurrence
one_at k = record { place = k; at_source = pos 1; at_sink = pos 1 }

one_occurs : (k n : ℕ) (xs ys : List ℤ) → HasOne n xs → HasOne n ys → occurring k xs ys ≡ one_at (k + n) ∷ []
one_occurs k n [] ys h g = absurd h
one_occurs k n (a ∷ more) [] h g = absurd g
one_occurs k zero (a ∷ more) (b ∷ further) h g =
    let here : k ≡ k + zero = omega arith in
    (λ i. if is_zero (h.0 i) && is_zero (g.0 i) then occurring (suc k) more further else (record { place = k; at_source = h.0 i; at_sink = g.0 i }) ∷ occurring (suc k) more further)
    ∙ (λ i. one_at (here i) ∷ none_occurs (suc k) more further h.1 g.1 i)
one_occurs k (suc n) (a ∷ more) (b ∷ further) h g =
    let there : suc k + n ≡ k + suc n = omega arith in
    (λ i. if h.0 i && g.0 i then occurring (suc k) more further else (record { place = k; at_source = a; at_sink = b }) ∷ occurring (suc k) more further)
    ∙ one_occurs (suc k) n more further h.1 g.1 ∙ ap (λ (m : ℕ). one_at m ∷ []) there

zero_any : (xs : List ℤ) → AllZero xs → list_any (λ a. not (is_zero a)) xs ≡ false
zero_any [] h = refl
zero_any (a ∷ more) h = λ i. not (h.0 i) || zero_any more h.1 i

drop_nothing : (n : ℕ) (xs : List ℤ) → length xs ≤ n → drop n xs ≡ []
drop_nothing zero [] h = refl
drop_nothing zero (a ∷ more) h = absurd (omega (arith, h))
drop_nothing (suc n) [] h = refl
drop_nothing (suc n) (a ∷ more) h = drop_nothing n more (omega (arith, h))

drop_twice : (m n : ℕ) (xs : List ℤ) → length xs ≤ m + n → drop n (drop m xs) ≡ []
drop_twice zero n xs h = drop_nothing n xs (omega (arith, h))
drop_twice (suc m) n [] h = drop_nothing n [] (omega arith)
drop_twice (suc m) n (a ∷ more) h = drop_twice m n more (omega (arith, h))

itself : (n : ℕ) → (n == n) ≡ true
itself n = grind (arith, eqb-true)

-- a vector that the loop of a level carries has `<` for it
never_below : (vector : List Direction) (l m : ℕ) → is_of (Some m) (carriage_from l vector) ≡ true → l ≤ m
never_below [] l m h = untrue h
never_below (Before ∷ rest) l m h = let e = eqb-true l m h in omega (arith, e)
never_below (Same ∷ rest) l m h = let e = never_below rest (suc l) m h in omega (arith, e)
never_below (After ∷ rest) l m h = untrue h

pub before_at : (vector : List Direction) (l n m : ℕ) → m ≡ n + l → is_of (Some m) (carriage_from l vector) ≡ true → direction_at vector n ≡ Before
before_at [] l n m e h = untrue h
before_at (Before ∷ rest) l zero m e h = refl
before_at (Before ∷ rest) l (suc n) m e h = let same = eqb-true l m h in absurd (omega (arith, e, same))
before_at (Same ∷ rest) l zero m e h = let more = never_below rest (suc l) m h in absurd (omega (arith, e, more))
before_at (Same ∷ rest) l (suc n) m e h = before_at rest (suc l) n m (omega (arith, e)) h
before_at (After ∷ rest) l n m e h = untrue h

-- equal indices stand in no order
never_same : (step i j : ℤ) → StandsByValue (by_value step Before) i j → pos 1 *ℤ i +ℤ pos 0 ≡ pos 1 *ℤ j +ℤ pos 0 → ⊥
never_same (pos n) i j less equal = omega (arith, ints, less, equal)
never_same (negsuc n) i j less equal = omega (arith, ints, less, equal)

module _ (s : Setting) (outer : List Loop) (l : Loop) (unvalued : constant_value s.constants (Var l.head.variable) ≡ None) (apart : is_among l.head.variable (indices_of outer) ≡ false) where
  abbrev v : List ℕ
  v = l.head.variable

  abbrev coefficient : List ℕ → ℤ
  coefficient = unknown_coefficient v

  -- names without the variable have the coefficient 0
  zeros_of : (xs : List (List ℕ)) → is_among v xs ≡ false → AllZero (map coefficient xs)
  zeros_of [] h = tt
  zeros_of (x ∷ xs) h = let p = or_none (is_same_text v x) (is_among v xs) h in (ap (λ (b : Bool). is_zero (if b then pos 1 else pos 0)) p.0, zeros_of xs p.1)

  small_one : (b : Bool) → is_small (if b then pos 1 else pos 0) ≡ true
  small_one true = refl
  small_one false = refl

  all_small : (xs : List (List ℕ)) → list_all is_small (map coefficient xs) ≡ true
  all_small [] = refl
  all_small (x ∷ xs) = λ i. small_one (is_same_text v x) i && all_small xs i

  length_mapped : (xs : List (List ℕ)) → length (map coefficient xs) ≡ length xs
  length_mapped [] = refl
  length_mapped (x ∷ xs) = ap suc (length_mapped xs)

  length_indices : (nest : List Loop) → length (indices_of nest ++ []) ≡ length nest
  length_indices [] = refl
  length_indices (m ∷ ms) = ap suc (length_indices ms)

  -- a nest in which the DO is, inside these and round others that have other variables
  module _ (inner : List Loop) (other : is_among v (indices_of inner) ≡ false) where
    there : (ls : List Loop) → is_among v (indices_of (ls ++ l ∷ inner)) ≡ true
    there [] = ap (λ (b : Bool). b || is_among v (indices_of inner)) (same_itself v)
    there (m ∷ ms) = or_right (is_same_text v m.head.variable) (is_among v (indices_of (ms ++ l ∷ inner))) (there ms)

    abbrev nest : List Loop
    nest = outer ++ l ∷ inner

    abbrev unknowns : List (List ℕ)
    unknowns = indices_of nest ++ []

    has_one : (ls : List Loop) → is_among v (indices_of ls) ≡ false → HasOne (length ls) (map coefficient (indices_of (ls ++ l ∷ inner) ++ []))
    has_one [] h = (ap (λ (b : Bool). if b then pos 1 else pos 0) (same_itself v), zeros_of (indices_of inner ++ []) (ap (is_among v) (append-nil (indices_of inner)) ∙ other))
    has_one (m ∷ ms) h =
        let p = or_none (is_same_text v m.head.variable) (is_among v (indices_of ms)) h in
        (ap (λ (b : Bool). is_zero (if b then pos 1 else pos 0)) p.0, has_one ms p.1)

    limited : is_limited (unknown_form unknowns v) ≡ true
    limited = λ i. all_small unknowns i && true

    among : is_among v unknowns ≡ true
    among = ap (is_among v) (append-nil (indices_of nest)) ∙ there outer

    affine_is : affine_of (terms_of s nest []) (Var v) ≡ Some (unknown_form unknowns v)
    affine_is =
        ap (λ (o : Option ℤ). constant_or unknowns o (variable_form unknowns v)) unvalued
        ∙ ap (λ (b : Bool). if b then within_limits (unknown_form unknowns v) else None) among
        ∙ ap (λ (b : Bool). if b then Some (unknown_form unknowns v) else None) limited

    long : length (map coefficient unknowns) ≡ length nest
    long = length_mapped unknowns ∙ length_indices nest

  common_is : (ls a b : List Loop) → common_nest (ls ++ l ∷ a) (ls ++ l ∷ b) ≡ ls ++ l ∷ common_nest a b
  common_is [] a b = ap (λ (c : Bool). if c then l ∷ common_nest a b else []) (itself l.number)
  common_is (m ∷ ms) a b =
      ap (λ (c : Bool). if c then m ∷ common_nest (ms ++ l ∷ a) (ms ++ l ∷ b) else []) (itself m.number) ∙ ap (λ (ls : List Loop). m ∷ ls) (common_is ms a b)

  length_more : (ls ms : List Loop) → length ls + 1 ≤ length (ls ++ l ∷ ms)
  length_more [] ms = omega arith
  length_more (m ∷ ls) ms = let more = length_more ls ms in omega (arith, more)

  module _ (a b : List Loop) (other_a : is_among v (indices_of a) ≡ false) (other_b : is_among v (indices_of b) ≡ false) where
    abbrev source : Site
    source = record { nest = outer ++ l ∷ a; subscripts = Var v ∷ [] }

    abbrev sink : Site
    sink = record { nest = outer ++ l ∷ b; subscripts = Var v ∷ [] }

    abbrev n : Depths
    n = depths_of source sink

    abbrev first : AffineForm
    first = unknown_form (indices_of source.nest ++ []) v

    abbrev second : AffineForm
    second = unknown_form (indices_of sink.nest ++ []) v

    deep : length outer + 1 ≤ n.common
    deep = let e = ap length (common_is outer a b) in let more = length_more outer (common_nest a b) in omega (arith, e, more)

    not_other : is_other s source sink v ≡ false
    not_other = ap (λ (c : Bool). (not c && not (is_among v (indices_of sink.nest))) && not (is_among v s.assigned)) (there a other_a outer)

    no_others : other_variables s source sink (Var v) (Var v) ≡ []
    no_others = λ i. cond (not_other i) (v ∷ cond (not_other i) (v ∷ []) []) (cond (not_other i) (v ∷ []) [])

    none_left : (c further : ℕ) (xs : List ℤ) → length xs ≤ c + further → drop further (drop c xs) ≡ []
    none_left c further xs h = drop_twice c further xs h

    left_first : other_coefficients n.common n.source first ≡ []
    left_first = let e = long a other_a in none_left n.common n.source first.coefficients (omega (arith, e))

    left_second : other_coefficients n.common n.sink second ≡ []
    left_second = let e = long b other_b in none_left n.common n.sink second.coefficients (omega (arith, e))

    abbrev pair : SubscriptPair
    pair = usable_pair n first second

    position_is : position_of s source sink (Var v) (Var v) ≡ pair
    position_is =
        (λ i. subscript_pair n (affine_of (terms_of s source.nest (no_others i)) (Var v)) (affine_of (terms_of s sink.nest (no_others i)) (Var v)))
        ∙ (λ i. subscript_pair n (affine_is a other_a i) (affine_is b other_b i))
        ∙ (λ i. if pointwise int_eq (left_first i) (left_second i) then pair else unusable n)

    one_first : HasOne (length outer) first.coefficients
    one_first = has_one a other_a outer apart

    one_second : HasOne (length outer) second.coefficients
    one_second = has_one b other_b outer apart

    none_inner : (list_any (λ x. not (is_zero x)) pair.source.inner || list_any (λ x. not (is_zero x)) pair.sink.inner) ≡ false
    none_inner =
        let x = zero_any pair.source.inner (take_zero n.source (drop n.common first.coefficients) (drop_one (length outer) n.common first.coefficients deep one_first)) in
        let y = zero_any pair.sink.inner (take_zero n.sink (drop n.common second.coefficients) (drop_one (length outer) n.common second.coefficients deep one_second)) in
        λ i. x i || y i

    one_place : occurring 0 pair.source.common pair.sink.common ≡ one_at (length outer) ∷ []
    one_place =
        let e : 0 + length outer ≡ length outer = omega arith in
        one_occurs 0 (length outer) pair.source.common pair.sink.common (take_one (length outer) n.common first.coefficients deep one_first) (take_one (length outer) n.common second.coefficients deep one_second)
        ∙ ap (λ (k : ℕ). one_at k ∷ []) e

    form_is : form_of pair ≡ strong_siv (one_at (length outer))
    form_is = (λ i. if none_inner i then other_form else common_form (occurring 0 pair.source.common pair.sink.common)) ∙ ap common_form one_place

    abbrev row : StrongRow
    row = record { a = pos 1; c1 = pos 0; c2 = pos 0 }

    rows_are : group_of (length outer) (position_of s source sink (Var v) (Var v) ∷ []) ≡ row ∷ []
    rows_are =
        ap (λ (p : SubscriptPair). group_of (length outer) (p ∷ [])) position_is
        ∙ ap (λ (f : Form). rows_in (length outer) f pair ++ []) form_is
        ∙ ap (λ (c : Bool). (if c then row ∷ [] else []) ++ []) (itself (length outer))

    -- no such vector is possible
    pub carried_apart : (vector : List Direction) → is_of (Some (length outer + 1)) (carriage_from 1 vector) ≡ true → IsPossible (view_at s source sink) vector → ⊥
    carried_apart vector carries possible = possible.0 (ap (λ (p : SubscriptPair). p.usable) position_is, subst (λ (f : Form). FormExcludes f (view_at s source sink) (position_of s source sink (Var v) (Var v)) vector) (sym (ap form_of position_is ∙ form_is)) never)
      where
        before : direction_at vector (length outer) ≡ Before
        before = before_at vector 1 (length outer) (length outer + 1) refl carries

        never : (i j : ℤ) → MeetTogether (group_of (length outer) (view_at s source sink).positions) (loop_at (view_at s source sink) (length outer)) (direction_at vector (length outer)) i j → ⊥
        never i j m =
            let equal : AllByRecursion (λ (r : StrongRow). r.a *ℤ i +ℤ r.c1 ≡ r.a *ℤ j +ℤ r.c2) (row ∷ []) = subst (AllByRecursion (λ (r : StrongRow). r.a *ℤ i +ℤ r.c1 ≡ r.a *ℤ j +ℤ r.c2)) rows_are m.equal in
            never_same (loop_at (view_at s source sink) (length outer)).step i j (subst (λ (d : Direction). StandsByValue (by_value (loop_at (view_at s source sink) (length outer)).step d) i j) before m.stands) equal.0
