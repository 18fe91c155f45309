-- Sums of coefficients times values.
use Rattle.std.proofs.Common.{◌≡◌, ℕ, List, [], ◌∷◌, map, length, Bool, true, false, ◌||◌, refl, sym, ap, ◌∙◌, subst, arith, ℤ, pos, neg_ℤ, ◌+ℤ◌, ◌-ℤ◌, ◌*ℤ◌, if◌then◌else◌}
use Rattle.std.specs.List.{list_all}
use Rattle.std.proofs.Math.IntN.{*ℤ_comm}
use Rattle.std.proofs.lemmas.Bool.{and_parts, or_right}
use Rattle.std.proofs.lemmas.Bool.Decides.{Decides-int_eq}
use Rattle.std.proofs.lemmas.Int.{ints}
use Rattle.ped_flow.specs.ped_base.specs.Lists.{is_same_text, is_among}
use Rattle.ped_graph.specs.ped_views.specs.Excluded.{dot}
use Rattle.ped_graph.specs.ped_views.specs.Whole.{is_zero}
use Rattle.ped_graph.specs.ped_views.proofs.Products.{linear, mul-add, neg-mul, mul-assoc, sub-mul}
use Rattle.ped_flow.specs.ped_affine.specs.AffineForms.{unknown_coefficient, combined}
use Rattle.ped_laws.specs.Covering.Weights.{first_values}
use Rattle.ped_laws.proofs.CoveringLaws.Texts.{text_is}

zero_times : (i : ℤ) → pos 0 *ℤ i ≡ pos 0
zero_times i = omega (arith, ints)

one_times : (i : ℤ) → pos 1 *ℤ i ≡ i
one_times i = omega (arith, ints)

pub times_zero : (i : ℤ) → i *ℤ pos 0 ≡ pos 0
times_zero i = omega (arith, ints)

add_mul : (a b i : ℤ) → (a +ℤ b) *ℤ i ≡ a *ℤ i +ℤ b *ℤ i
add_mul a b i =
    let s = *ℤ_comm (a +ℤ b) i in
    let d = mul-add i a b in
    let e = *ℤ_comm i a in
    let f = *ℤ_comm i b in
    omega (arith, linear)

pub dot_zeros : (xs : List (List ℕ)) (vs : List ℤ) → dot (map (λ x. pos 0) xs) vs ≡ pos 0
dot_zeros [] vs = refl
dot_zeros (x ∷ xs) [] = refl
dot_zeros (x ∷ xs) (v ∷ vs) = let h = dot_zeros xs vs in let z = zero_times v in omega (arith, linear)

pub dot_opposite : (cs vs : List ℤ) → dot (map neg_ℤ cs) vs ≡ neg_ℤ (dot cs vs)
dot_opposite [] vs = refl
dot_opposite (a ∷ cs) [] = refl
dot_opposite (a ∷ cs) (v ∷ vs) = let h = dot_opposite cs vs in let z = neg-mul a v in omega (arith, linear)

pub dot_sum : (cs bs vs : List ℤ) → length cs ≡ length bs → dot (combined (λ a. λ b. a +ℤ b) cs bs) vs ≡ dot cs vs +ℤ dot bs vs
dot_sum [] [] vs h = refl
dot_sum [] (b ∷ bs) vs h = absurd (omega arith)
dot_sum (a ∷ cs) [] vs h = absurd (omega arith)
dot_sum (a ∷ cs) (b ∷ bs) [] h = refl
dot_sum (a ∷ cs) (b ∷ bs) (v ∷ vs) h = let k = dot_sum cs bs vs (omega arith) in let z = add_mul a b v in omega (arith, linear)

pub dot_difference : (cs bs vs : List ℤ) → length cs ≡ length bs → dot (combined (λ a. λ b. a -ℤ b) cs bs) vs ≡ dot cs vs -ℤ dot bs vs
dot_difference [] [] vs h = refl
dot_difference [] (b ∷ bs) vs h = absurd (omega arith)
dot_difference (a ∷ cs) [] vs h = absurd (omega arith)
dot_difference (a ∷ cs) (b ∷ bs) [] h = refl
dot_difference (a ∷ cs) (b ∷ bs) (v ∷ vs) h = let k = dot_difference cs bs vs (omega arith) in let z = sub-mul a b v in omega (arith, linear)

pub dot_times : (n : ℤ) (cs vs : List ℤ) → dot (map (λ a. n *ℤ a) cs) vs ≡ n *ℤ dot cs vs
dot_times n [] vs = sym (times_zero n)
dot_times n (a ∷ cs) [] = sym (times_zero n)
dot_times n (a ∷ cs) (v ∷ vs) =
    let k = dot_times n cs vs in
    let z = mul-assoc n a v in
    let d = mul-add n (a *ℤ v) (dot cs vs) in
    omega (arith, linear)

-- where all coefficients are 0
pub dot_none : (cs vs : List ℤ) → list_all is_zero cs ≡ true → dot cs vs ≡ pos 0
dot_none [] vs h = refl
dot_none (a ∷ cs) [] h = refl
dot_none (a ∷ cs) (v ∷ vs) h =
    let p = and_parts (is_zero a) (list_all is_zero cs) h in
    let k = dot_none cs vs p.1 in
    let e : a ≡ pos 0 = (Decides-int_eq a (pos 0)).0 p.0 in
    let z : a *ℤ v ≡ pos 0 = ap (λ (x : ℤ). x *ℤ v) e ∙ zero_times v in
    omega (arith, linear)

pub length_combined : (f : ℤ → ℤ → ℤ) (cs bs : List ℤ) → length cs ≡ length bs → length (combined f cs bs) ≡ length cs
length_combined f [] bs h = refl
length_combined f (a ∷ cs) [] h = absurd (omega arith)
length_combined f (a ∷ cs) (b ∷ bs) h = let k = length_combined f cs bs (omega arith) in omega arith

pub length_mapped : {X Y : Type 0} (f : X → Y) (xs : List X) → length (map f xs) ≡ length xs
length_mapped f [] = refl
length_mapped f (x ∷ xs) = let k = length_mapped f xs in omega arith

-- the form of an unknown gives its value: each of its places has the coefficient 1, and its value counts once
module _ (values : List ℕ → ℤ) (x : List ℕ) where
  dot_behind : (before xs : List (List ℕ)) → is_among x before ≡ true → dot (map (unknown_coefficient x) xs) (first_values values before xs) ≡ pos 0
  dot_behind before [] h = refl
  dot_behind before (y ∷ xs) h =
      let k = dot_behind (y ∷ before) xs (or_right (is_same_text x y) (is_among x before) h) in
      let z = none (is_same_text x y) refl in
      omega (arith, linear)
    where
      among : x ≡ y → is_among y before ≡ true
      among e = subst (λ (z : List ℕ). is_among z before ≡ true) e h

      none : (b : Bool) → is_same_text x y ≡ b → unknown_coefficient x y *ℤ (if is_among y before then pos 0 else values y) ≡ pos 0
      none true e = ap (λ (b : Bool). unknown_coefficient x y *ℤ (if b then pos 0 else values y)) (among (text_is x y e)) ∙ times_zero (unknown_coefficient x y)
      none false e = ap (λ (b : Bool). (if b then pos 1 else pos 0) *ℤ (if is_among y before then pos 0 else values y)) e ∙ zero_times (if is_among y before then pos 0 else values y)

  pub dot_unknown : (before xs : List (List ℕ)) → is_among x before ≡ false → is_among x xs ≡ true → dot (map (unknown_coefficient x) xs) (first_values values before xs) ≡ values x
  dot_unknown before [] out h = absurd cc
  dot_unknown before (y ∷ xs) out h = go (is_same_text x y) refl (λ a b. dot_unknown (y ∷ before) xs a b)
    where
      here : (b : Bool) → is_same_text x y ≡ b → ℤ → Type 0
      here b e n = unknown_coefficient x y *ℤ (if is_among y before then pos 0 else values y) ≡ n

      first : x ≡ y → is_same_text x y ≡ true → unknown_coefficient x y *ℤ (if is_among y before then pos 0 else values y) ≡ values x
      first e s =
          ap (λ (b : Bool). (if b then pos 1 else pos 0) *ℤ (if is_among y before then pos 0 else values y)) s
          ∙ one_times (if is_among y before then pos 0 else values y)
          ∙ ap (λ (b : Bool). if b then pos 0 else values y) (subst (λ (z : List ℕ). is_among z before ≡ false) e out)
          ∙ ap values (sym e)

      go : (b : Bool) → is_same_text x y ≡ b → (is_among x (y ∷ before) ≡ false → is_among x xs ≡ true → dot (map (unknown_coefficient x) xs) (first_values values (y ∷ before) xs) ≡ values x)
          → unknown_coefficient x y *ℤ (if is_among y before then pos 0 else values y) +ℤ dot (map (unknown_coefficient x) xs) (first_values values (y ∷ before) xs) ≡ values x
      go true e more =
          let a = first (text_is x y e) e in
          let k = dot_behind (y ∷ before) xs (ap (λ (b : Bool). b || is_among x before) e) in
          omega (arith, linear)
      go false e more =
          let k = more (ap (λ (b : Bool). b || is_among x before) e ∙ out) (sym (ap (λ (b : Bool). b || is_among x xs) e) ∙ h) in
          let z = ap (λ (b : Bool). (if b then pos 1 else pos 0) *ℤ (if is_among y before then pos 0 else values y)) e ∙ zero_times (if is_among y before then pos 0 else values y) in
          let w : unknown_coefficient x y *ℤ (if is_among y before then pos 0 else values y) ≡ pos 0 = z in
          omega (arith, linear)
