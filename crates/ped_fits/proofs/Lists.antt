-- Lists of expressions by their length, and texts by their last character.
use Rattle.std.proofs.Common.{◌≡◌, ℕ, suc, ◌+◌, ◌≤◌, Bool, true, false, cond, List, [], ◌∷◌, ◌++◌, length, take, refl, sym, ap, ◌∙◌, arith, eqb-true, length-append}
use Rattle.std.specs.Prelude.{not, ◌-◌, ◌||◌, ◌==◌, nat_le, Option, Some, None, slice_get}
use Rattle.std.proofs.lemmas.Bool.{and_parts, and_from, eq-eqb, false_from_ne_true}
use Rattle.ped_base.specs.Lists.{is_same_text}
use Rattle.ped_base.proofs.NameEquality.{same_itself}
use Rattle.ped_tree.specs.declared.expressions.Intrinsic.TheVariants.{Mod, Abs, Max, Min}
use Rattle.ped_tree.specs.Tree.{ExprTree}
use Rattle.ped_tree.specs.Views.{pack_exprs}
use Rattle.ped_tree.specs.Grammar.Grouping.{with_rest, trimmed}
use Rattle.ped_tree.specs.Grammar.Fits.{takes_arguments, has_expr}

three_not_two : (n : ℕ) → (suc (suc (suc n)) == 2) ≡ false
three_not_two n = grind (arith, eqb-true)

two_not_one : (n : ℕ) → (suc (suc n) == 1) ≡ false
two_not_one n = grind (arith, eqb-true)

two_or_more : (n : ℕ) → nat_le 2 (suc (suc n)) ≡ true
two_or_more n = grind arith

pub takes_two : (es : List ExprTree) → (length es == 2) ≡ takes_arguments Mod (pack_exprs es)
takes_two [] = refl
takes_two (a ∷ []) = refl
takes_two (a ∷ b ∷ []) = refl
takes_two (a ∷ b ∷ c ∷ rest) = three_not_two (length rest)

pub takes_one : (es : List ExprTree) → (length es == 1) ≡ takes_arguments Abs (pack_exprs es)
takes_one [] = refl
takes_one (a ∷ []) = refl
takes_one (a ∷ b ∷ rest) = two_not_one (length rest)

pub takes_two_or_more : (es : List ExprTree) → nat_le 2 (length es) ≡ takes_arguments Max (pack_exprs es)
takes_two_or_more [] = refl
takes_two_or_more (a ∷ []) = refl
takes_two_or_more (a ∷ b ∷ rest) = two_or_more (length rest)

pub takes_two_or_more_again : (es : List ExprTree) → nat_le 2 (length es) ≡ takes_arguments Min (pack_exprs es)
takes_two_or_more_again [] = refl
takes_two_or_more_again (a ∷ []) = refl
takes_two_or_more_again (a ∷ b ∷ rest) = two_or_more (length rest)

some_length : (n : ℕ) → (suc n == 0) ≡ false
some_length n = grind (arith, eqb-true)

pub has_some_length : (es : List ExprTree) → not (length es == 0) ≡ has_expr (pack_exprs es)
has_some_length [] = refl
has_some_length (e ∷ es) = ap not (some_length (length es))

-- what ends with neither a blank nor a carriage return is trimmed

trimmed_same : (xs : List ℕ) (c : ℕ) → (c == 32 || c == 13) ≡ false → trimmed (xs ++ c ∷ []) ≡ xs ++ c ∷ []
trimmed_same [] c h = ap (λ b. cond b [] (c ∷ [])) h
trimmed_same (x ∷ []) c h = ap (with_rest x) (trimmed_same [] c h)
trimmed_same (x ∷ y ∷ ys) c h = ap (with_rest x) (trimmed_same (y ∷ ys) c h)

trimmed_front : (xs : List ℕ) (c : ℕ) → (c == 32 || c == 13) ≡ true → trimmed (xs ++ c ∷ []) ≡ trimmed xs
trimmed_front [] c h = ap (λ b. cond b [] (c ∷ [])) h
trimmed_front (x ∷ xs) c h = ap (with_rest x) (trimmed_front xs c h)

with_rest_short : (c : ℕ) (rest : List ℕ) → length (with_rest c rest) ≤ suc (length rest)
with_rest_short c [] = go (c == 32 || c == 13) where
  go : (b : Bool) → length (cond b [] (c ∷ [])) ≤ 1
  go true = omega arith
  go false = omega arith
with_rest_short c (x ∷ xs) = omega arith

trimmed_short : (cs : List ℕ) → length (trimmed cs) ≤ length cs
trimmed_short [] = omega arith
trimmed_short (c ∷ cs) = omega (arith, with_rest_short c (trimmed cs), trimmed_short cs)

same_length : (x y : List ℕ) → is_same_text x y ≡ true → length x ≡ length y
same_length [] [] h = refl
same_length [] (y ∷ ys) h = absurd cc
same_length (x ∷ xs) [] h = absurd cc
same_length (x ∷ xs) (y ∷ ys) h = ap suc (same_length xs ys (and_parts (x == y) (is_same_text xs ys) h).1)

shorter : (xs : List ℕ) (c : ℕ) → (c == 32 || c == 13) ≡ true → is_same_text (trimmed (xs ++ c ∷ [])) (xs ++ c ∷ []) ≡ true → ⊥
shorter xs c h k =
    let e = same_length (trimmed (xs ++ c ∷ [])) (xs ++ c ∷ []) k in
    let f = ap (λ (t : List ℕ). length t) (trimmed_front xs c h) in
    let one : length (c ∷ []) ≡ 1 = refl in
    omega (arith, e, f, trimmed_short xs, length-append xs (c ∷ []), one)

pub trimmed_by_last : (xs : List ℕ) (c : ℕ) → is_same_text (trimmed (xs ++ c ∷ [])) (xs ++ c ∷ []) ≡ not (c == 32 || c == 13)
trimmed_by_last xs c = go (c == 32 || c == 13) refl where
  go : (b : Bool) → (c == 32 || c == 13) ≡ b → is_same_text (trimmed (xs ++ c ∷ [])) (xs ++ c ∷ []) ≡ not b
  go true h = false_from_ne_true _ (shorter xs c h)
  go false h = ap (λ (t : List ℕ). is_same_text t (xs ++ c ∷ [])) (trimmed_same xs c h) ∙ same_itself (xs ++ c ∷ [])

-- a text that ends with a character

abbrev some_of : ℕ → Option ℕ → ℕ
some_of d None = d
some_of d (Some x) = x

ends_with : (x : ℕ) (xs : List ℕ) (c : ℕ) → slice_get (x ∷ xs) (length xs) ≡ Some c → (front : List ℕ) × (front ++ c ∷ [] ≡ x ∷ xs)
ends_with x [] c h = ([], λ i. some_of x (sym h i) ∷ [])
ends_with x (y ∷ ys) c h = let more = ends_with y ys c h in (x ∷ more.0, ap (λ (t : List ℕ). x ∷ t) more.1)

one_less : (n : ℕ) → suc n - 1 ≡ n
one_less n = omega arith

pub trimmed_at : (text : List ℕ) (c : ℕ) → slice_get text (length text - 1) ≡ Some c → is_same_text (trimmed text) text ≡ not (c == 32 || c == 13)
trimmed_at [] c h = absurd cc
trimmed_at (x ∷ xs) c h =
    let e = ends_with x xs c (ap (slice_get (x ∷ xs)) (sym (one_less (length xs))) ∙ h) in
    ap (λ (t : List ℕ). is_same_text (trimmed t) t) (sym e.1) ∙ trimmed_by_last e.0 c

-- a list with one more before it stands at the front

front_of : {A : Type 0} (xs ys : List A) → take (length xs) (xs ++ ys) ≡ xs
front_of [] ys = refl
front_of (x ∷ xs) ys = ap (λ (zs : List _). x ∷ zs) (front_of xs ys)

one_more : (n : ℕ) → n + 1 ≡ suc n
one_more n = omega arith

front_with : {A : Type 0} (x : A) (xs ys : List A) → take (length xs + 1) (x ∷ (xs ++ ys)) ≡ x ∷ xs
front_with x xs ys = ap (λ n. take n (x ∷ (xs ++ ys))) (one_more (length xs)) ∙ ap (λ (zs : List _). x ∷ zs) (front_of xs ys)

pub front_taken : {A : Type 0} (x : A) (xs zs ys : List A) → zs ≡ xs → take (length xs + 1) (x ∷ (zs ++ ys)) ≡ x ∷ xs
front_taken x xs zs ys e = ap (λ (us : List _). take (length xs + 1) (x ∷ (us ++ ys))) e ∙ front_with x xs ys
