-- Steps of reading simple statements, as code takes them.
use Rattle.std.proofs.Common.{◌≡◌, ℕ, true, false, cond, List, [], ◌∷◌, ◌++◌, Option, Some, None, refl, sym, ap, ◌∙◌, append_assoc}
use Rattle.std.specs.Prelude.{codes}
use Rattle.std.proofs.lemmas.List.{append-nil}
use Rattle.ped_base.specs.Letters.{is_letter, begins_with_letter}
use Rattle.ped_tree.specs.Grammar.ExpressionForms.{reference_form_text, reference_form_tree}
use Rattle.ped_tree.specs.Grammar.StatementForms.{item_form_text, item_form_tree}
use Rattle.ped_expressions.specs.ExpressionReading.{with_literals}
use Rattle.ped_statements.specs.Saturated.{item_with_literals}
use Rattle.ped_expressions.specs.Scanning.{◌>>=◌, go_on, first_is, after}
use Rattle.ped_expressions.proofs.Basics.{after_is, bind_same}
use Rattle.ped_statements.specs.Listing.{is_end, whole, several, each_behind_comma}
use Rattle.ped_statements.specs.StatementReading.{quoted_at, reference_of, print_item_of}
use Rattle.ped_statements.proofs.Gathered.{ahead, ahead_one}
use Rattle.ped_statements.proofs.Several.{Shrinks, shrinks, listed, several_step}
use Rattle.ped_statements.proofs.Pieces.{reference_found, item_found}

pub letter_first : (text : List ℕ) → begins_with_letter text ≡ first_is is_letter text
letter_first [] = refl
letter_first (c ∷ cs) = refl

-- constants

-- a character, and what is read behind it
abbrev led : ℕ → Option (List ℕ × List ℕ) → Option (List ℕ × List ℕ)
led c read = read >>= λ x. Some (c ∷ x.0, x.1)

quoted_gains : (c : ℕ) (xs new left q : List ℕ) (all : Option (List ℕ × List ℕ)) → ahead xs (quoted_at false left) ≡ all → quoted_at false left ≡ led c (quoted_at false q) → new ≡ xs ++ c ∷ [] → ahead new (quoted_at false q) ≡ all
quoted_gains c xs new left q all h one n =
    ap (λ (l : List ℕ). ahead l (quoted_at false q)) n ∙ sym (ahead_one xs c (quoted_at false q)) ∙ ap (ahead xs) (sym one) ∙ h

-- a doubled apostrophe
pub quoted_pair : (xs new left q : List ℕ) (all : Option (List ℕ × List ℕ)) → ahead xs (quoted_at false left) ≡ all → after (codes "''") left ≡ Some q → new ≡ xs ++ 39 ∷ [] → ahead new (quoted_at false q) ≡ all
quoted_pair xs new left q all h a n =
    quoted_gains 39 xs new left q all h (ap (quoted_at false) (after_is (codes "''") left q a)) n

-- items behind commas

-- what was read before, and what is still read
abbrev pub all_ahead : {A : Type 0} → List A → Option (List A) → Option (List A)
all_ahead xs read = read >>= λ ys. Some (xs ++ ys)

all_ahead_one : {A : Type 0} (xs : List A) (x : A) (read : Option (List A)) → all_ahead xs (read >>= λ ys. Some (x ∷ ys)) ≡ all_ahead (xs ++ x ∷ []) read
all_ahead_one xs x None = refl
all_ahead_one {A} xs x (Some ys) = ap (λ (zs : List A). Some zs) (sym (append_assoc xs (x ∷ []) ys))

whole_led : {A : Type 0} (x : A) (r : Option (List A × List ℕ)) → whole (r >>= λ y. Some (x ∷ y.0, y.1)) ≡ (whole r >>= λ ys. Some (x ∷ ys))
whole_led x None = refl
whole_led {A} x (Some (ys, [])) = refl
whole_led {A} x (Some (ys, c ∷ cs)) = refl

goes_on : {A : Type 0} (item : List ℕ → Option (A × List ℕ)) (x : A) (r : List ℕ) → whole (listed (several item) (x, r)) ≡ (each_behind_comma item r >>= λ ys. Some (x ∷ ys))
unfolding each_behind_comma
goes_on item x [] = refl
goes_on {A} item x (c ∷ cs) =
    let go : (o : Option (List ℕ)) → whole (go_on o (Some (x ∷ [], c ∷ cs)) (λ q. several item q >>= λ y. Some (x ∷ y.0, y.1))) ≡ ((o >>= λ q. whole (several item q)) >>= λ ys. Some (x ∷ ys)) = λ o. elim o as (λ o. whole (go_on o (Some (x ∷ [], c ∷ cs)) (λ q. several item q >>= λ y. Some (x ∷ y.0, y.1))) ≡ ((o >>= λ q. whole (several item q)) >>= λ ys. Some (x ∷ ys))) [
      | None ↦ refl
      | Some q ↦ whole_led x (several item q)
    ] in
    go (after (codes ",") (c ∷ cs))

each_begins : {A : Type 0} (item : List ℕ → Option (A × List ℕ)) (left q : List ℕ) → is_end left ≡ false → after (codes ",") left ≡ Some q → each_behind_comma item left ≡ whole (several item q)
unfolding each_behind_comma
each_begins item left q e a = rw (e, a) refl

-- one item behind a comma, and the others
each_one : {A : Type 0} (item : List ℕ → Option (A × List ℕ)) → Shrinks item → (left q r : List ℕ) (x : A) → is_end left ≡ false → after (codes ",") left ≡ Some q → item q ≡ Some (x, r) → each_behind_comma item left ≡ (each_behind_comma item r >>= λ ys. Some (x ∷ ys))
each_one {A} item s left q r x e a i =
    let first : each_behind_comma item left ≡ whole (several item q) = each_begins item left q e a in
    let one : several item q ≡ listed (several item) (x, r) = several_step item s q ∙ ap (λ (o : Option (A × List ℕ)). o >>= listed (several item)) i in
    first ∙ ap whole one ∙ goes_on item x r

behind_one : {A : Type 0} (item : List ℕ → Option (A × List ℕ)) → Shrinks item → (q : List ℕ) → whole (several item q) ≡ (item q >>= λ x. each_behind_comma item x.1 >>= λ ys. Some (x.0 ∷ ys))
behind_one {A} item s q =
    let go : (o : Option (A × List ℕ)) → whole (o >>= listed (several item)) ≡ (o >>= λ x. each_behind_comma item x.1 >>= λ ys. Some (x.0 ∷ ys)) = λ o. elim o as (λ o. whole (o >>= listed (several item)) ≡ (o >>= λ x. each_behind_comma item x.1 >>= λ ys. Some (x.0 ∷ ys))) [
      | None ↦ refl
      | Some x ↦ goes_on item x.0 x.1
    ] in
    ap whole (several_step item s q) ∙ go (item q)

each_step : {A : Type 0} (item : List ℕ → Option (A × List ℕ)) → Shrinks item → (ts : List ℕ) → each_behind_comma item ts ≡ cond (is_end ts) (Some []) (after (codes ",") ts >>= λ q. item q >>= λ x. each_behind_comma item x.1 >>= λ ys. Some (x.0 ∷ ys))
unfolding each_behind_comma
each_step {A} item s ts =
    ap (λ (o : Option (List A)). cond (is_end ts) (Some []) o) (bind_same (after (codes ",") ts) (λ q. whole (several item q)) (λ q. item q >>= λ x. each_behind_comma item x.1 >>= λ ys. Some (x.0 ∷ ys)) (λ q h. behind_one item s q))

pub each_more : {A : Type 0} (item : List ℕ → Option (A × List ℕ)) → Shrinks item → (xs new : List A) (x : A) (left q r : List ℕ) (all : Option (List A)) → all_ahead xs (each_behind_comma item left) ≡ all → is_end left ≡ false → after (codes ",") left ≡ Some q → item q ≡ Some (x, r) → new ≡ xs ++ x ∷ [] → all_ahead new (each_behind_comma item r) ≡ all
each_more {A} item s xs new x left q r all h e a i n =
    ap (λ (l : List A). all_ahead l (each_behind_comma item r)) n ∙ sym (all_ahead_one xs x (each_behind_comma item r)) ∙ ap (all_ahead xs) (sym (each_one item s left q r x e a i)) ∙ h

pub each_ends : {A : Type 0} (item : List ℕ → Option (A × List ℕ)) (xs : List A) (left : List ℕ) (all : Option (List A)) → all_ahead xs (each_behind_comma item left) ≡ all → is_end left ≡ true → all ≡ Some xs
unfolding each_behind_comma
each_ends {A} item xs left all h e =
    let one : each_behind_comma item left ≡ Some [] = rw e refl in
    sym h ∙ ap (all_ahead xs) one ∙ ap (λ (ys : List A). Some ys) (append-nil xs)

pub items_shrink : (v : ℕ → ℕ) → Shrinks (print_item_of v)
items_shrink v = shrinks item_form_text (λ i. item_with_literals v (item_form_tree i)) (λ i. true) (print_item_of v) (item_found v)

pub references_shrink : (v : ℕ → ℕ) → Shrinks (reference_of v)
references_shrink v = shrinks reference_form_text (λ r. with_literals v (reference_form_tree r)) (λ r. true) (reference_of v) (reference_found v)

pub items_step : (v : ℕ → ℕ) (ts : List ℕ) → each_behind_comma (print_item_of v) ts ≡ cond (is_end ts) (Some []) (after (codes ",") ts >>= λ q. print_item_of v q >>= λ x. each_behind_comma (print_item_of v) x.1 >>= λ ys. Some (x.0 ∷ ys))
items_step v = each_step (print_item_of v) (items_shrink v)

pub references_step : (v : ℕ → ℕ) (ts : List ℕ) → each_behind_comma (reference_of v) ts ≡ cond (is_end ts) (Some []) (after (codes ",") ts >>= λ q. reference_of v q >>= λ x. each_behind_comma (reference_of v) x.1 >>= λ ys. Some (x.0 ∷ ys))
references_step v = each_step (reference_of v) (references_shrink v)
