-- A text is taken for one that the profile leaves out exactly where it is one.
use Rattle.std.proofs.Common.{◌≡◌, ℕ, zero, suc, ◌+◌, ◌-◌, ◌≤◌, Bool, true, false, cond, List, [], ◌∷◌, ◌++◌, Option, Some, None, refl, sym, ap, ◌∙◌, append_assoc, arith, inl, inr, eqb, ◌⊎◌}
use Rattle.std.specs.Prelude.{codes, IsTrue, not, ◌||◌}
use Rattle.std.specs.List.{list_any, join_by}
use Rattle.std.proofs.lemmas.Bool.{eqb-true}
use Rattle.ped_base.specs.Letters.{is_digit}
use Rattle.ped_tree.specs.Printing.{constant_text}
use Rattle.ped_tree.specs.Grammar.Words.{is_numeral}
use Rattle.ped_tree.specs.Grammar.OutsideProfile.{begins_with, words_outside, is_enclosed, are_labels, IsOutside, by_word, stop_with_digits, stop_with_constant, if_with_labels}
use Rattle.ped_expressions.specs.Scanning.{◌>>=◌, after}
use Rattle.ped_statements.specs.Listing.{whole, several}
use Rattle.ped_statements.specs.StatementReading.{quoted_at}
use Rattle.ped_statements.specs.ProfileReading.{is_some, numeral_at, is_constant, stops_with_code, closing_at, branches_to_labels, is_outside}
use Rattle.ped_expressions.proofs.Basics.{some_is, bind_some, stops_or_goes, chosen, after_is}
use Rattle.ped_expressions.proofs.Again.{stops}
use Rattle.ped_statements.proofs.Several.{shrinks, whole_is, whole_several_found, whole_several_again}
use Rattle.ped_statements.proofs.Pieces.{numeral_found, numeral_back, quoted_again, constant_found}

-- one of two

one_of : (a b : Bool) → (a || b) ≡ true → (a ≡ true) ⊎ (b ≡ true)
one_of true b h = inl refl
one_of false b h = inr h

either_first : (a b : Bool) → a ≡ true → (a || b) ≡ true
either_first a b h = rw h refl

either_other : (a b : Bool) → b ≡ true → (a || b) ≡ true
either_other true b h = refl
either_other false b h = h

there_is : {A : Type 0} (o : Option A) → is_some o ≡ true → (x : A) × (o ≡ Some x)
there_is None h = absurd cc
there_is (Some x) h = (x, refl)

-- STOP with digits or a constant

stops_found : (text : List ℕ) → stops_with_code text ≡ true → IsOutside text
unfolding stops_with_code
stops_found text h =
    elim (stops_or_goes (after (codes "STOP") text) false (λ r. is_numeral r || is_constant r) true h) [
      | inl g ↦ absurd (let z = g.1 in cc)
      | inr g ↦
          let t = after_is (codes "STOP") text g.0 g.1 in
          elim (one_of (is_numeral g.0) (is_constant g.0) g.2) [
            | inl d ↦ stop_with_digits g.0 d (sym t)
            | inr d ↦
                let c = there_is (after (codes "'") g.0 >>= λ q. whole (quoted_at false q)) d in
                let a = bind_some (after (codes "'") g.0) (λ q. whole (quoted_at false q)) c.0 c.1 in
                let k = constant_found a.0 (c.0, []) (whole_is (quoted_at false a.0) c.0 a.2) in
                stop_with_constant c.0 (ap (λ (w : List ℕ). codes "STOP" ++ w) (sym (after_is (codes "'") g.0 a.0 a.1 ∙ ap (λ (w : List ℕ). 39 ∷ w) k)) ∙ sym t)
          ]
    ]

digits_again : (digits : List ℕ) → IsTrue (is_numeral digits) → stops_with_code (codes "STOP" ++ digits) ≡ true
unfolding stops_with_code
digits_again digits is = either_first (is_numeral digits) (is_constant digits) is

constant_again : (text : List ℕ) → is_constant (constant_text text) ≡ true
constant_again text = let q = quoted_again text [] refl in rw q refl

stop_again : (text : List ℕ) → stops_with_code (codes "STOP" ++ constant_text text) ≡ true
unfolding stops_with_code
stop_again text = either_other (is_numeral (constant_text text)) (is_constant (constant_text text)) (constant_again text)

-- IF with labels

-- what is read to the closing parenthesis
abbrev FoundClosing : Bool → ℕ → List ℕ → List ℕ → Type 0
FoundClosing quoted depth text rest = (inner : List ℕ) × (is_enclosed quoted depth inner ≡ true) × (text ≡ inner ++ (41 ∷ rest))

-- one more character within the parentheses
one_more : (quoted : Bool) (depth : ℕ) (c : ℕ) (cs rest : List ℕ) (next : Bool) (level : ℕ) → FoundClosing next level cs rest → ((inner : List ℕ) → is_enclosed quoted depth (c ∷ inner) ≡ is_enclosed next level inner) → FoundClosing quoted depth (c ∷ cs) rest
one_more quoted depth c cs rest next level f step = (c ∷ f.0, step f.0 ∙ f.1, ap (λ (w : List ℕ). c ∷ w) f.2)

turned : (quoted : Bool) (depth : ℕ) (inner : List ℕ) → is_enclosed (cond quoted false true) depth inner ≡ is_enclosed (not quoted) depth inner
turned true depth inner = refl
turned false depth inner = refl

is_open : (depth : ℕ) → 1 ≤ depth → eqb depth 0 ≡ false
is_open zero h = absurd (omega arith)
is_open (suc n) h = grind (arith, eqb-true)

still_open : (depth : ℕ) → 1 ≤ depth → eqb depth 1 ≡ false → 1 ≤ depth - 1
still_open depth h k = grind (arith, eqb-true)

closing_found : (quoted : Bool) (depth : ℕ) (text rest : List ℕ) → 1 ≤ depth → closing_at quoted depth text ≡ Some rest → FoundClosing quoted depth text rest
closing_found quoted depth [] rest d h = absurd cc
closing_found quoted depth (c ∷ cs) rest d h =
    let o = is_open depth d in
    let as_is = closing_at quoted depth cs in
    let lower = cond (eqb depth 1) (Some cs) (closing_at quoted (depth - 1) cs) in
    let lower_or = cond (eqb c 41) lower as_is in
    let deeper_or = cond (eqb c 40) (closing_at quoted (depth + 1) cs) lower_or in
    elim (chosen (eqb c 39) (closing_at (not quoted) depth cs) (cond quoted as_is deeper_or) (Some rest) h) [
      | inl a ↦ one_more quoted depth c cs rest (not quoted) depth (closing_found (not quoted) depth cs rest d a.1) (λ inner. let k = a.0 in rw (o, k) (turned quoted depth inner))
      | inr a ↦ elim (chosen quoted as_is deeper_or (Some rest) a.1) [
        | inl b ↦ one_more quoted depth c cs rest quoted depth (closing_found quoted depth cs rest d b.1) (λ inner. let k = a.0 in let q = b.0 in rw (o, k, q) refl)
        | inr b ↦ elim (chosen (eqb c 40) (closing_at quoted (depth + 1) cs) lower_or (Some rest) b.1) [
          | inl e ↦ one_more quoted depth c cs rest quoted (depth + 1) (closing_found quoted (depth + 1) cs rest (omega arith) e.1) (λ inner. let k = a.0 in let q = b.0 in let l = e.0 in rw (o, k, q, l) refl)
          | inr e ↦ elim (chosen (eqb c 41) lower as_is (Some rest) e.1) [
            | inl f ↦ elim (chosen (eqb depth 1) (Some cs) (closing_at quoted (depth - 1) cs) (Some rest) f.1) [
              | inl g ↦ ([], (let q = b.0 in let l = g.0 in rw (q, l) refl), ap (λ (x : ℕ). x ∷ cs) (eqb-true c 41 f.0) ∙ ap (λ (w : List ℕ). 41 ∷ w) (some_is cs rest g.1))
              | inr g ↦ one_more quoted depth c cs rest quoted (depth - 1) (closing_found quoted (depth - 1) cs rest (still_open depth d g.0) g.1) (λ inner. let k = a.0 in let q = b.0 in let l = e.0 in let m = f.0 in rw (o, k, q, l, m) refl)
            ]
            | inr f ↦ one_more quoted depth c cs rest quoted depth (closing_found quoted depth cs rest d f.1) (λ inner. let k = a.0 in let q = b.0 in let l = e.0 in let m = f.0 in rw (o, k, q, l, m) refl)
          ]
        ]
      ]
    ]

-- a parenthesis is open before what is enclosed
enclosed_open : (quoted : Bool) (depth : ℕ) (inner : List ℕ) → is_enclosed quoted depth inner ≡ true → 1 ≤ depth
enclosed_open quoted depth [] h =
    elim (chosen quoted false (eqb depth 1) true h) [
      | inl a ↦ absurd (let z = a.1 in cc)
      | inr a ↦ let k = eqb-true depth 1 a.1 in omega arith
    ]
enclosed_open quoted zero (c ∷ cs) h = absurd cc
enclosed_open quoted (suc n) (c ∷ cs) h = omega arith

not_last : (depth : ℕ) → 1 ≤ depth - 1 → eqb depth 1 ≡ false
not_last depth h = grind (arith, eqb-true)

along_quoted : {A : Type 0} (quoted : Bool) (a b c : A) → quoted ≡ true → a ≡ c → cond quoted a b ≡ c
along_quoted quoted a b c q r = rw q r

beyond_quoted : {A : Type 0} (quoted : Bool) (a b c : A) → quoted ≡ false → b ≡ c → cond quoted a b ≡ c
beyond_quoted quoted a b c q r = rw q r

closing_again : (quoted : Bool) (depth : ℕ) (inner rest : List ℕ) → is_enclosed quoted depth inner ≡ true → closing_at quoted depth (inner ++ (41 ∷ rest)) ≡ Some rest
closing_again quoted depth [] rest h =
    elim (chosen quoted false (eqb depth 1) true h) [
      | inl a ↦ absurd (let z = a.1 in cc)
      | inr a ↦ let q = a.0 in let k = a.1 in rw (q, k) refl
    ]
closing_again quoted depth (c ∷ cs) rest h =
    let o = is_open depth (enclosed_open quoted depth (c ∷ cs) h) in
    let as_is = is_enclosed quoted depth cs in
    let lower_or = cond (eqb c 41) (is_enclosed quoted (depth - 1) cs) as_is in
    let deeper_or = cond (eqb c 40) (is_enclosed quoted (depth + 1) cs) lower_or in
    let i : cond (eqb c 39) (is_enclosed (cond quoted false true) depth cs) (cond quoted as_is deeper_or) ≡ true = rw o at h in
    elim (chosen (eqb c 39) (is_enclosed (cond quoted false true) depth cs) (cond quoted as_is deeper_or) true i) [
      | inl a ↦ let k = a.0 in rw k (closing_again (not quoted) depth cs rest (sym (turned quoted depth cs) ∙ a.1))
      | inr a ↦ elim (chosen quoted as_is deeper_or true a.1) [
        | inl b ↦ let k = a.0 in let q = b.0 in let r = closing_again quoted depth cs rest b.1 in rw k (along_quoted quoted _ _ _ q r)
        | inr b ↦ elim (chosen (eqb c 40) (is_enclosed quoted (depth + 1) cs) lower_or true b.1) [
          | inl e ↦ let k = a.0 in let l = e.0 in let r = closing_again quoted (depth + 1) cs rest e.1 in rw (k, l) (beyond_quoted quoted _ _ _ b.0 r)
          | inr e ↦ elim (chosen (eqb c 41) (is_enclosed quoted (depth - 1) cs) as_is true e.1) [
            | inl f ↦
                let k = a.0 in let l = e.0 in let m = f.0 in
                let r = closing_again quoted (depth - 1) cs rest f.1 in
                let n = not_last depth (enclosed_open quoted (depth - 1) cs f.1) in
                rw (k, l, m, n) (beyond_quoted quoted _ _ _ b.0 r)
            | inr f ↦ let k = a.0 in let l = e.0 in let m = f.0 in let r = closing_again quoted depth cs rest f.1 in rw (k, l, m) (beyond_quoted quoted _ _ _ b.0 r)
          ]
        ]
      ]
    ]

labels_of : (labels : List (List ℕ)) → IsTrue (are_labels labels) → (r : List ℕ) → r ≡ join_by (λ x. x) (codes ",") labels → is_some (whole (several numeral_at r)) ≡ true
labels_of [] are r e = absurd cc
labels_of (x ∷ xs) are r e =
    let p = whole_several_again (λ x. x) (λ x. x) is_numeral (stops is_digit) numeral_at (shrinks (λ x. x) (λ x. x) is_numeral numeral_at numeral_found) numeral_back (λ r. refl) refl x xs are in
    ap (λ (w : List ℕ). is_some (whole (several numeral_at w))) e ∙ rw p refl

branches_found : (text : List ℕ) → branches_to_labels text ≡ true → IsOutside text
unfolding branches_to_labels
branches_found text h =
    let l = there_is (after (codes "IF(") text >>= λ q. closing_at false 1 q >>= λ r. whole (several numeral_at r)) h in
    let a = bind_some (after (codes "IF(") text) (λ q. closing_at false 1 q >>= λ r. whole (several numeral_at r)) l.0 l.1 in
    let b = bind_some (closing_at false 1 a.0) (λ r. whole (several numeral_at r)) l.0 a.2 in
    let c = closing_found false 1 a.0 b.0 (omega arith) b.1 in
    let n = whole_several_found (λ x. x) (λ x. x) is_numeral numeral_at numeral_found b.0 l.0 b.2 in
    let t = join_by (λ x. x) (codes ",") (n.0 ∷ n.1) in
    if_with_labels c.0 (n.0 ∷ n.1) c.1 n.2
    (append_assoc (codes "IF(" ++ c.0) (codes ")") t ∙ append_assoc (codes "IF(") c.0 (codes ")" ++ t) ∙ ap (λ (w : List ℕ). codes "IF(" ++ w) (ap (λ (w : List ℕ). c.0 ++ (41 ∷ w)) n.4 ∙ sym c.2) ∙ sym (after_is (codes "IF(") text a.0 a.1))

branches_again : (inner : List ℕ) (labels : List (List ℕ)) → IsTrue (is_enclosed false 1 inner) → IsTrue (are_labels labels) → branches_to_labels (codes "IF(" ++ inner ++ codes ")" ++ join_by (λ x. x) (codes ",") labels) ≡ true
unfolding branches_to_labels
branches_again inner labels i are =
    let t = join_by (λ x. x) (codes ",") labels in
    let c = closing_again false 1 inner t i in
    ap branches_to_labels (append_assoc (codes "IF(" ++ inner) (codes ")") t ∙ append_assoc (codes "IF(") inner (codes ")" ++ t)) ∙ rw c (labels_of labels are t refl)

-- all of them

pub outside_found : (text : List ℕ) → is_outside text ≡ true → IsOutside text
unfolding is_outside
outside_found text h =
    elim (one_of (list_any (begins_with text) words_outside || stops_with_code text) (branches_to_labels text) h) [
      | inl a ↦ elim (one_of (list_any (begins_with text) words_outside) (stops_with_code text) a) [
        | inl b ↦ by_word b
        | inr b ↦ stops_found text b
      ]
      | inr a ↦ branches_found text a
    ]

in_three : (a b c : Bool) → (a ≡ true) ⊎ ((b ≡ true) ⊎ (c ≡ true)) → (a || b || c) ≡ true
in_three true b c h = refl
in_three false true c h = refl
in_three false false c (inl h) = absurd cc
in_three false false c (inr (inl h)) = absurd cc
in_three false false c (inr (inr h)) = h

pub outside_again : (text : List ℕ) → IsOutside text → is_outside text ≡ true
unfolding is_outside
outside_again text (by_word w) = in_three (list_any (begins_with text) words_outside) (stops_with_code text) (branches_to_labels text) (inl w)
outside_again text (stop_with_digits digits is t) = in_three (list_any (begins_with text) words_outside) (stops_with_code text) (branches_to_labels text) (inr (inl (ap stops_with_code (sym t) ∙ digits_again digits is)))
outside_again text (stop_with_constant c t) = in_three (list_any (begins_with text) words_outside) (stops_with_code text) (branches_to_labels text) (inr (inl (ap stops_with_code (sym t) ∙ stop_again c)))
outside_again text (if_with_labels inner labels i are t) = in_three (list_any (begins_with text) words_outside) (stops_with_code text) (branches_to_labels text) (inr (inr (ap branches_to_labels (sym t) ∙ branches_again inner labels i are)))
