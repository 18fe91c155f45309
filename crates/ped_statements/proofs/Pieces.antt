-- Names, numerals, references, constants and items: what is read is written so, and what is written so is read.
use Rattle.std.proofs.Common.{◌≡◌, ℕ, Bool, true, false, cond, List, [], ◌∷◌, ◌++◌, Option, Some, None, refl, sym, ap, subst, ◌∙◌, append_assoc, arith, inl, inr, eqb}
use Rattle.std.specs.Prelude.{codes, ◌||◌, not}
use Rattle.std.specs.List.{list_all}
use Rattle.std.proofs.lemmas.Bool.{eqb-true}
use Rattle.ped_base.specs.Letters.{is_letter, is_digit, is_alphanumeric}
use Rattle.ped_tree.specs.Tree.{ExprTree, ItemTree, Value, Text}
use Rattle.ped_tree.specs.Printing.{doubled}
use Rattle.ped_tree.specs.Grammar.Words.{is_name, is_numeral}
use Rattle.ped_tree.specs.Grammar.ExpressionForms.{ExprForm, PrimaryForm, ReferenceForm, literal, reference, remainder, absolute, greatest, least, parentheses, scalar, element, expr_form_text, primary_form_text, reference_form_text, exprs_form_text, expr_form_tree, primary_form_tree, reference_form_tree}
use Rattle.ped_tree.specs.Grammar.StatementForms.{ItemForm, a_value, a_text, item_form_text, item_form_tree}
use Rattle.ped_expressions.specs.Scanning.{◌>>=◌, front, behind, first_is, after, scaling_at, adding_at}
use Rattle.ped_expressions.specs.ExpressionReading.{with_literals, enough, expr_of, primary_of}
use Rattle.ped_statements.specs.Saturated.{item_with_literals}
use Rattle.ped_statements.specs.StatementReading.{name_at, is_reference, reference_of, quoted_at, print_item_of}
use Rattle.ped_statements.specs.ProfileReading.{numeral_at}
use Rattle.ped_expressions.proofs.Basics.{some_is, bind_some, stops_or_goes, chosen, guarded, front_behind, front_all, after_is, after_none}
use Rattle.ped_expressions.proofs.Sound.{FoundExpr, FoundPrimary, expr_found, primary_found, read_on}
use Rattle.ped_expressions.proofs.Equations.{expr_step, term_step, factor_step, primary_step, named_step}
use Rattle.ped_expressions.proofs.Again.{ends_word, stops, front_again, behind_again, assoc_4, expr_again, sums_stop, reference_again}
use Rattle.ped_statements.proofs.Several.{Shrinks, Finds, IsReadBack, shrinks}

-- a part ends here: at the end, at a comma or at a closing parenthesis
abbrev pub ends_part : List ℕ → Bool
ends_part [] = true
ends_part (c ∷ ts) = eqb c 44 || eqb c 41

pub part_ends_word : (ts : List ℕ) → ends_part ts ≡ true → ends_word ts ≡ true
part_ends_word [] h = refl
part_ends_word (c ∷ ts) h = grind (arith, eqb-true)

part_no_scaling : (ts : List ℕ) → ends_part ts ≡ true → scaling_at ts ≡ None
part_no_scaling [] h = refl
part_no_scaling (c ∷ ts) h = grind (arith, eqb-true)

part_no_adding : (ts : List ℕ) → ends_part ts ≡ true → adding_at ts ≡ None
part_no_adding [] h = refl
part_no_adding (c ∷ ts) h = grind (arith, eqb-true)

-- expressions

pub expr_finds : (v : ℕ → ℕ) (ts : List ℕ) (x : ExprTree × List ℕ) → expr_of v ts ≡ Some x → FoundExpr v ts x
unfolding expr_of
expr_finds v ts x h = expr_found v (enough ts) ts x h

pub expr_part : (v : ℕ → ℕ) (e : ExprForm) (rest : List ℕ) → ends_part rest ≡ true → expr_of v (expr_form_text e ++ rest) ≡ Some (with_literals v (expr_form_tree e), rest)
expr_part v e rest h = expr_again v e rest (part_ends_word rest h) (part_no_scaling rest h) ∙ sums_stop v _ rest (part_no_adding rest h)

-- names

pub name_found : Finds (λ x. x) (λ x. x) is_name name_at
name_found ts x h =
    let g = guarded (is_name (front is_alphanumeric ts)) (Some (front is_alphanumeric ts, behind is_alphanumeric ts)) x h in
    subst (λ (y : List ℕ × List ℕ). (f : List ℕ) × (is_name f ≡ true) × (f ≡ y.0) × (ts ≡ f ++ y.1)) (some_is _ x g.1)
    (front is_alphanumeric ts, g.0, refl, sym (front_behind is_alphanumeric ts))

pub name_alphanumeric : (x : List ℕ) → is_name x ≡ true → list_all is_alphanumeric x ≡ true
name_alphanumeric [] h = absurd cc
name_alphanumeric (c ∷ cs) h = grind arith

pub name_back : IsReadBack (λ x. x) (λ x. x) is_name (stops is_alphanumeric) name_at
name_back x rest g e =
    let a = name_alphanumeric x g in
    let f = front_again is_alphanumeric x rest a e in
    let b = behind_again is_alphanumeric x rest a e in
    ap (λ (w : List ℕ). cond (is_name w) (Some (w, behind is_alphanumeric (x ++ rest))) None) f
    ∙ ap (λ (w : List ℕ). cond (is_name x) (Some (x, w)) None) b
    ∙ rw g refl

-- numerals

numeral_front : (ts : List ℕ) → first_is is_digit ts ≡ true → is_numeral (front is_digit ts) ≡ true
numeral_front [] d = absurd cc
numeral_front (c ∷ ts) d = rw d (rw (d, front_all is_digit ts) refl)

pub numeral_found : Finds (λ x. x) (λ x. x) is_numeral numeral_at
numeral_found ts x h =
    let g = guarded (first_is is_digit ts) (Some (front is_digit ts, behind is_digit ts)) x h in
    subst (λ (y : List ℕ × List ℕ). (f : List ℕ) × (is_numeral f ≡ true) × (f ≡ y.0) × (ts ≡ f ++ y.1)) (some_is _ x g.1)
    (front is_digit ts, numeral_front ts g.0, refl, sym (front_behind is_digit ts))

pub numeral_digits : (ds : List ℕ) → is_numeral ds ≡ true → list_all is_digit ds ≡ true
numeral_digits [] h = absurd cc
numeral_digits (c ∷ cs) h = h

first_digit : (ds rest : List ℕ) → is_numeral ds ≡ true → first_is is_digit (ds ++ rest) ≡ true
first_digit [] rest h = absurd cc
first_digit (c ∷ cs) rest h = grind arith

pub numeral_back : IsReadBack (λ x. x) (λ x. x) is_numeral (stops is_digit) numeral_at
numeral_back x rest g e =
    let a = numeral_digits x g in
    let f = front_again is_digit x rest a e in
    let b = behind_again is_digit x rest a e in
    let d = first_digit x rest g in
    rw (d, f, b) refl

-- references

is_written : (v : ℕ → ℕ) (p : PrimaryForm) (rest : List ℕ) → is_reference (with_literals v (primary_form_tree p)) ≡ true → first_is is_letter (primary_form_text p ++ rest) ≡ true
    → (r : ReferenceForm) × (reference_form_tree r ≡ primary_form_tree p) × (reference_form_text r ≡ primary_form_text p)
is_written v (literal ds is) rest h l = absurd cc
is_written v (reference r) rest h l = (r, refl, refl)
is_written v (remainder x is a b) rest h l = absurd cc
is_written v (absolute x is a) rest h l = absurd cc
is_written v (greatest x is a others) rest h l = absurd cc
is_written v (least x is a others) rest h l = absurd cc
is_written v (parentheses e) rest h l = absurd cc

primary_finds : (v : ℕ → ℕ) (ts : List ℕ) (x : ExprTree × List ℕ) → primary_of v ts ≡ Some x → FoundPrimary v ts x
unfolding primary_of
primary_finds v ts x h = primary_found v (enough ts) ts x h

pub reference_found : (v : ℕ → ℕ) → Finds reference_form_text (λ r. with_literals v (reference_form_tree r)) (λ r. true) (reference_of v)
unfolding reference_of
reference_found v ts x h =
    let g = guarded (first_is is_letter ts) (primary_of v ts >>= λ y. cond (is_reference y.0) (Some y) None) x h in
    let a = bind_some (primary_of v ts) (λ y. cond (is_reference y.0) (Some y) None) x g.1 in
    let k = guarded (is_reference a.0.0) (Some a.0) x a.2 in
    let p = primary_finds v ts a.0 a.1 in
    let r = is_written v p.0 a.0.1 (ap is_reference p.1 ∙ k.0) (ap (first_is is_letter) (sym p.2) ∙ g.0) in
    subst (λ (y : ExprTree × List ℕ). (r : ReferenceForm) × (true ≡ true) × (with_literals v (reference_form_tree r) ≡ y.0) × (ts ≡ reference_form_text r ++ y.1)) (some_is a.0 x k.1)
    (r.0, refl, ap (with_literals v) r.1 ∙ p.1, p.2 ∙ ap (λ (w : List ℕ). w ++ a.0.1) (sym r.2))

name_letter : (x rest : List ℕ) → is_name x ≡ true → first_is is_letter (x ++ rest) ≡ true
name_letter [] rest h = absurd cc
name_letter (c ∷ cs) rest h = grind arith

reference_letter : (r : ReferenceForm) (rest : List ℕ) → first_is is_letter (reference_form_text r ++ rest) ≡ true
reference_letter (scalar x is) rest = name_letter x rest is
reference_letter (element x is other a) rest = rw (assoc_4 x (codes "(") (exprs_form_text a) (codes ")") rest) (name_letter x _ is)

reference_is : (v : ℕ → ℕ) (r : ReferenceForm) → is_reference (with_literals v (reference_form_tree r)) ≡ true
reference_is v (scalar x is) = refl
reference_is v (element x is other a) = refl

pub reference_back : (v : ℕ → ℕ) → IsReadBack reference_form_text (λ r. with_literals v (reference_form_tree r)) (λ r. true) ends_word (reference_of v)
unfolding reference_of
reference_back v r rest g e =
    let l = reference_letter r rest in
    let p = reference_again v r rest e in
    let i = reference_is v r in
    rw (l, p, i) refl

-- constants

-- what is read of a constant, from its inside or from directly behind an apostrophe
abbrev FoundQuoted : Bool → List ℕ → List ℕ × List ℕ → Type 0
FoundQuoted false ts x = ts ≡ doubled x.0 ++ (39 ∷ x.1)
FoundQuoted true ts x = 39 ∷ ts ≡ doubled x.0 ++ (39 ∷ x.1)

-- a character of a constant as it is written
abbrev twice : ℕ → List ℕ
twice c = cond (eqb c 39) (39 ∷ 39 ∷ []) (c ∷ [])

one_more : (w ts a r : List ℕ) → ts ≡ a ++ r → w ++ ts ≡ w ++ a ++ r
one_more w ts a r e = read_on w a ts r e

quoted_found : (q : Bool) (ts : List ℕ) (x : List ℕ × List ℕ) → quoted_at q ts ≡ Some x → FoundQuoted q ts x
quoted_found false [] x h = absurd cc
quoted_found true [] x h = subst (λ (y : List ℕ × List ℕ). FoundQuoted true [] y) (some_is ([], []) x h) refl
quoted_found false (c ∷ cs) x h =
    elim (chosen (eqb c 39) (quoted_at true cs) (quoted_at false cs >>= λ x. Some (c ∷ x.0, x.1)) (Some x) h) [
      | inl a ↦ ap (λ (d : ℕ). d ∷ cs) (eqb-true c 39 a.0) ∙ quoted_found true cs x a.1
      | inr a ↦
          let b = bind_some (quoted_at false cs) (λ x. Some (c ∷ x.0, x.1)) x a.1 in
          let r = quoted_found false cs b.0 b.1 in
          let t : twice c ≡ c ∷ [] = rw a.0 refl in
          subst (λ (y : List ℕ × List ℕ). FoundQuoted false (c ∷ cs) y) (some_is (c ∷ b.0.0, b.0.1) x b.2)
          (one_more (c ∷ []) cs (doubled b.0.0) (39 ∷ b.0.1) r ∙ ap (λ (w : List ℕ). w ++ doubled b.0.0 ++ (39 ∷ b.0.1)) (sym t))
    ]
quoted_found true (c ∷ cs) x h =
    elim (chosen (eqb c 39) (quoted_at false cs >>= λ x. Some (39 ∷ x.0, x.1)) (Some ([], c ∷ cs)) (Some x) h) [
      | inl a ↦
          let b = bind_some (quoted_at false cs) (λ x. Some (39 ∷ x.0, x.1)) x a.1 in
          let r = quoted_found false cs b.0 b.1 in
          subst (λ (y : List ℕ × List ℕ). FoundQuoted true (c ∷ cs) y) (some_is (39 ∷ b.0.0, b.0.1) x b.2)
          (ap (λ (d : ℕ). 39 ∷ d ∷ cs) (eqb-true c 39 a.0) ∙ one_more (39 ∷ 39 ∷ []) cs (doubled b.0.0) (39 ∷ b.0.1) r)
      | inr a ↦ subst (λ (y : List ℕ × List ℕ). FoundQuoted true (c ∷ cs) y) (some_is ([], c ∷ cs) x a.1) refl
    ]

pub constant_found : (ts : List ℕ) (x : List ℕ × List ℕ) → quoted_at false ts ≡ Some x → ts ≡ doubled x.0 ++ (39 ∷ x.1)
constant_found ts x h = quoted_found false ts x h

abbrev pub no_apostrophe : List ℕ → Bool
no_apostrophe [] = true
no_apostrophe (c ∷ cs) = not (eqb c 39)

closed_again : (rest : List ℕ) → no_apostrophe rest ≡ true → quoted_at true rest ≡ Some ([], rest)
closed_again [] h = refl
closed_again (c ∷ cs) h = let k : eqb c 39 ≡ false = grind arith in rw k refl

pub quoted_again : (text rest : List ℕ) → no_apostrophe rest ≡ true → quoted_at false (doubled text ++ (39 ∷ rest)) ≡ Some (text, rest)
quoted_again [] rest h = closed_again rest h
quoted_again (c ∷ cs) rest h =
    let again = quoted_again cs rest h in
    let go : (b : Bool) → eqb c 39 ≡ b → quoted_at false (cond b (39 ∷ 39 ∷ []) (c ∷ []) ++ doubled cs ++ (39 ∷ rest)) ≡ Some (c ∷ cs, rest) = λ b. elim b as (λ b. eqb c 39 ≡ b → quoted_at false (cond b (39 ∷ 39 ∷ []) (c ∷ []) ++ doubled cs ++ (39 ∷ rest)) ≡ Some (c ∷ cs, rest)) [
      | true ↦ λ k. rw again (ap (λ (d : ℕ). Some (d ∷ cs, rest)) (sym (eqb-true c 39 k)))
      | false ↦ λ k. rw (k, again) refl
    ] in
    go (eqb c 39) refl

-- items of a PRINT

no_constant : (v : ℕ → ℕ) (ts : List ℕ) → expr_of v (codes "'" ++ ts) ≡ None
no_constant v ts = expr_step v (codes "'" ++ ts) ∙ rw (term_step v (codes "'" ++ ts), factor_step v (codes "'" ++ ts), primary_step v (codes "'" ++ ts), named_step v [] (codes "'" ++ ts)) refl

no_some : {A : Type 0} (x : A) → ◌≡◌ {A = Option A} None (Some x) → ⊥
no_some x e = absurd cc

expr_is_no_constant : (v : ℕ → ℕ) (e : ExprForm) (rest : List ℕ) → ends_part rest ≡ true → after (codes "'") (expr_form_text e ++ rest) ≡ None
expr_is_no_constant v e rest h = after_none (codes "'") (expr_form_text e ++ rest) (λ r same. no_some _ (sym (no_constant v r) ∙ ap (expr_of v) (sym same) ∙ expr_part v e rest h))

part_no_apostrophe : (ts : List ℕ) → ends_part ts ≡ true → no_apostrophe ts ≡ true
part_no_apostrophe [] h = refl
part_no_apostrophe (c ∷ ts) h = grind (arith, eqb-true)

pub item_found : (v : ℕ → ℕ) → Finds item_form_text (λ i. item_with_literals v (item_form_tree i)) (λ i. true) (print_item_of v)
unfolding print_item_of
item_found v ts x h =
    let Found : ItemTree × List ℕ → Type 0 = λ y. (i : ItemForm) × (true ≡ true) × (item_with_literals v (item_form_tree i) ≡ y.0) × (ts ≡ item_form_text i ++ y.1) in
    elim (stops_or_goes (after (codes "'") ts) (expr_of v ts >>= λ x. Some (Value x.0, x.1)) (λ q. quoted_at false q >>= λ x. Some (Text x.0, x.1)) (Some x) h) [
      | inl g ↦
          let a = bind_some (expr_of v ts) (λ x. Some (Value x.0, x.1)) x g.1 in
          let f = expr_finds v ts a.0 a.1 in
          subst Found (some_is (Value a.0.0, a.0.1) x a.2) (a_value f.0, refl, ap Value f.1, f.2)
      | inr g ↦
          let a = bind_some (quoted_at false g.0) (λ x. Some (Text x.0, x.1)) x g.2 in
          let f = quoted_found false g.0 a.0 a.1 in
          subst Found (some_is (Text a.0.0, a.0.1) x a.2) (a_text a.0.0, refl, refl, after_is (codes "'") ts g.0 g.1 ∙ ap (λ (w : List ℕ). 39 ∷ w) (f ∙ sym (append_assoc (doubled a.0.0) (39 ∷ []) a.0.1)))
    ]

pub item_back : (v : ℕ → ℕ) → IsReadBack item_form_text (λ i. item_with_literals v (item_form_tree i)) (λ i. true) ends_part (print_item_of v)
unfolding print_item_of
item_back v (a_value e) rest g h = rw (expr_is_no_constant v e rest h, expr_part v e rest h) refl
item_back v (a_text text) rest g h =
    let q = quoted_again text rest (part_no_apostrophe rest h) in
    ap (λ (w : List ℕ). print_item_of v (39 ∷ w)) (append_assoc (doubled text) (39 ∷ []) rest) ∙ rw q refl

pub names_shrink : Shrinks name_at
names_shrink = shrinks (λ x. x) (λ x. x) is_name name_at name_found

-- a name, as the code takes it off the front

pub name_read : (ts word rest x : List ℕ) → word ≡ front is_alphanumeric ts → rest ≡ behind is_alphanumeric ts → Some x ≡ cond (is_name word) (Some word) None → name_at ts ≡ Some (x, rest)
name_read ts word rest x w r h =
    let k = guarded (is_name word) (Some word) x (sym h) in
    let n : is_name (front is_alphanumeric ts) ≡ true = ap is_name (sym w) ∙ k.0 in
    rw n (ap (λ (y : List ℕ). Some (y, behind is_alphanumeric ts)) (sym w ∙ some_is word x k.1) ∙ ap (λ (y : List ℕ). Some (x, y)) (sym r))

no_name : (b : Bool) (word : List ℕ) → ◌≡◌ {A = Option (List ℕ)} None (cond b (Some word) None) → b ≡ false
no_name true word h = absurd cc
no_name false word h = refl

pub name_unread : (ts word : List ℕ) → word ≡ front is_alphanumeric ts → None ≡ cond (is_name word) (Some word) None → name_at ts ≡ None
name_unread ts word w h =
    let n : is_name (front is_alphanumeric ts) ≡ false = ap is_name (sym w) ∙ no_name (is_name word) word h in
    rw n refl
