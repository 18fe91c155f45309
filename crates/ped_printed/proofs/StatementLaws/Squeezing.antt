-- What is left of printed characters without the blanks outside constants.
use Rattle.std.proofs.Common.{◌≡◌, ℕ, zero, suc, ◌<◌, ◌≤◌, inl, inr, Bool, true, false, cond, List, [], ◌∷◌, ◌++◌, refl, sym, ap, subst, ◌∙◌, append_assoc, length, eqb, leb, arith}
use Rattle.std.specs.Prelude.{not, ◌&&◌, codes}
use Rattle.std.specs.List.{list_all}
use Rattle.std.specs.Char.{to_ascii_uppercase}
use Rattle.std.proofs.lemmas.Bool.{cond_both, not-true, ne_eqb, leb-true, and_parts, and_from, or_cases, or_right}
use Rattle.std.proofs.lemmas.List.{append-nil}
use Rattle.ped_lines.specs.ped_base.specs.Letters
use Rattle.ped_lines.specs.ped_base.specs.Letters.{is_letter, is_digit, is_alphanumeric}
use Rattle.ped_lines.specs.ped_tree.specs.Grammar.Columns.{is_blank}
use Rattle.ped_lines.specs.ped_tree.specs.Grammar.Characters.{is_quoted, ends_apart, kept, text_behind, text_of}
use Rattle.ped_lines.specs.ped_tree.specs.Grammar.LimitNumbers.{most_name}
use Rattle.ped_lines.specs.ped_tree.specs.Grammar.Words.{is_name, is_numeral}
use Rattle.ped_lines.specs.ped_tree.specs.Printing.{blanks, doubled, constant_text}
use Rattle.ped_lines.proofs.Quoting.{quoted_more, text_append}
use Rattle.ped_lines.proofs.Constants.{not_apart}

-- characters that leave a constant open, or none, or none and no blanks alone behind one
abbrev pub Within : List ℕ → Type 0
Within before = is_quoted before ≡ true

abbrev pub Outside : List ℕ → Type 0
Outside before = is_quoted before ≡ false

abbrev pub Ready : List ℕ → Type 0
Ready before = (is_quoted before ≡ false) × (ends_apart before ≡ false)

-- behind characters of one kind these become this text, and are of the other kind with them
pub record Squeezes (Start End : List ℕ → Type 0) (characters text : List ℕ) : Type 0 where
  pub becomes : (before : List ℕ) → Start before → text_behind before characters ≡ text
  pub leaves : (before : List ℕ) → Start before → End (before ++ characters)

-- outside constants
abbrev pub Reduces : List ℕ → List ℕ → Type 0
Reduces characters text = Squeezes Outside Outside characters text

-- one behind the other
pub joined : {S M E : List ℕ → Type 0} {a b c d : List ℕ} → Squeezes S M a b → Squeezes M E c d → Squeezes S E (a ++ c) (b ++ d)
joined {S} {M} {E} {a} {b} {c} {d} p q = record {
  becomes = λ before h. text_append before a c ∙ (λ i. p.becomes before h i ++ q.becomes (before ++ a) (p.leaves before h) i);
  leaves = λ before h. subst E (append_assoc before a c) (q.leaves (before ++ a) (p.leaves before h));
}

to_outside : {S : List ℕ → Type 0} {a b : List ℕ} → Squeezes S Ready a b → Squeezes S Outside a b
to_outside p = record { becomes = p.becomes; leaves = λ before h. (p.leaves before h).0 }

empty_open : is_quoted [] ≡ false
unfolding is_quoted
empty_open = refl

pub reduced : (characters text : List ℕ) → Reduces characters text → text_of characters ≡ text
reduced characters text r = r.becomes [] empty_open

stays_same : (S : List ℕ → Type 0) → Squeezes S S [] []
stays_same S = record {
  becomes = λ before h. refl;
  leaves = λ before h. subst S (sym (append-nil before)) h;
}

pub nothing : Reduces [] []
nothing = stays_same Outside

-- one character

single : (S E : List ℕ → Type 0) (c : ℕ) (t : List ℕ) → ((before : List ℕ) → S before → kept before c ≡ t) → ((before : List ℕ) → S before → E (before ++ c ∷ [])) → Squeezes S E (c ∷ []) t
single S E c t k q = record {
  becomes = λ before h. append-nil (kept before c) ∙ k before h;
  leaves = q;
}

quoted_behind : (q e : Bool) (before : List ℕ) (c : ℕ) → is_quoted before ≡ q → cond (eqb c 39) (not q) q ≡ e → is_quoted (before ++ c ∷ []) ≡ e
quoted_behind q e before c h k = quoted_more before c ∙ ap (λ (b : Bool). cond (eqb c 39) (not b) b) h ∙ k

-- outside constants, any other character than an apostrophe
outside_kept : (before : List ℕ) (c : ℕ) → is_quoted before ≡ false → eqb c 39 ≡ false → kept before c ≡ cond (is_blank c) [] (to_ascii_uppercase c ∷ [])
unfolding kept
outside_kept before c h k = rw (h, k) refl

plain : (c : ℕ) (t : List ℕ) → eqb c 39 ≡ false → cond (is_blank c) [] (to_ascii_uppercase c ∷ []) ≡ t → Reduces (c ∷ []) t
plain c t k same = single Outside Outside c t (λ before h. outside_kept before c h k ∙ same) (λ before h. quoted_behind false false before c h (ap (λ (b : Bool). cond b true false) k))

-- blanks

pub blanks_vanish : (n : ℕ) → Reduces (blanks n) []
blanks_vanish zero = nothing
blanks_vanish (suc n) = joined (plain 32 [] refl refl) (blanks_vanish n)

pub among_blanks : (before behind : ℕ) (characters text : List ℕ) → Reduces characters text → text_of (blanks before ++ characters ++ blanks behind) ≡ text_of characters
among_blanks before behind characters text r =
    (joined (joined (blanks_vanish before) r) (blanks_vanish behind)).becomes [] empty_open
    ∙ append-nil text
    ∙ sym (r.becomes [] empty_open)

-- names and numerals

in_range : (c : ℕ) → is_alphanumeric c ≡ true → (48 ≤ c) × (c ≤ 90)
in_range c h = elim (or_cases (is_letter c) (is_digit c) h) [
  | inl l ↦ let k = and_parts (leb 65 c) (leb c 90) l in let m = leb-true 65 c k.0 in let n = leb-true c 90 k.1 in (omega arith, omega arith)
  | inr l ↦ let k = and_parts (leb 48 c) (leb c 57) l in let m = leb-true 48 c k.0 in let n = leb-true c 57 k.1 in (omega arith, omega arith)
]

not_that : (c n : ℕ) → is_alphanumeric c ≡ true → n < 48 → eqb c n ≡ false
not_that c n h l = let k = in_range c h in ne_eqb c n (λ e. omega arith)

-- a byte below the small letters is its own capital
own_capital : (c : ℕ) → c < 97 → to_ascii_uppercase c ≡ c
own_capital c h = grind arith

bare : (c : ℕ) → is_alphanumeric c ≡ true → cond (is_blank c) [] (to_ascii_uppercase c ∷ []) ≡ c ∷ []
bare c h =
    let k = in_range c h in
    let capital : to_ascii_uppercase c ≡ c = own_capital c (omega arith) in
    ap (λ (b : Bool). cond b [] (to_ascii_uppercase c ∷ [])) (not_that c 32 h (omega arith)) ∙ ap (λ (d : ℕ). d ∷ []) capital

pub word_stays : (x : List ℕ) → list_all is_alphanumeric x ≡ true → Reduces x x
word_stays [] h = nothing
word_stays (c ∷ cs) h =
    let k = and_parts (is_alphanumeric c) (list_all is_alphanumeric cs) h in
    joined (plain c (c ∷ []) (not_that c 39 k.0 (omega arith)) (bare c k.0)) (word_stays cs k.1)

pub name_stays : (x : List ℕ) → is_name x ≡ true → Reduces x x
name_stays x h =
    let k = and_parts (Letters.is_name x) (leb (length x) most_name) h in
    word_stays x (and_parts (Letters.begins_with_letter x) (list_all is_alphanumeric x) k.0).1

digits_pass : (x : List ℕ) → list_all is_digit x ≡ true → list_all is_alphanumeric x ≡ true
digits_pass [] h = refl
digits_pass (c ∷ cs) h =
    let k = and_parts (is_digit c) (list_all is_digit cs) h in
    and_from (is_alphanumeric c) (list_all is_alphanumeric cs) (or_right (is_letter c) (is_digit c) k.0) (digits_pass cs k.1)

pub numeral_stays : (x : List ℕ) → is_numeral x ≡ true → Reduces x x
numeral_stays [] h = absurd cc
numeral_stays (c ∷ cs) h = word_stays (c ∷ cs) (digits_pass (c ∷ cs) h)

-- words of statements, with blanks and special characters

-- neither an apostrophe nor a small letter
abbrev pub is_steady : ℕ → Bool
is_steady c = not (eqb c 39) && not (leb 97 c && leb c 122)

-- without the blanks
abbrev pub without_blanks : List ℕ → List ℕ
without_blanks [] = []
without_blanks (c ∷ cs) = cond (is_blank c) [] (c ∷ []) ++ without_blanks cs

steady_capital : (c : ℕ) → (leb 97 c && leb c 122) ≡ false → to_ascii_uppercase c ≡ c
steady_capital c h = grind arith

pub words : (t : List ℕ) → list_all is_steady t ≡ true → Reduces t (without_blanks t)
words [] h = nothing
words (c ∷ cs) h =
    let k = and_parts (is_steady c) (list_all is_steady cs) h in
    let m = and_parts (not (eqb c 39)) (not (leb 97 c && leb c 122)) k.0 in
    let capital : to_ascii_uppercase c ≡ c = steady_capital c (not-true (leb 97 c && leb c 122) m.1) in
    joined (plain c (cond (is_blank c) [] (c ∷ [])) (not-true (eqb c 39) m.0) (ap (λ (d : ℕ). cond (is_blank c) [] (d ∷ [])) capital)) (words cs k.1)

-- constants

quoted_kept : (before : List ℕ) (c : ℕ) → is_quoted before ≡ true → kept before c ≡ c ∷ []
unfolding kept
quoted_kept before c h = rw h refl

opening_kept : (before : List ℕ) → Ready before → kept before 39 ≡ 39 ∷ []
unfolding kept
opening_kept before h = rw (h.0, h.1) refl

opens : Squeezes Ready Within (39 ∷ []) (39 ∷ [])
opens = single Ready Within 39 (39 ∷ []) opening_kept (λ before h. quoted_behind false true before 39 h.0 refl)

closes : Squeezes Within Ready (39 ∷ []) (39 ∷ [])
closes = single Within Ready 39 (39 ∷ []) (λ before h. quoted_kept before 39 h) (λ before h. (quoted_behind true false before 39 h refl, not_apart before (39 ∷ []) refl refl))

stays_within : (c : ℕ) → eqb c 39 ≡ false → Squeezes Within Within (c ∷ []) (c ∷ [])
stays_within c k = single Within Within c (c ∷ []) (λ before h. quoted_kept before c h) (λ before h. quoted_behind true true before c h (ap (λ (b : Bool). cond b false true) k))

doubled_stays : (text : List ℕ) → Squeezes Within Within (doubled text) (doubled text)
doubled_stays [] = stays_same Within
doubled_stays (c ∷ cs) =
    let stays : List ℕ → Type 0 = λ t. Squeezes Within Within t t in
    joined (cond_both (eqb c 39) (39 ∷ 39 ∷ []) (c ∷ []) stays (λ h. joined closes opens) (λ h. stays_within c h)) (doubled_stays cs)

constant_stays : (text : List ℕ) → Squeezes Ready Ready (constant_text text) (constant_text text)
constant_stays text = joined (joined opens (doubled_stays text)) closes

-- a comma, and a blank behind it that vanishes
pub comma_blank : Reduces (codes ", ") (codes ",")
comma_blank = words (codes ", ") refl

-- behind a comma a constant is behind no other with blanks alone between
ready_behind_comma : Squeezes Outside Ready (codes ", ") (codes ",")
ready_behind_comma = record {
  becomes = comma_blank.becomes;
  leaves = λ before h. (comma_blank.leaves before h, not_apart before (codes ", ") refl refl);
}

pub listed_constant : (text : List ℕ) → Reduces (codes ", " ++ constant_text text) (codes "," ++ constant_text text)
listed_constant text = to_outside (joined ready_behind_comma (constant_stays text))
