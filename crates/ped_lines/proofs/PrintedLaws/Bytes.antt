-- Bytes that may stand in statements, and what is known of them all.
use Rattle.std.proofs.Common.{◌≡◌, ℕ, suc, zero, Bool, true, false, if◌then◌else◌, List, [], ◌∷◌, ◌++◌, take, refl, ap, sym, ◌∙◌, eqb, inl, inr, arith}
use Rattle.std.specs.Prelude.{◌&&◌, ◌||◌, codes}
use Rattle.std.specs.List.{list_all, list_any}
use Rattle.std.specs.Char.{is_ascii_alphabetic}
use Rattle.std.proofs.lemmas.Bool.{eqb-true, not-false, or_cases}
use Rattle.ped_base.specs.Letters.{is_digit}
use Rattle.ped_tree.specs.Grammar.Characters.{is_character, is_printable, is_quoted, is_bad, has_bad}

pub neither : (a b : Bool) → (a || b) ≡ false → (a ≡ false) × (b ≡ false)
neither true b h = absurd cc
neither false b h = (refl, h)

pub both : (a b : Bool) → (a && b) ≡ true → (a ≡ true) × (b ≡ true)
both true b h = (refl, h)
both false b h = absurd cc

-- where all pass p, and what passes p doesn't pass q, none passes q
pub none_of : (p q : ℕ → Bool) → ((c : ℕ) → p c ≡ true → q c ≡ false) → (cs : List ℕ) → list_all p cs ≡ true → list_any q cs ≡ false
none_of p q h [] all = refl
none_of p q h (c ∷ cs) all =
    let parts = both (p c) (list_all p cs) all in
    rw (h c parts.0) (none_of p q h cs parts.1)

-- where all pass p, and what passes p passes q, all pass q
pub all_of : (p q : ℕ → Bool) → ((c : ℕ) → p c ≡ true → q c ≡ true) → (cs : List ℕ) → list_all p cs ≡ true → list_all q cs ≡ true
all_of p q h [] all = refl
all_of p q h (c ∷ cs) all =
    let parts = both (p c) (list_all p cs) all in
    rw (h c parts.0) (all_of p q h cs parts.1)

pub all_taken : (p : ℕ → Bool) (n : ℕ) (cs : List ℕ) → list_all p cs ≡ true → list_all p (take n cs) ≡ true
all_taken p zero cs all = refl
all_taken p (suc n) [] all = refl
all_taken p (suc n) (c ∷ cs) all =
    let parts = both (p c) (list_all p cs) all in
    rw parts.0 (all_taken p n cs parts.1)

letter_printable : (c : ℕ) → is_ascii_alphabetic c ≡ true → is_printable c ≡ true
letter_printable c h = grind arith

pub digit_printable : (c : ℕ) → is_digit c ≡ true → is_printable c ≡ true
digit_printable c h = grind arith

among_printable : (xs : List ℕ) (c : ℕ) → list_all is_printable xs ≡ true → list_any (λ x. eqb x c) xs ≡ true → is_printable c ≡ true
among_printable [] c all h = absurd cc
among_printable (x ∷ xs) c all h =
    let parts = both (is_printable x) (list_all is_printable xs) all in
    elim (or_cases (eqb x c) (list_any (λ x. eqb x c) xs) h) [
      | inl here ↦ ap is_printable (sym (eqb-true x c here)) ∙ parts.0
      | inr more ↦ among_printable xs c parts.1 more
    ]

character_printable : (c : ℕ) → is_character c ≡ true → is_printable c ≡ true
character_printable c h =
    let special : List ℕ = codes " =+-*/(),.'$:" in
    elim (or_cases (is_ascii_alphabetic c || is_digit c) (list_any (λ x. eqb x c) special) h) [
      | inl word ↦ elim (or_cases (is_ascii_alphabetic c) (is_digit c) word) [ inl letter ↦ letter_printable c letter | inr digit ↦ digit_printable c digit ]
      | inr other ↦ among_printable special c refl other
    ]

good_printable : (q : Bool) (c : ℕ) → (if q then is_printable c else is_character c) ≡ true → is_printable c ≡ true
good_printable true c h = h
good_printable false c h = character_printable c h

-- a character that may stand where it stands can be printed
pub allowed_printable : (before cs : List ℕ) → has_bad before cs ≡ false → list_all is_printable cs ≡ true
unfolding is_bad
allowed_printable before [] h = refl
allowed_printable before (c ∷ cs) h =
    let parts = neither (is_bad before c) (has_bad (before ++ c ∷ []) cs) h in
    rw (good_printable (is_quoted before) c (not-false _ parts.0)) (allowed_printable (before ++ c ∷ []) cs parts.1)

pub printable_newline : (c : ℕ) → is_printable c ≡ true → eqb c 10 ≡ false
printable_newline c h = grind arith

pub printable_tab : (c : ℕ) → is_printable c ≡ true → eqb c 9 ≡ false
printable_tab c h = grind arith

pub printable_return : (c : ℕ) → is_printable c ≡ true → eqb c 13 ≡ false
printable_return c h = grind arith
