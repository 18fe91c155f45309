-- What a comment's line says can be printed as a comment and read again.
use Rattle.std.proofs.Common.{◌≡◌, ℕ, zero, suc, ◌<◌, ◌≤◌, Bool, true, false, if◌then◌else◌, List, [], ◌∷◌, length, take, drop, get_or, refl, ap, sym, ◌∙◌, eqb, inl, inr, arith}
use Rattle.std.specs.Prelude.{◌&&◌, ◌||◌}
use Rattle.std.specs.List.{list_any}
use Rattle.std.proofs.lemmas.Bool.{eqb-true, and_from, or_from, cases_Bool}
use Rattle.std.proofs.lemmas.List.{get_or-take, length-take}
use Rattle.std.specs.Char.{to_ascii_uppercase}
use Rattle.ped_lines.specs.ped_tree.specs.Grammar.Columns.{is_directive}
use Rattle.ped_lines.specs.ped_tree.specs.Grammar.Grouping.{with_rest, trimmed, comment_text}
use Rattle.ped_lines.specs.Printed.Fitting.{IsCommentText}
use Rattle.ped_lines.proofs.PrintedLaws.Bytes.{neither, both}

-- without the blanks and carriage returns at the end

with_rest_short : (c : ℕ) (rest : List ℕ) → length (with_rest c rest) ≤ suc (length rest)
with_rest_short c [] = go (eqb c 32 || eqb c 13) where
  go : (b : Bool) → length (if b then [] else c ∷ []) ≤ 1
  go true = omega arith
  go false = omega arith
with_rest_short c (x ∷ xs) = omega arith

trimmed_short : (cs : List ℕ) → length (trimmed cs) ≤ length cs
trimmed_short [] = omega arith
trimmed_short (c ∷ cs) = omega (arith, with_rest_short c (trimmed cs), trimmed_short cs)

with_rest_twice : (c : ℕ) (rest : List ℕ) → trimmed rest ≡ rest → trimmed (with_rest c rest) ≡ with_rest c rest
with_rest_twice c [] h = go (eqb c 32 || eqb c 13) refl where
  go : (b : Bool) → (eqb c 32 || eqb c 13) ≡ b → trimmed (if b then [] else c ∷ []) ≡ (if b then [] else c ∷ [])
  go true e = refl
  go false e = ap (λ (b : Bool). if b then [] else c ∷ []) e
with_rest_twice c (x ∷ xs) h = ap (with_rest c) h

trimmed_twice : (cs : List ℕ) → trimmed (trimmed cs) ≡ trimmed cs
trimmed_twice [] = refl
trimmed_twice (c ∷ cs) = with_rest_twice c (trimmed cs) (trimmed_twice cs)

with_rest_none : (p : ℕ → Bool) (c : ℕ) (rest : List ℕ) → list_any p (c ∷ rest) ≡ false → list_any p (with_rest c rest) ≡ false
with_rest_none p c [] h = go (eqb c 32 || eqb c 13) where
  go : (b : Bool) → list_any p (if b then [] else c ∷ []) ≡ false
  go true = refl
  go false = h
with_rest_none p c (x ∷ xs) h = h

trimmed_none : (p : ℕ → Bool) (cs : List ℕ) → list_any p cs ≡ false → list_any p (trimmed cs) ≡ false
trimmed_none p [] h = refl
trimmed_none p (c ∷ cs) h =
    let parts = neither (p c) (list_any p cs) h in
    with_rest_none p c (trimmed cs) (or_from (p c) (list_any p (trimmed cs)) parts.0 (trimmed_none p cs parts.1))

-- where a byte is seen that is no blank, it stood there before

with_rest_seen : (c : ℕ) (rest : List ℕ) (k : ℕ) → eqb (get_or (with_rest c rest) k 32) 32 ≡ false → get_or (c ∷ rest) k 32 ≡ get_or (with_rest c rest) k 32
with_rest_seen c [] k h = go (eqb c 32 || eqb c 13) h where
  go : (b : Bool) → eqb (get_or (if b then [] else c ∷ []) k 32) 32 ≡ false → get_or (c ∷ []) k 32 ≡ get_or (if b then [] else c ∷ []) k 32
  go true h = absurd cc
  go false h = refl
with_rest_seen c (x ∷ xs) k h = refl

trimmed_seen : (cs : List ℕ) (k : ℕ) → eqb (get_or (trimmed cs) k 32) 32 ≡ false → get_or cs k 32 ≡ get_or (trimmed cs) k 32
trimmed_seen [] k h = refl
trimmed_seen (c ∷ cs) zero h = with_rest_seen c (trimmed cs) zero h
trimmed_seen (c ∷ cs) (suc k) h =
    let here : get_or (trimmed cs) k 32 ≡ get_or (trimmed (c ∷ cs)) (suc k) 32 = with_rest_seen c (trimmed cs) (suc k) h in
    trimmed_seen cs k (ap (λ (x : ℕ). eqb x 32) here ∙ h) ∙ here

-- none of the first bytes

pub none_taken : (p : ℕ → Bool) (n : ℕ) (cs : List ℕ) → list_any p cs ≡ false → list_any p (take n cs) ≡ false
none_taken p zero cs h = refl
none_taken p (suc n) [] h = refl
none_taken p (suc n) (c ∷ cs) h =
    let parts = neither (p c) (list_any p cs) h in
    or_from (p c) (list_any p (take n cs)) parts.0 (none_taken p n cs parts.1)

none_behind_first : (p : ℕ → Bool) (cs : List ℕ) → list_any p cs ≡ false → list_any p (drop 1 cs) ≡ false
none_behind_first p [] h = refl
none_behind_first p (c ∷ cs) h = (neither (p c) (list_any p cs) h).1

-- what passes a test that a blank doesn't pass is no blank
no_blank : (p : ℕ → Bool) (c : ℕ) → p 32 ≡ false → p c ≡ true → eqb c 32 ≡ false
no_blank p c none h = elim (cases_Bool (eqb c 32)) [
  | inl is ↦ absurd (let wrong : ◌≡◌ {A = Bool} true false = sym h ∙ ap p (eqb-true c 32 is) ∙ none in cc)
  | inr isnt ↦ isnt
]

-- a byte of the text passes such a test only where the byte of the line does
still : (p : ℕ → Bool) (cs : List ℕ) (k : ℕ) → p 32 ≡ false → k < 71 → p (get_or (trimmed (take 71 cs)) k 32) ≡ true → p (get_or cs k 32) ≡ true
still p cs k none small h =
    ap p (sym (get_or-take 71 cs k 32 small) ∙ trimmed_seen (take 71 cs) k (no_blank p _ none h)) ∙ h

all_four : (a b c d : Bool) → (a && b && c && d) ≡ true → (a ≡ true) × (b ≡ true) × (c ≡ true) × (d ≡ true)
all_four a b c d h =
    let three = both (a && b && c) d h in
    let two = both (a && b) c three.0 in
    let one = both a b two.0 in
    (one.0, one.1, two.1, three.1)

from_four : (a b c d : Bool) → (a ≡ true) × (b ≡ true) × (c ≡ true) × (d ≡ true) → (a && b && c && d) ≡ true
from_four a b c d h = and_from (a && b && c) d (and_from (a && b) c (and_from a b h.0 h.1) h.2) h.3

-- $PED in columns 2 to 5 of the text stood there in the line
directive_kept : (c : ℕ) (cs : List ℕ) → is_directive (67 ∷ trimmed (take 71 cs)) ≡ true → is_directive (c ∷ cs) ≡ true
unfolding is_directive
directive_kept c cs h =
    let text = trimmed (take 71 cs) in
    let at : ℕ → ℕ → Bool = λ (letter x : ℕ). eqb (to_ascii_uppercase x) letter in
    let tests = all_four (eqb (get_or text 0 32) 36) (at 80 (get_or text 1 32)) (at 69 (get_or text 2 32)) (at 68 (get_or text 3 32)) h in
    from_four (eqb (get_or cs 0 32) 36) (at 80 (get_or cs 1 32)) (at 69 (get_or cs 2 32)) (at 68 (get_or cs 3 32)) (
      still (λ x. eqb x 36) cs 0 refl (omega arith) tests.0,
      still (at 80) cs 1 refl (omega arith) tests.1,
      still (at 69) cs 2 refl (omega arith) tests.2,
      still (at 68) cs 3 refl (omega arith) tests.3,
    )

text_no_directive : (line : List ℕ) → is_directive line ≡ false → is_directive (67 ∷ comment_text line) ≡ false
unfolding comment_text is_directive
text_no_directive [] h = refl
text_no_directive (c ∷ cs) h = elim (cases_Bool (is_directive (67 ∷ trimmed (take 71 cs)))) [
  | inl is ↦ absurd (let wrong : ◌≡◌ {A = Bool} true false = sym (directive_kept c cs is) ∙ h in cc)
  | inr isnt ↦ isnt
]

-- the text of a comment that is no directive
pub text_fits : (line : List ℕ) → list_any (λ c. eqb c 10) line ≡ false → is_directive line ≡ false → IsCommentText (comment_text line)
unfolding comment_text
text_fits line one plain = record {
  short = omega (arith, trimmed_short (take 71 (drop 1 line)), length-take 71 (drop 1 line));
  one_line = trimmed_none (λ c. eqb c 10) (take 71 (drop 1 line)) (none_taken (λ c. eqb c 10) 71 (drop 1 line) (none_behind_first (λ c. eqb c 10) line one));
  ended = trimmed_twice (take 71 (drop 1 line));
  no_directive = text_no_directive line plain;
}
