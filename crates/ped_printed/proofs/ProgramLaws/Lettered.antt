-- Texts whose characters may all stand outside constants, or whose constants are closed.
use Rattle.std.proofs.Common.{◌≡◌, ℕ, zero, suc, ◌+◌, ◌*◌, ◌%◌, ◌<◌, inl, inr, Bool, true, false, cond, List, [], ◌∷◌, ◌++◌, length, min, refl, sym, ap, ◌∙◌, append_assoc, length-append, eqb, leb, arith}
use Rattle.std.specs.Prelude.{◌/◌, not, ◌&&◌, ◌||◌, ◌==◌, if◌then◌else◌, nat_lt, codes}
use Rattle.std.specs.List.{list_all, list_any, flat_map, join_by}
use Rattle.std.specs.Char.{is_ascii_alphabetic}
use Rattle.std.specs.Fmt.{decimal, digits, digits_onto, digit_glyph}
use Rattle.std.proofs.Math.Nat.{mod-lt, min-le_right}
use Rattle.std.proofs.lemmas.Bool.{cond_both, not-true, not_from_false, ne_eqb, lt-ltb, ltb-false, leb-true, le-leb, and_parts, and_from, or_cases, or_from, or_left, or_right}
use Rattle.std.proofs.lemmas.List.{append-nil, length-replicate}
use Rattle.ped_lines.specs.ped_base.specs.Letters
use Rattle.ped_lines.specs.ped_base.specs.Letters.{is_digit}
use Rattle.ped_lines.specs.ped_tree.specs.Grammar.Characters.{is_character, is_printable, is_quoted, is_bad, has_bad}
use Rattle.ped_lines.specs.ped_tree.specs.Grammar.Words.{is_name}
use Rattle.ped_lines.specs.ped_tree.specs.Printing.{blanks, doubled, constant_text}
use Rattle.ped_lines.proofs.Quoting.{quoted_more, has_bad_append}
use Rattle.ped_lines.specs.Printed.Fitting.{begins_at_once, TextFits}

-- behind characters that leave a constant open or not, each character of the text may stand, and the text leaves one open or not
pub record Passes (start end : Bool) (text : List ℕ) : Type 0 where
  pub allowed : (before : List ℕ) → is_quoted before ≡ start → has_bad before text ≡ false
  pub leaves : (before : List ℕ) → is_quoted before ≡ start → is_quoted (before ++ text) ≡ end

-- outside constants
abbrev pub Lettered : List ℕ → Type 0
Lettered text = Passes false false text

-- one behind the other
pub joined : {s m e : Bool} {a b : List ℕ} → Passes s m a → Passes m e b → Passes s e (a ++ b)
joined {s} {m} {e} {a} {b} p q = record {
  allowed = λ before h. has_bad_append before a b ∙ or_from (has_bad before a) (has_bad (before ++ a) b) (p.allowed before h) (q.allowed (before ++ a) (p.leaves before h));
  leaves = λ before h. ap is_quoted (sym (append_assoc before a b)) ∙ q.leaves (before ++ a) (p.leaves before h);
}

pub nothing : (s : Bool) → Passes s s []
nothing s = record {
  allowed = λ before h. refl;
  leaves = λ before h. ap is_quoted (append-nil before) ∙ h;
}

-- one character

-- it may stand in a constant, or outside
abbrev may_stand : Bool → ℕ → Bool
may_stand quoted c = if quoted then is_printable c else is_character c

good : (before : List ℕ) (c : ℕ) (s : Bool) → is_quoted before ≡ s → may_stand s c ≡ true → is_bad before c ≡ false
unfolding is_bad
good before c s h k = ap (λ (q : Bool). not (may_stand q c)) h ∙ ap not k

single : (s e : Bool) (c : ℕ) → may_stand s c ≡ true → cond (eqb c 39) (not s) s ≡ e → Passes s e (c ∷ [])
single s e c k q = record {
  allowed = λ before h. or_from (is_bad before c) false (good before c s h k) refl;
  leaves = λ before h. quoted_more before c ∙ ap (λ (b : Bool). cond (eqb c 39) (not b) b) h ∙ q;
}

-- words, with blanks and special characters

-- may stand outside constants, and is no apostrophe
abbrev pub is_plain : ℕ → Bool
is_plain c = is_character c && not (eqb c 39)

pub words : (t : List ℕ) → list_all is_plain t ≡ true → Lettered t
words [] h = nothing false
words (c ∷ cs) h =
    let k = and_parts (is_plain c) (list_all is_plain cs) h in
    let m = and_parts (is_character c) (not (eqb c 39)) k.0 in
    joined (single false false c m.0 (ap (λ (b : Bool). cond b true false) (not-true (eqb c 39) m.1))) (words cs k.1)

-- names

capital_plain : (c : ℕ) → Letters.is_letter c ≡ true → is_plain c ≡ true
capital_plain c h =
    let low = leb-true 65 c (and_parts (leb 65 c) (leb c 90) h).0 in
    let stands : is_character c ≡ true = or_left (is_ascii_alphabetic c || is_digit c) (list_any (λ x. x == c) (codes " =+-*/(),.'$:")) (or_left (is_ascii_alphabetic c) (is_digit c) (or_left (leb 65 c && leb c 90) (leb 97 c && leb c 122) h)) in
    and_from (is_character c) (not (eqb c 39)) stands (not_from_false (eqb c 39) (ne_eqb c 39 (λ e. omega arith)))

digit_plain : (c : ℕ) → is_digit c ≡ true → is_plain c ≡ true
digit_plain c h =
    let low = leb-true 48 c (and_parts (leb 48 c) (leb c 57) h).0 in
    let stands : is_character c ≡ true = or_left (is_ascii_alphabetic c || is_digit c) (list_any (λ x. x == c) (codes " =+-*/(),.'$:")) (or_right (is_ascii_alphabetic c) (is_digit c) h) in
    and_from (is_character c) (not (eqb c 39)) stands (not_from_false (eqb c 39) (ne_eqb c 39 (λ e. omega arith)))

name_plain : (x : List ℕ) → list_all Letters.is_alphanumeric x ≡ true → list_all is_plain x ≡ true
name_plain [] h = refl
name_plain (c ∷ cs) h =
    let k = and_parts (Letters.is_alphanumeric c) (list_all Letters.is_alphanumeric cs) h in
    let here : is_plain c ≡ true = elim (or_cases (Letters.is_letter c) (Letters.is_digit c) k.0) [
      | inl l ↦ capital_plain c l
      | inr d ↦ digit_plain c d
    ] in
    and_from (is_plain c) (list_all is_plain cs) here (name_plain cs k.1)

pub name_passes : (x : List ℕ) → is_name x ≡ true → Lettered x
name_passes x h =
    let k = and_parts (Letters.is_name x) (leb (length x) 31) h in
    words x (name_plain x (and_parts (Letters.begins_with_letter x) (list_all Letters.is_alphanumeric x) k.0).1)

-- numerals, of whatever number

glyph_plain : (d : ℕ) → d < 10 → is_plain (digit_glyph false d) ≡ true
glyph_plain d h =
    let same : digit_glyph false d ≡ 48 + d = ap (λ (b : Bool). cond b (48 + d) (87 + d)) (lt-ltb d 10 h) in
    let is : is_digit (48 + d) ≡ true = and_from (leb 48 (48 + d)) (leb (48 + d) 57) (le-leb 48 (48 + d) (omega arith)) (le-leb (48 + d) 57 (omega arith)) in
    ap is_plain same ∙ digit_plain (48 + d) is

onto_plain : (k n : ℕ) (acc : List ℕ) → list_all is_plain acc ≡ true → list_all is_plain (digits_onto k 10 false n acc) ≡ true
onto_plain zero n acc h = h
onto_plain (suc k) n acc h =
    let some : 0 < 10 = omega arith in
    let d = digit_glyph false (n % 10) in
    let more = and_from (is_plain d) (list_all is_plain acc) (glyph_plain (n % 10) (mod-lt n some)) h in
    either (n / 10 == 0) (d ∷ acc) (digits_onto k 10 false (n / 10) (d ∷ acc)) more (onto_plain k (n / 10) (d ∷ acc) more)
  where
    either : (b : Bool) (xs ys : List ℕ) → list_all is_plain xs ≡ true → list_all is_plain ys ≡ true → list_all is_plain (if b then xs else ys) ≡ true
    either true xs ys p q = p
    either false xs ys p q = q

pub decimal_passes : (n : ℕ) → Lettered (decimal n)
unfolding digits
decimal_passes n = words (decimal n) (onto_plain 64 n [] refl)

-- constants

doubled_passes : (text : List ℕ) → list_all is_printable text ≡ true → Passes true true (doubled text)
doubled_passes [] h = nothing true
doubled_passes (c ∷ cs) h =
    let k = and_parts (is_printable c) (list_all is_printable cs) h in
    let two : Passes true true (39 ∷ 39 ∷ []) = joined {m = false} (single true false 39 refl refl) (single false true 39 refl refl) in
    let here = cond_both (eqb c 39) (39 ∷ 39 ∷ []) (c ∷ []) (Passes true true) (λ e. two) (λ e. single true true c k.0 (ap (λ (b : Bool). cond b false true) e)) in
    joined here (doubled_passes cs k.1)

pub constant_passes : (text : List ℕ) → list_all is_printable text ≡ true → Lettered (constant_text text)
constant_passes text h = joined {m = true} (single false true 39 refl refl) (joined {m = true} (doubled_passes text h) (single true false 39 refl refl))

-- lists of parts

pub further : {T : Type 0} (test : T → Bool) (text : T → List ℕ) (separator : List ℕ) → Lettered separator → ((t : T) → test t ≡ true → Lettered (text t)) → (ts : List T) → list_all test ts ≡ true → Lettered (flat_map (λ t. separator ++ text t) ts)
further test text separator s each [] h = nothing false
further test text separator s each (t ∷ ts) h =
    let k = and_parts (test t) (list_all test ts) h in
    joined (joined s (each t k.0)) (further test text separator s each ts k.1)

pub listed : {T : Type 0} (test : T → Bool) (text : T → List ℕ) (separator : List ℕ) → Lettered separator → ((t : T) → test t ≡ true → Lettered (text t)) → (ts : List T) → list_all test ts ≡ true → Lettered (join_by text separator ts)
listed test text separator s each [] h = nothing false
listed test text separator s each (t ∷ ts) h =
    let k = and_parts (test t) (list_all test ts) h in
    joined (each t k.0) (further test text separator s each ts k.1)

-- texts that begin at once

-- the characters of a printed statement
pub record Written (text : List ℕ) : Type 0 where
  pub begins : begins_at_once text ≡ true
  pub letters : Lettered text

pub written : (t : List ℕ) → begins_at_once t ≡ true → list_all is_plain t ≡ true → Written t
written t b h = record { begins = b; letters = words t h }

begins_before : (a b : List ℕ) → begins_at_once a ≡ true → begins_at_once (a ++ b) ≡ true
begins_before [] b h = absurd cc
begins_before (c ∷ cs) b h = h

pub followed : {a b : List ℕ} → Written a → Lettered b → Written (a ++ b)
followed {a} {b} w l = record { begins = begins_before a b w.begins; letters = joined w.letters l }

pub name_begins : (x : List ℕ) → is_name x ≡ true → begins_at_once x ≡ true
name_begins [] h = absurd cc
name_begins (c ∷ cs) h =
    let k = and_parts (Letters.is_name (c ∷ cs)) (leb (length (c ∷ cs)) 31) h in
    let l = and_parts (Letters.is_letter c) (list_all Letters.is_alphanumeric (c ∷ cs)) k.0 in
    let low = leb-true 65 c (and_parts (leb 65 c) (leb c 90) l.0).0 in
    not_from_false (eqb c 32) (ne_eqb c 32 (λ e. omega arith))

none_open : is_quoted [] ≡ false
unfolding is_quoted
none_open = refl

-- 20 blanks at most, and 1300 characters
pub fits : (depth : ℕ) (t : List ℕ) → Written t → nat_lt 1300 (length t) ≡ false → TextFits depth t
fits depth t w short =
    let few = min-le_right (2 * depth) 20 in
    let m = min (2 * depth) 20 in
    record {
      begins = w.begins;
      allowed = w.letters.allowed [] none_open;
      closed = w.letters.leaves [] none_open;
      short = omega (arith, few, length-append (blanks m) t, length-replicate {A = ℕ} m 32, ltb-false 1300 (length t) short);
    }
