-- The words of a line, from left to right.
use Rattle.std.proofs.Common.{◌≡◌, ℕ, ◌+◌, ◌<◌, ◌≤◌, Bool, true, false, cond, not, List, [], ◌∷◌, filter, length, take, drop, get_or, Some, None, refl, sym, ap, ◌∙◌, suc, arith}
use Rattle.std.specs.List.{slice_split, position, position_or_len, before_first, after_first}
use Rattle.std.proofs.Math.Seq.{drop-cons}
use Rattle.std.proofs.lemmas.Bool.{ltb-true, ltb-false}
use Rattle.std.proofs.lemmas.List.{length-drop, take_all, drop_all}
use Rattle.std.proofs.lemmas.List.Quantifiers.{position-Some}
use Rattle.std.proofs.lemmas.List.Splits.{slice_split_first, slice_split-cons_yes}
use Rattle.ped_base.specs.Lists.{has_some}
use Rattle.ped_script.specs.Words.{Text, is_blank, words_of}
use Rattle.ped_base.proofs.FirstLines.{unsplit, guarded, beyond}

-- is no blank
abbrev is_ink : ℕ → Bool
is_ink c = not (is_blank c)

denied : (b : Bool) → not b ≡ true → b ≡ false
denied true e = absurd cc
denied false e = refl

-- where a place is found, it is the first
found : (p : ℕ → Bool) (xs : Text) (i : ℕ) → position p xs ≡ Some i → (i ≡ position_or_len p xs) × (position_or_len p xs < length xs)
found p xs i h =
    let g = guarded _ _ _ h in
    (sym g.1, ltb-true _ _ g.0)

-- where none is found, the whole list is passed over
missed : (p : ℕ → Bool) (xs : Text) → position p xs ≡ None → length xs ≤ position_or_len p xs
missed p xs h = ltb-false _ _ (beyond _ _ h)

-- a blank at the front is no word
behind_blank : (c : ℕ) (cs : Text) → is_blank c ≡ true → words_of (c ∷ cs) ≡ words_of cs
behind_blank c cs e = ap (filter has_some) (slice_split-cons_yes is_blank c cs e)

-- blanks at the front are no word
behind_blanks : (line : Text) → words_of (drop (position_or_len is_ink line) line) ≡ words_of line
behind_blanks [] = refl
behind_blanks (c ∷ cs) =
    let go : (b : Bool) → is_blank c ≡ b → words_of (drop (position_or_len is_ink (c ∷ cs)) (c ∷ cs)) ≡ words_of (c ∷ cs) = λ b. elim b as (λ b. is_blank c ≡ b → words_of (drop (position_or_len is_ink (c ∷ cs)) (c ∷ cs)) ≡ words_of (c ∷ cs)) [
      | true ↦ λ e.
          let n = position_or_len is_ink cs in
          let more : position_or_len is_ink (c ∷ cs) ≡ 1 + n = rw e refl in
          let next : position_or_len is_ink (c ∷ cs) ≡ suc n = omega (arith, more) in
          ap (λ k. words_of (drop k (c ∷ cs))) next ∙ behind_blanks cs ∙ sym (behind_blank c cs e)
      | false ↦ λ e.
          let none : position_or_len is_ink (c ∷ cs) ≡ 0 = rw e refl in
          ap (λ k. words_of (drop k (c ∷ cs))) none
    ] in
    go (is_blank c) refl

-- nothing but blanks is no word
pub blank_line : (line : Text) → position is_ink line ≡ None → words_of line ≡ []
blank_line line h =
    sym (behind_blanks line) ∙ ap words_of (drop_all (position_or_len is_ink line) line (missed is_ink line h))

-- what stands from the first character on
from_ink : (line : Text) (start : ℕ) → position is_ink line ≡ Some start → (c : ℕ) × (cs : Text) × (drop start line ≡ c ∷ cs) × (is_blank c ≡ false) × (words_of (c ∷ cs) ≡ words_of line)
from_ink line start h =
    let f = found is_ink line start h in
    let p = position-Some is_ink line start 0 h in
    let cut = drop-cons line start 0 p.0 in (
      get_or line start 0,
      drop (suc start) line,
      cut,
      denied (is_blank (get_or line start 0)) p.1,
      ap words_of (sym cut ∙ ap (λ k. drop k line) f.0) ∙ behind_blanks line,
    )

kept : (w : Text) (ws : List Text) → has_some w ≡ true → filter has_some (w ∷ ws) ≡ w ∷ filter has_some ws
kept w ws e = ap (λ b. cond b (w ∷ filter has_some ws) (filter has_some ws)) e

-- a character that is no blank is passed over
first_passes : (c : ℕ) (cs : Text) → is_blank c ≡ false → position_or_len is_blank (c ∷ cs) ≡ 1 + position_or_len is_blank cs
first_passes c cs e = rw e refl

-- a word ends before the first blank
word_before : (c : ℕ) (cs : Text) (end : ℕ) → is_blank c ≡ false → position is_blank (c ∷ cs) ≡ Some end → words_of (c ∷ cs) ≡ take end (c ∷ cs) ∷ words_of (drop end (c ∷ cs))
word_before c cs end e h =
    let text = c ∷ cs in
    let f = found is_blank text end h in
    let p = position-Some is_blank text end 0 h in
    let long : position_or_len is_blank text ≡ suc (position_or_len is_blank cs) = omega (arith, first_passes c cs e) in
    let rest = drop (suc end) text in
    let next : end + 1 ≡ suc end = omega arith in
    let later : words_of (drop end text) ≡ words_of rest = ap words_of (drop-cons text end 0 p.0) ∙ behind_blank (get_or text end 0) rest p.1 in
    ap (filter has_some) (slice_split_first is_blank text 0 f.1)
    ∙ kept (before_first is_blank text) (slice_split is_blank (after_first is_blank text)) (ap (λ k. has_some (take k text)) long)
    ∙ ap (λ k. take k text ∷ words_of (drop (k + 1) text)) (sym f.0)
    ∙ ap (λ ws. take end text ∷ ws) (ap (λ k. words_of (drop k text)) next ∙ sym later)

-- a word that no blank ends is the last
word_alone : (c : ℕ) (cs : Text) → position is_blank (c ∷ cs) ≡ None → words_of (c ∷ cs) ≡ (c ∷ cs) ∷ []
word_alone c cs h = ap (filter has_some) (unsplit is_blank (c ∷ cs) (missed is_blank (c ∷ cs) h))

-- a word that a blank ends, in the words of two cuts
pub word_is : (line text word rest : Text) (start end : ℕ) → position is_ink line ≡ Some start → text ≡ drop start line → position is_blank text ≡ Some end → word ≡ take end text → rest ≡ drop end text → words_of line ≡ word ∷ words_of rest
word_is line text word rest start end s t e w r =
    let f = from_ink line start s in
    let same : text ≡ f.0 ∷ f.1 = t ∙ f.2 in
    sym f.4 ∙ word_before f.0 f.1 end f.3 (ap (position is_blank) (sym same) ∙ e)
    ∙ ap (λ (x : Text). take end x ∷ words_of (drop end x)) (sym same)
    ∙ ap (λ (x : Text). x ∷ words_of (drop end text)) (sym w)
    ∙ ap (λ (x : Text). word ∷ words_of x) (sym r)

-- the last word, in the words of two cuts
pub last_word_is : (line text word rest : Text) (start : ℕ) → position is_ink line ≡ Some start → text ≡ drop start line → position is_blank text ≡ None → word ≡ take (length text) text → rest ≡ drop (length text) text → words_of line ≡ word ∷ words_of rest
last_word_is line text word rest start s t e w r =
    let f = from_ink line start s in
    let same : text ≡ f.0 ∷ f.1 = t ∙ f.2 in
    let whole : word ≡ text = w ∙ take_all (length text) text (omega arith) in
    let none : rest ≡ [] = r ∙ drop_all (length text) text (omega arith) in
    sym f.4 ∙ word_alone f.0 f.1 (ap (position is_blank) (sym same) ∙ e)
    ∙ ap (λ (x : Text). x ∷ []) (sym (whole ∙ same))
    ∙ ap (λ (x : Text). word ∷ words_of x) (sym none)

-- what follows the first word is shorter than the line
pub rest_shorter : (line text rest : Text) (start end : ℕ) → position is_ink line ≡ Some start → text ≡ drop start line → position is_blank text ≡ Some end → rest ≡ drop end text → length rest < length line
rest_shorter line text rest start end s t e r =
    let f = from_ink line start s in
    let same : text ≡ f.0 ∷ f.1 = t ∙ f.2 in
    let place = found is_blank (f.0 ∷ f.1) end (ap (position is_blank) (sym same) ∙ e) in
    let n = position_or_len is_blank f.1 in
    let some : position_or_len is_blank (f.0 ∷ f.1) ≡ 1 + n = first_passes f.0 f.1 f.3 in
    omega (arith, place.0, place.1, some, ap length r, ap length t, ap length same, length-drop end text, length-drop start line)

-- a line that has a word has a first one
pub some_word : (words : List Text) → has_some words ≡ true → (w : Text) × (ws : List Text) × (words ≡ w ∷ ws)
some_word [] e = absurd cc
some_word (w ∷ ws) e = (w, ws, refl)

-- a line that has none
pub no_word : (words : List Text) → has_some words ≡ false → words ≡ []
no_word [] e = refl
no_word (w ∷ ws) e = absurd cc
