-- Lines, blanks and words at the front of a text.
use Rattle.std.proofs.Common.{◌≡◌, ℕ, suc, ◌+◌, ◌<◌, ◌≤◌, Bool, true, false, cond, not, List, [], ◌∷◌, length, take, drop, Some, None, if◌then◌else◌, position, refl, sym, ap, ◌∙◌, ltb, eqb, arith}
use Rattle.std.specs.List.{position_or_len}
use Rattle.std.specs.Option.{unwrap_or}
use Rattle.std.specs.Str.Lines.{lines, strip_carriage_return}
use Rattle.std.proofs.lemmas.Bool.{ltb-false}
use Rattle.std.proofs.lemmas.List.Sums.{prefix_len-le-length}
use Rattle.std.proofs.lemmas.List.{length-take, take-take}
use Rattle.ped_base.proofs.FirstLines.{line_before, only_line_is}
use Rattle.ped_store.specs.DataLines.{is_data_blank, ends_value, behind_blanks, word_of, behind_word}

-- the first line ends with a line feed
pub first_line_is : (text : List ℕ) (end len : ℕ) → position (λ c. eqb c 10) text ≡ Some end → take len (take end text) ≡ strip_carriage_return (take end text) → len ≤ length (take end text)
    → lines text ≡ take len text ∷ lines (drop (end + 1) text)
first_line_is text end len h e l =
    let short : len ≤ end = omega (arith, l, length-take end text) in
    line_before text end h ∙ ap (λ (x : List ℕ). x ∷ lines (drop (end + 1) text)) (sym e ∙ take-take len end text short)

-- the last line has none
pub last_line_is : (text : List ℕ) → position (λ c. eqb c 10) text ≡ None → 0 < length text → lines text ≡ take (length text) text ∷ lines (drop (length text) text)
last_line_is text h long = only_line_is text (take (length text) text) (drop (length text) text) h long refl refl

-- the first that passes, or the end
pub first_or_end : (p : ℕ → Bool) (text : List ℕ) → unwrap_or (position p text) (length text) ≡ position_or_len p text
first_or_end p text = go (ltb (position_or_len p text) (length text)) refl
  where
    go : (b : Bool) → ltb (position_or_len p text) (length text) ≡ b → unwrap_or (cond b (Some (position_or_len p text)) None) (length text) ≡ position_or_len p text
    go true h = refl
    go false h =
        let over : length text ≤ position_or_len p text = ltb-false _ _ h in
        let most : position_or_len p text ≤ length text = prefix_len-le-length (λ x. not (p x)) text in
        omega (arith, over, most)

pub first_within : (p : ℕ → Bool) (text : List ℕ) → position_or_len p text ≤ length text
first_within p text = prefix_len-le-length (λ x. not (p x)) text

one_more : (n : ℕ) → 1 + n ≡ suc n
one_more n = omega arith

pub blanks_are : (text : List ℕ) → drop (position_or_len (λ c. not (is_data_blank c)) text) text ≡ behind_blanks text
blanks_are [] = refl
blanks_are (c ∷ cs) = go (is_data_blank c) (blanks_are cs)
  where
    go : (b : Bool) → drop (position_or_len (λ c. not (is_data_blank c)) cs) cs ≡ behind_blanks cs
        → drop (cond (not (not b)) (1 + position_or_len (λ c. not (is_data_blank c)) cs) 0) (c ∷ cs) ≡ (if b then behind_blanks cs else c ∷ cs)
    go true h = ap (λ n. drop n (c ∷ cs)) (one_more (position_or_len (λ c. not (is_data_blank c)) cs)) ∙ h
    go false h = refl

pub word_is : (text : List ℕ) → take (position_or_len ends_value text) text ≡ word_of text
word_is [] = refl
word_is (c ∷ cs) = go (ends_value c) (word_is cs)
  where
    go : (b : Bool) → take (position_or_len ends_value cs) cs ≡ word_of cs → take (cond (not b) (1 + position_or_len ends_value cs) 0) (c ∷ cs) ≡ (if b then [] else c ∷ word_of cs)
    go true h = refl
    go false h = ap (λ n. take n (c ∷ cs)) (one_more (position_or_len ends_value cs)) ∙ ap (λ x. c ∷ x) h

pub word_behind : (text : List ℕ) → drop (position_or_len ends_value text) text ≡ behind_word text
word_behind [] = refl
word_behind (c ∷ cs) = go (ends_value c) (word_behind cs)
  where
    go : (b : Bool) → drop (position_or_len ends_value cs) cs ≡ behind_word cs → drop (cond (not b) (1 + position_or_len ends_value cs) 0) (c ∷ cs) ≡ (if b then c ∷ cs else behind_word cs)
    go true h = refl
    go false h = ap (λ n. drop n (c ∷ cs)) (one_more (position_or_len ends_value cs)) ∙ h
