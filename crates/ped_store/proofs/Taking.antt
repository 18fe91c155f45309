-- Values that are taken from the data.
use Rattle.std.proofs.Common.{◌≡◌, ℕ, ◌+◌, ◌-◌, ◌≤◌, ◌<◌, ℤ, List, [], ◌∷◌, Bool, true, false, length, take, drop, Result, Ok, Err, if◌then◌else◌, refl, sym, ap, ◌∙◌, arith, FitsSigned, w64}
use Rattle.std.specs.Str.Lines.{lines}
use Rattle.std.specs.Str.Parse.{signed_digits_value}
use Rattle.std.proofs.lemmas.List.{drop-take, drop-drop, length-drop, length-take}
use Rattle.std.proofs.lemmas.Int.{ints}
use Rattle.ped_base.specs.Lists.{has_some}
use Rattle.ped_store.specs.declared.data_lines.Place.{Place}
use Rattle.ped_store.specs.Stores.{is_storable, storable, bad_data}
use Rattle.ped_store.specs.DataLines.{Data, word_of, behind_word, behind_blanks, behind_comma, number_of, is_value, taken_from, begun, value_from, next_value_of}
use Rattle.ped_store.specs.DataPlaces.{data_at, IsPlaceIn}

-- what is left of a line behind some characters
pub rest_of_line : (input : List ℕ) (from to n : ℕ) → from + n ≤ to → drop n (take (to - from) (drop from input)) ≡ take (to - (from + n)) (drop (from + n) input)
rest_of_line input from to n h =
    let e : to - from ≡ n + (to - (from + n)) = omega (arith, h) in
    ap (λ (m : ℕ). drop n (take m (drop from input))) e
    ∙ drop-take n (to - (from + n)) (drop from input)
    ∙ ap (take (to - (from + n))) (drop-drop n from input)

-- a number that is taken has its range
pub number_fits : (word : List ℕ) (n : ℤ) → Ok n ≡ number_of word → FitsSigned w64 n
number_fits word n h = go (is_value word) h
  where
    in_range : (v : ℤ) (b : Bool) → is_storable v ≡ b → ◌≡◌ {A = Result ℤ ℕ} (Ok n) (if b then Ok v else Err 4) → FitsSigned w64 n
    in_range v true p h = let e : n ≡ v = cc in rw e (grind (arith, ints, p))
    in_range v false p h = absurd cc

    go : (b : Bool) → ◌≡◌ {A = Result ℤ ℕ} (Ok n) (if b then storable (signed_digits_value 10 word) else Err 5) → FitsSigned w64 n
    go true h = in_range (signed_digits_value 10 word) (is_storable (signed_digits_value 10 word)) refl h
    go false h = absurd cc

some_left : {X : Type 0} (xs : List X) → 0 < length xs → has_some xs ≡ true
some_left [] h = absurd (omega (arith, h))
some_left (x ∷ xs) h = refl

none_left : {X : Type 0} (xs : List X) → length xs ≡ 0 → has_some xs ≡ false
none_left [] h = refl
none_left (x ∷ xs) h = absurd (omega (arith, h))

value_here : (rest : List ℕ) (more : List (List ℕ)) → has_some (behind_blanks rest) ≡ true → value_from rest more ≡ taken_from (behind_blanks rest) more
value_here rest [] h = rw h refl
value_here rest (line ∷ more) h = rw h refl

value_later : (rest : List ℕ) (more : List (List ℕ)) (d : Data) → has_some (behind_blanks rest) ≡ false → begun more ≡ Ok d → value_from rest more ≡ next_value_of d
value_later rest [] d h e = absurd cc
value_later rest (line ∷ more) d h e =
    let same : record { rest = line; lines = more } ≡ d = cc in
    rw h (ap next_value_of same)

value_nowhere : (rest : List ℕ) (more : List (List ℕ)) → has_some (behind_blanks rest) ≡ false → more ≡ [] → value_from rest more ≡ Err bad_data
value_nowhere rest [] h e = rw h refl
value_nowhere rest (line ∷ more) h e = absurd cc

pub left_of_line : (input : List ℕ) (from to : ℕ) → to ≤ length input → length (take (to - from) (drop from input)) ≡ to - from
left_of_line input from to h = omega (arith, length-take (to - from) (drop from input), length-drop from input, h)

-- the next value begins at the first character of the line that is no blank
pub value_at : (input : List ℕ) (p : Place) (blanks : ℕ) → IsPlaceIn input p → drop blanks (data_at input p).rest ≡ behind_blanks (data_at input p).rest → p.from + blanks < p.to
    → next_value_of (data_at input p) ≡ taken_from (take (p.to - (p.from + blanks)) (drop (p.from + blanks) input)) (lines (drop p.next input))
value_at input p blanks h e l =
    let rest = (data_at input p).rest in
    let long : 0 < length (behind_blanks rest) = omega (arith, ap (length {A = ℕ}) (sym e), length-drop blanks rest, left_of_line input p.from p.to h.1, l) in
    value_here rest (lines (drop p.next input)) (some_left (behind_blanks rest) long)
    ∙ ap (λ (text : List ℕ). taken_from text (lines (drop p.next input))) (sym e ∙ rest_of_line input p.from p.to blanks (omega (arith, l)))

blank_line : (input : List ℕ) (p : Place) (blanks : ℕ) → IsPlaceIn input p → drop blanks (data_at input p).rest ≡ behind_blanks (data_at input p).rest → p.to ≤ p.from + blanks → has_some (behind_blanks (data_at input p).rest) ≡ false
blank_line input p blanks h e l =
    let rest = (data_at input p).rest in
    none_left (behind_blanks rest) (omega (arith, ap (length {A = ℕ}) (sym e), length-drop blanks rest, left_of_line input p.from p.to h.1, l))

-- where there is none, the next line is looked at
pub value_behind : (input : List ℕ) (p q : Place) (blanks : ℕ) → IsPlaceIn input p → drop blanks (data_at input p).rest ≡ behind_blanks (data_at input p).rest → p.to ≤ p.from + blanks
    → begun (lines (drop p.next input)) ≡ Ok (data_at input q) → next_value_of (data_at input p) ≡ next_value_of (data_at input q)
value_behind input p q blanks h e l b = value_later (data_at input p).rest (lines (drop p.next input)) (data_at input q) (blank_line input p blanks h e l) b

-- and where there is no line either, no value is left
pub no_value : (input : List ℕ) (p : Place) (blanks : ℕ) → IsPlaceIn input p → drop blanks (data_at input p).rest ≡ behind_blanks (data_at input p).rest → p.to ≤ p.from + blanks
    → lines (drop p.next input) ≡ [] → next_value_of (data_at input p) ≡ Err bad_data
no_value input p blanks h e l b = value_nowhere (data_at input p).rest (lines (drop p.next input)) (blank_line input p blanks h e l) b

-- the value that is taken, and what is left behind it
pub taken_is : (input : List ℕ) (p : Place) (word passed : ℕ) (n : ℤ) → IsPlaceIn input p → word + passed ≤ p.to - p.from
    → take word (data_at input p).rest ≡ word_of (data_at input p).rest → drop word (data_at input p).rest ≡ behind_word (data_at input p).rest
    → drop passed (drop word (data_at input p).rest) ≡ behind_comma (behind_blanks (drop word (data_at input p).rest)) → Ok n ≡ number_of (take word (data_at input p).rest)
    → taken_from (data_at input p).rest (lines (drop p.next input)) ≡ Ok (record { value = n; behind = data_at input (record { from = p.from + word + passed; to = p.to; next = p.next }) })
taken_is input p word passed n h short w b s v =
    let rest = (data_at input p).rest in
    let more = lines (drop p.next input) in
    let value : number_of (word_of rest) ≡ Ok n = ap number_of (sym w) ∙ sym v in
    let behind : behind_comma (behind_blanks (behind_word rest)) ≡ take (p.to - (p.from + word + passed)) (drop (p.from + word + passed) input) =
    ap (λ (text : List ℕ). behind_comma (behind_blanks text)) (sym b) ∙ sym s
    ∙ ap (drop passed) (rest_of_line input p.from p.to word (omega (arith, short)))
    ∙ rest_of_line input (p.from + word) p.to passed (omega (arith, short)) in
    rw value (λ i. Ok (record { value = n; behind = record { rest = behind i; lines = more } }))
