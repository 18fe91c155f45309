-- The first line of a text.
use Rattle.std.proofs.Common.{◌≡◌, ℕ, ◌+◌, ◌-◌, ◌<◌, ◌≤◌, Bool, true, false, cond, List, [], ◌∷◌, length, take, drop, Some, None, refl, sym, ap, ◌∙◌, ltb, eqb, arith}
use Rattle.std.specs.List.{slice_split, onto_first, position, position_or_len}
use Rattle.std.specs.Str.Lines.{lines, lines_of_parts, strip_carriage_return}
use Rattle.std.proofs.lemmas.Bool.{ltb-true, ltb-false, ne_eqb}
use Rattle.std.proofs.lemmas.List.Splits.{slice_split_first, slice_split-cons_no, length-slice_split}
use Rattle.std.proofs.lemmas.List.{length-drop, take_all, nil_from_length}

pub guarded : {A : Type 0} (b : Bool) (x y : A) → cond b (Some x) None ≡ Some y → (b ≡ true) × (x ≡ y)
guarded true x y e = (refl, cc)
guarded false x y e = absurd cc

pub more_parts : (part : List ℕ) (parts : List (List ℕ)) → 0 < length parts → lines_of_parts (part ∷ parts) ≡ strip_carriage_return part ∷ lines_of_parts parts
more_parts part [] h = absurd (omega arith)
more_parts part (next ∷ parts) h = refl

pub line_before : (text : List ℕ) (end : ℕ) → position (λ c. eqb c 10) text ≡ Some end → lines text ≡ strip_carriage_return (take end text) ∷ lines (drop (end + 1) text)
line_before text end h =
    let p : ℕ → Bool = λ c. eqb c 10 in
    let g = guarded (ltb (position_or_len p text) (length text)) (position_or_len p text) end h in
    let inside : position_or_len p text < length text = ltb-true _ _ g.0 in
    let rest = drop (position_or_len p text + 1) text in
    ap lines_of_parts (slice_split_first p text 0 inside)
    ∙ more_parts (take (position_or_len p text) text) (slice_split p rest) (omega (arith, length-slice_split p rest))
    ∙ ap (λ (n : ℕ). strip_carriage_return (take n text) ∷ lines (drop (n + 1) text)) g.1

pub unsplit : (p : ℕ → Bool) (text : List ℕ) → length text ≤ position_or_len p text → slice_split p text ≡ text ∷ []
unsplit p [] h = refl
unsplit p (c ∷ cs) h =
    let go : (b : Bool) → p c ≡ b → slice_split p (c ∷ cs) ≡ (c ∷ cs) ∷ [] = λ b. elim b as (λ b. p c ≡ b → slice_split p (c ∷ cs) ≡ (c ∷ cs) ∷ []) [
      | true ↦ λ here. let none : position_or_len p (c ∷ cs) ≡ 0 = rw here refl in absurd (omega arith)
      | false ↦ λ here. let more : position_or_len p (c ∷ cs) ≡ 1 + position_or_len p cs = rw here refl in slice_split-cons_no p c cs here ∙ ap (onto_first c) (unsplit p cs (omega arith))
    ] in
    go (p c) refl

pub beyond : (b : Bool) (n : ℕ) → cond b (Some n) None ≡ None → b ≡ false
beyond true n h = absurd cc
beyond false n h = refl

pub alone : (part : List ℕ) → 0 < length part → lines_of_parts (part ∷ []) ≡ part ∷ []
alone part h = ap (λ (b : Bool). cond b [] (part ∷ [])) (ne_eqb (length part) 0 (λ none. omega (arith, none)))

pub line_alone : (text : List ℕ) → position (λ c. eqb c 10) text ≡ None → 0 < length text → lines text ≡ text ∷ []
line_alone text h long =
    let p : ℕ → Bool = λ c. eqb c 10 in
    let over : length text ≤ position_or_len p text = ltb-false _ _ (beyond (ltb (position_or_len p text) (length text)) (position_or_len p text) h) in
    ap lines_of_parts (unsplit p text over) ∙ alone text long

-- the first line in the words of a split behind it
pub first_line_is : (text line : List ℕ) (end : ℕ) → position (λ c. eqb c 10) text ≡ Some end → line ≡ strip_carriage_return (take end text) → lines text ≡ line ∷ lines (take (length text - (end + 1)) (drop (end + 1) text))
first_line_is text line end h e =
    let rest = drop (end + 1) text in
    line_before text end h
    ∙ ap (λ (l : List ℕ). l ∷ lines rest) (sym e)
    ∙ ap (λ (r : List ℕ). line ∷ lines r) (sym (take_all (length text - (end + 1)) rest (omega (arith, length-drop (end + 1) text))))

-- the only line in the words of a split at the end
pub only_line_is : (text line rest : List ℕ) → position (λ c. eqb c 10) text ≡ None → 0 < length text → line ≡ take (length text) text → rest ≡ drop (length text) text → lines text ≡ line ∷ lines rest
only_line_is text line rest h long e r =
    let nothing : rest ≡ [] = nil_from_length rest (omega (arith, ap length r, length-drop (length text) text)) in
    line_alone text h long
    ∙ ap (λ (l : List ℕ). l ∷ []) (sym (e ∙ take_all (length text) text (omega arith)))
    ∙ ap (λ (x : List ℕ). line ∷ lines x) (sym nothing)
