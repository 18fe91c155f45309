-- A command is read again from its text.
use Rattle.std.proofs.Common.{◌≡◌, ◌⊎◌, inl, inr, ℕ, zero, suc, ◌<◌, ◌≤◌, ◌^◌, ℤ, pos, negsuc, neg_ℤ, Bool, true, false, not, ◌&&◌, ◌||◌, cond, List, [], ◌∷◌, ◌++◌, map, filter, length, get_or, codes, leb, Some, None, option_map, option_and_then, refl, sym, ap, ◌∙◌, append_assoc, append-nil, arith, eqb}
use Rattle.std.specs.List.{list_all, AllByRecursion}
use Rattle.std.specs.Char.{to_ascii_uppercase}
use Rattle.std.specs.Fmt.{decimal, signed_decimal}
use Rattle.std.proofs.lemmas.Fmt.{digits_decimal, digits_value-decimal, decimal_digit, decimal_nonempty, first_decimal, length-decimal-le}
use Rattle.std.proofs.lemmas.List.Splits.{slice_split_none, slice_split_at}
use Rattle.std.proofs.lemmas.List.Elements.{All-from_recursion}
use Rattle.ped_base.specs.Letters.{is_letter, is_digit, is_alphanumeric, begins_with_letter, is_name}
use Rattle.ped_base.specs.Lists.{has_some, is_same_text}
use Rattle.ped_certificates.specs.declared.claims.Position.{Position}
use Rattle.ped_certificates.specs.declared.claims.Sign.{Sign}
use Rattle.ped_certificates.specs.PairTexts.{place_text, pattern_text}
use Rattle.ped_script.specs.declared.items.Command.{Command}
use Rattle.ped_script.specs.declared.items.Command.TheVariants.{Source, Deps, Show, Calls, Print, Advise, Replace, Insert, Delete, Interchange, Reverse, Skew, Strip, Peel, Distribute, Fuse, Inline, Expand, Privatise, Reduce, Parallel, InterchangeBy, ReverseBy, ParallelBy, Serial, Reject, Auto, Undo, Redo, Run, Races, Tested, System}
use Rattle.ped_script.specs.Words.{Text, is_blank, words_of, is_number, has_leading_zero, number_of, numbers_of, factor_of, name_of, names_of, all_of}
use Rattle.ped_script.specs.EvidenceLines.{place_of}
use Rattle.ped_script.specs.Rows.{command_of, few_names, on_few}
use Rattle.ped_script.specs.Shapes.{alone, with_number, with_two, with_word, with_by, peeled}
use Rattle.ped_script.specs.CommandTexts.{behind, line_of, command_text, IsShortNumber, IsShortFactor, IsShortName, IsShortPlace, IsWritable}
use Rattle.ped_script.proofs.Numbers.{numerals, number_is}
use Rattle.ped_script.proofs.Table.{run_row, reduce_row, system_row, one_word, two_words, three_words}
use Rattle.ped_script.proofs.WrittenPairs.{place_again, place_some, place_ink, pattern_again, pattern_ink}

-- a word has a character, and no blank
pub record IsWord (w : Text) : Type 0 where
  pub some : has_some w ≡ true
  pub ink : AllByRecursion (λ c. is_blank c ≡ false) w

-- words, each behind a blank, with a word before them, are read as these words
words_again : (w : Text) (ws : List Text) → IsWord w → AllByRecursion IsWord ws → words_of (w ++ behind ws) ≡ w ∷ ws
words_again w [] h k =
    ap words_of (append-nil w)
    ∙ ap (filter has_some) (slice_split_none is_blank w (All-from_recursion (λ c. is_blank c ≡ false) w h.ink))
    ∙ ap (λ b. cond b (w ∷ []) []) h.some
words_again w (x ∷ xs) h k =
    ap words_of (ap (λ y. w ++ y) (append_assoc (codes " ") x (behind xs)))
    ∙ ap (filter has_some) (slice_split_at is_blank w 32 (x ++ behind xs) (All-from_recursion (λ c. is_blank c ≡ false) w h.ink) refl)
    ∙ ap (λ b. cond b (w ∷ words_of (x ++ behind xs)) (words_of (x ++ behind xs))) h.some
    ∙ ap (λ ys. w ∷ ys) (words_again x xs k.0 k.1)

-- a conjunction that holds
both : (a b : Bool) → (a && b) ≡ true → (a ≡ true) × (b ≡ true)
both true b h = (refl, h)
both false b h = absurd cc

either : (a b : Bool) → (a || b) ≡ true → (a ≡ true) ⊎ (b ≡ true)
either true b h = inl refl
either false b h = inr h

-- digits and letters are no blanks
digit_ink : (c : ℕ) → is_digit c ≡ true → is_blank c ≡ false
digit_ink c h = grind arith

letter_ink : (c : ℕ) → is_letter c ≡ true → is_blank c ≡ false
letter_ink c h = grind arith

digits_ink : (w : Text) → list_all is_digit w ≡ true → AllByRecursion (λ c. is_blank c ≡ false) w
digits_ink [] h = tt
digits_ink (c ∷ cs) h = let k = both (is_digit c) (list_all is_digit cs) h in (digit_ink c k.0, digits_ink cs k.1)

character_ink : (c : ℕ) → is_alphanumeric c ≡ true → is_blank c ≡ false
character_ink c h = elim (either (is_letter c) (is_digit c) h) [ inl l ↦ letter_ink c l | inr d ↦ digit_ink c d ]

characters_ink : (w : Text) → list_all is_alphanumeric w ≡ true → AllByRecursion (λ c. is_blank c ≡ false) w
characters_ink [] h = tt
characters_ink (c ∷ cs) h = let k = both (is_alphanumeric c) (list_all is_alphanumeric cs) h in (character_ink c k.0, characters_ink cs k.1)

-- a digit or a capital is its own capital
digit_capital : (c : ℕ) → is_digit c ≡ true → to_ascii_uppercase c ≡ c
digit_capital c h = grind arith

letter_capital : (c : ℕ) → is_letter c ≡ true → to_ascii_uppercase c ≡ c
letter_capital c h = grind arith

character_capital : (c : ℕ) → is_alphanumeric c ≡ true → to_ascii_uppercase c ≡ c
character_capital c h = elim (either (is_letter c) (is_digit c) h) [ inl l ↦ letter_capital c l | inr d ↦ digit_capital c d ]

capitals : (w : Text) → list_all is_alphanumeric w ≡ true → map to_ascii_uppercase w ≡ w
capitals [] h = refl
capitals (c ∷ cs) h =
    let k = both (is_alphanumeric c) (list_all is_alphanumeric cs) h in
    ap (λ x. x ∷ map to_ascii_uppercase cs) (character_capital c k.0) ∙ ap (λ xs. c ∷ xs) (capitals cs k.1)

-- a number as it is written
some_of : (w : Text) → 0 < length w → has_some w ≡ true
some_of [] h = absurd (omega arith)
some_of (c ∷ cs) h = refl

no_zero : (w : Text) → 48 < get_or w 0 0 → has_leading_zero w ≡ false
no_zero [] h = absurd (omega arith)
no_zero (c ∷ cs) h = let e : eqb c 48 ≡ false = grind arith in ap (λ b. b && has_some cs) e

no_leading_zero : (n : ℕ) → n < 2 ^ 64 → has_leading_zero (decimal n) ≡ false
no_leading_zero zero h = ap has_leading_zero (decimal_digit 0 (omega arith))
no_leading_zero (suc n) h = no_zero (decimal (suc n)) (first_decimal (suc n) (omega arith) h)

three : (a b c : Bool) → a ≡ true → b ≡ true → c ≡ false → (a && b && not c) ≡ true
three true true false e f g = refl
three true true true e f g = absurd cc
three true false c e f g = absurd cc
three false b c e f g = absurd cc

number_form : (n : ℕ) → n < 2 ^ 64 → is_number (decimal n) ≡ true
number_form n h = three (has_some (decimal n)) (list_all is_digit (decimal n)) (has_leading_zero (decimal n))
    (some_of (decimal n) (decimal_nonempty n h)) (digits_decimal numerals n h) (no_leading_zero n h)

number_again : (most n : ℕ) → 0 < most → n < 10 ^ most → n < 2 ^ 64 → number_of most (decimal n) ≡ Some n
number_again most n some small h =
    number_is (decimal n) most (number_form n h) (length-decimal-le most n some small h) ∙ ap Some (digits_value-decimal numerals n h)

nine : (n : ℕ) → IsShortNumber n → number_of 9 (decimal n) ≡ Some n
nine n h = number_again 9 n (omega arith) h (omega (arith, h))

eighteen : (n : ℕ) → n < 10 ^ 18 → number_of 18 (decimal n) ≡ Some n
eighteen n h = number_again 18 n (omega arith) h (omega (arith, h))

number_word : (n : ℕ) → n < 2 ^ 64 → IsWord (decimal n)
number_word n h = record { some = some_of (decimal n) (decimal_nonempty n h); ink = digits_ink (decimal n) (digits_decimal numerals n h) }

short_word : (n : ℕ) → IsShortNumber n → IsWord (decimal n)
short_word n h = number_word n (omega (arith, h))

-- a factor as it is written
unsigned_factor : (w : Text) → 48 ≤ get_or w 0 0 → factor_of w ≡ option_map pos (number_of 9 w)
unsigned_factor [] h = absurd (omega arith)
unsigned_factor (c ∷ cs) h =
    let e : eqb c 45 ≡ false = grind arith in
    ap (λ b. cond b (option_map (λ n. neg_ℤ (pos n)) (number_of 9 cs)) (option_map pos (number_of 9 (c ∷ cs)))) e

first_digit : (n : ℕ) → n < 2 ^ 64 → 48 ≤ get_or (decimal n) 0 0
first_digit zero h = let e : get_or (decimal 0) 0 0 ≡ 48 = ap (λ (w : Text). get_or w 0 0) (decimal_digit 0 (omega arith)) in omega arith
first_digit (suc n) h = let more = first_decimal (suc n) (omega arith) h in omega arith

factor_again : (f : ℤ) → IsShortFactor f → factor_of (signed_decimal f) ≡ Some f
factor_again (pos n) h = unsigned_factor (decimal n) (first_digit n (omega (arith, h))) ∙ ap (option_map pos) (nine n h)
factor_again (negsuc n) h = ap (option_map (λ n. neg_ℤ (pos n))) (nine (suc n) h)

factor_word : (f : ℤ) → IsShortFactor f → IsWord (signed_decimal f)
factor_word (pos n) h = short_word n h
factor_word (negsuc n) h = let w = short_word (suc n) h in record { some = refl; ink = (refl, w.ink) }

-- a name as it is written
chosen_name : (w : Text) → is_name w ≡ true → length w ≤ 31 → (cond (is_name w && leb (length w) 31) (Some w) None) ≡ Some w
chosen_name w e h = let l : leb (length w) 31 ≡ true = grind arith in rw (e, l) refl

letters_of : (w : Text) → is_name w ≡ true → list_all is_alphanumeric w ≡ true
letters_of w h = (both (begins_with_letter w) (list_all is_alphanumeric w) h).1

name_again : (w : Text) → IsShortName w → name_of w ≡ Some w
name_again w h =
    ap (λ (x : Text). cond (is_name x && leb (length x) 31) (Some x) None) (capitals w (letters_of w h.0)) ∙ chosen_name w h.0 h.1

some_letter : (w : Text) → is_name w ≡ true → has_some w ≡ true
some_letter [] h = absurd cc
some_letter (c ∷ cs) h = refl

name_word : (w : Text) → IsShortName w → IsWord w
name_word w h = record { some = some_letter w h.0; ink = characters_ink w (letters_of w h.0) }

-- lists of names and of choices as they are written
names_again : (names : List Text) → AllByRecursion IsShortName names → names_of names ≡ Some names
names_again [] h = refl
names_again (x ∷ xs) h =
    ap (λ o. option_and_then (λ y. option_map (λ ys. y ∷ ys) (all_of name_of xs)) o) (name_again x h.0)
    ∙ ap (option_map (λ ys. x ∷ ys)) (names_again xs h.1)

name_words : (names : List Text) → AllByRecursion IsShortName names → AllByRecursion IsWord names
name_words [] h = tt
name_words (x ∷ xs) h = (name_word x h.0, name_words xs h.1)

choices_again : (choices : List ℕ) → AllByRecursion (λ n. n < 10 ^ 18) choices → numbers_of 18 (map decimal choices) ≡ Some choices
choices_again [] h = refl
choices_again (n ∷ ns) h =
    ap (λ o. option_and_then (λ y. option_map (λ ys. y ∷ ys) (all_of (number_of 18) (map decimal ns))) o) (eighteen n h.0)
    ∙ ap (option_map (λ ys. n ∷ ys)) (choices_again ns h.1)

choice_words : (choices : List ℕ) → AllByRecursion (λ n. n < 10 ^ 18) choices → AllByRecursion IsWord (map decimal choices)
choice_words [] h = tt
choice_words (n ∷ ns) h = (number_word n (omega (arith, h.0)), choice_words ns h.1)

few_again : (names : List Text) → 1 ≤ length names → length names ≤ 8 → (to_command : List Text → Command) → on_few to_command names ≡ Some (to_command names)
few_again [] some few to_command = absurd (omega arith)
few_again (x ∷ xs) some few to_command =
    let l : leb (length (x ∷ xs)) 8 ≡ true = grind arith in
    ap (λ b. cond b (Some (to_command (x ∷ xs))) None) l

-- small letters
abbrev is_small : ℕ → Bool
is_small c = leb 97 c && leb c 122

small_letter_ink : (c : ℕ) → is_small c ≡ true → is_blank c ≡ false
small_letter_ink c h = grind arith

small_ink : (w : Text) → list_all is_small w ≡ true → AllByRecursion (λ c. is_blank c ≡ false) w
small_ink [] h = tt
small_ink (c ∷ cs) h = let k = both (is_small c) (list_all is_small cs) h in (small_letter_ink c k.0, small_ink cs k.1)

-- the words of the table have no blank
word_of : (w : Text) → has_some w ≡ true → list_all is_small w ≡ true → IsWord w
word_of w h k = record { some = h; ink = small_ink w k }

-- the words of `system`
digits_of : (n : ℕ) → IsShortNumber n → list_all is_digit (decimal n) ≡ true
digits_of n h = digits_decimal numerals n (omega (arith, h))

place_again_at : (p : Position) → IsShortPlace p → place_of (place_text p) ≡ Some p
place_again_at p h = place_again p (digits_of p.statement h.0) (nine p.statement h.0) (nine p.number h.1)

place_word : (p : Position) → IsShortPlace p → IsWord (place_text p)
place_word p h =
    let s = short_word p.statement h.0 in
    let n = short_word p.number h.1 in
    record { some = place_some p s.some; ink = place_ink p s.ink n.ink }

pattern_word : (pattern : List Sign) → IsWord (pattern_text pattern)
pattern_word pattern = record { some = refl; ink = pattern_ink pattern }

-- the command of one word, of a word and a number, of a word and two
alone_again : (c : Command) (w : Text) → is_same_text w (codes "run") ≡ false → IsWord w → alone w ≡ Some c → command_of (words_of (line_of (w ∷ []))) ≡ Some c
alone_again c w other word e = ap command_of (words_again w [] word tt) ∙ one_word w other ∙ e

number_again_at : (c : Command) (w : Text) (n : ℕ) → is_same_text w (codes "run") ≡ false → is_same_text w (codes "system") ≡ false → IsWord w → IsShortNumber n → with_number w n ≡ Some c → command_of (words_of (line_of (w ∷ decimal n ∷ []))) ≡ Some c
number_again_at c w n other further word short e =
    ap command_of (words_again w (decimal n ∷ []) word (short_word n short, tt)) ∙ two_words w (decimal n) n other further (nine n short) ∙ e

two_again : (c : Command) (w last : Text) (n : ℕ) → is_same_text w (codes "run") ≡ false → is_same_text w (codes "reduce") ≡ false → is_same_text w (codes "system") ≡ false → IsWord w → IsShortNumber n → IsWord last → with_two w n last ≡ Some c
    → command_of (words_of (line_of (w ∷ decimal n ∷ last ∷ []))) ≡ Some c
two_again c w last n other another further word short end e =
    ap command_of (words_again w (decimal n ∷ last ∷ []) word (short_word n short, (end, tt))) ∙ three_words w (decimal n) last n other another further (nine n short) ∙ e

-- a command that a script can say is read again from its text
pub read_again : (c : Command) → IsWritable c → command_of (words_of (command_text c)) ≡ Some c
unfolding alone with_number with_two with_word with_by peeled
read_again Source h = alone_again Source (codes "source") refl (word_of (codes "source") refl refl) refl
read_again Show h = alone_again Show (codes "show") refl (word_of (codes "show") refl refl) refl
read_again Calls h = alone_again Calls (codes "calls") refl (word_of (codes "calls") refl refl) refl
read_again Print h = alone_again Print (codes "print") refl (word_of (codes "print") refl refl) refl
read_again Auto h = alone_again Auto (codes "auto") refl (word_of (codes "auto") refl refl) refl
read_again Undo h = alone_again Undo (codes "undo") refl (word_of (codes "undo") refl refl) refl
read_again Redo h = alone_again Redo (codes "redo") refl (word_of (codes "redo") refl refl) refl
read_again Races h = alone_again Races (codes "races") refl (word_of (codes "races") refl refl) refl
read_again Tested h = alone_again Tested (codes "tested") refl (word_of (codes "tested") refl refl) refl
read_again (Deps None) h = alone_again (Deps None) (codes "deps") refl (word_of (codes "deps") refl refl) refl
read_again (Deps (Some s)) h = number_again_at (Deps (Some s)) (codes "deps") s refl refl (word_of (codes "deps") refl refl) h refl
read_again (Advise s) h = number_again_at (Advise s) (codes "advise") s refl refl (word_of (codes "advise") refl refl) h refl
read_again (Interchange s) h = number_again_at (Interchange s) (codes "interchange") s refl refl (word_of (codes "interchange") refl refl) h refl
read_again (Reverse s) h = number_again_at (Reverse s) (codes "reverse") s refl refl (word_of (codes "reverse") refl refl) h refl
read_again (Distribute s) h = number_again_at (Distribute s) (codes "distribute") s refl refl (word_of (codes "distribute") refl refl) h refl
read_again (Fuse s) h = number_again_at (Fuse s) (codes "fuse") s refl refl (word_of (codes "fuse") refl refl) h refl
read_again (Inline s) h = number_again_at (Inline s) (codes "inline") s refl refl (word_of (codes "inline") refl refl) h refl
read_again (Parallel s) h = number_again_at (Parallel s) (codes "parallel") s refl refl (word_of (codes "parallel") refl refl) h refl
read_again (Serial s) h = number_again_at (Serial s) (codes "serial") s refl refl (word_of (codes "serial") refl refl) h refl
read_again (Insert after lines) h =
    number_again_at (Insert after []) (codes "insert") after refl refl (word_of (codes "insert") refl refl) h.0 refl ∙ ap (λ ls. Some (Insert after ls)) (sym h.1)
read_again (Replace first last lines) h =
    two_again (Replace first last []) (codes "replace") (decimal last) first refl refl refl (word_of (codes "replace") refl refl) h.0 (short_word last h.1) (ap (option_map (λ b. Replace first b [])) (nine last h.1))
    ∙ ap (λ ls. Some (Replace first last ls)) (sym h.2)
read_again (Delete first last) h =
    two_again (Delete first last) (codes "delete") (decimal last) first refl refl refl (word_of (codes "delete") refl refl) h.0 (short_word last h.1) (ap (option_map (Delete first)) (nine last h.1))
read_again (Skew s f) h =
    two_again (Skew s f) (codes "skew") (signed_decimal f) s refl refl refl (word_of (codes "skew") refl refl) h.0 (factor_word f h.1) (ap (option_map (Skew s)) (factor_again f h.1))
read_again (Strip s size) h =
    ap (λ z. command_of (words_of (command_text (Strip s z)))) h.1.2
    ∙ two_again (Strip s (pos h.1.0)) (codes "strip") (decimal h.1.0) s refl refl refl (word_of (codes "strip") refl refl) h.0 (short_word h.1.0 h.1.1) (ap (option_map (λ k. Strip s (pos k))) (nine h.1.0 h.1.1))
    ∙ ap (λ z. Some (Strip s z)) (sym h.1.2)
read_again (Peel s false) h = two_again (Peel s false) (codes "peel") (codes "first") s refl refl refl (word_of (codes "peel") refl refl) h (word_of (codes "first") refl refl) refl
read_again (Peel s true) h = two_again (Peel s true) (codes "peel") (codes "last") s refl refl refl (word_of (codes "peel") refl refl) h (word_of (codes "last") refl refl) refl
read_again (Expand s x) h = two_again (Expand s x) (codes "expand") x s refl refl refl (word_of (codes "expand") refl refl) h.0 (name_word x h.1) (ap (option_map (Expand s)) (name_again x h.1))
read_again (Privatise s x) h = two_again (Privatise s x) (codes "privatise") x s refl refl refl (word_of (codes "privatise") refl refl) h.0 (name_word x h.1) (ap (option_map (Privatise s)) (name_again x h.1))
read_again (Reject s x) h = two_again (Reject s x) (codes "reject") x s refl refl refl (word_of (codes "reject") refl refl) h.0 (name_word x h.1) (ap (option_map (Reject s)) (name_again x h.1))
read_again (Reduce s names) h =
    ap command_of (words_again (codes "reduce") (decimal s ∷ names) (word_of (codes "reduce") refl refl) (short_word s h.0, name_words names h.1))
    ∙ reduce_row (decimal s ∷ names)
    ∙ ap (λ o. option_and_then (λ n. few_names (λ xs. Reduce n xs) names) o) (nine s h.0)
    ∙ ap (λ o. option_and_then (on_few (λ xs. Reduce s xs)) o) (names_again names h.1)
    ∙ few_again names h.2 h.3 (λ xs. Reduce s xs)
read_again (Run choices) h =
    ap command_of (words_again (codes "run") (map decimal choices) (word_of (codes "run") refl refl) (choice_words choices h))
    ∙ run_row (map decimal choices)
    ∙ ap (option_map (λ cs. Run cs)) (choices_again choices h)
read_again (InterchangeBy s evidence) h =
    two_again (InterchangeBy s []) (codes "interchange") (codes "by") s refl refl refl (word_of (codes "interchange") refl refl) h.0 (word_of (codes "by") refl refl) refl
    ∙ ap (λ e. Some (InterchangeBy s e)) (sym h.1)
read_again (ReverseBy s evidence) h =
    two_again (ReverseBy s []) (codes "reverse") (codes "by") s refl refl refl (word_of (codes "reverse") refl refl) h.0 (word_of (codes "by") refl refl) refl
    ∙ ap (λ e. Some (ReverseBy s e)) (sym h.1)
read_again (ParallelBy s evidence) h =
    two_again (ParallelBy s []) (codes "parallel") (codes "by") s refl refl refl (word_of (codes "parallel") refl refl) h.0 (word_of (codes "by") refl refl) refl
    ∙ ap (λ e. Some (ParallelBy s e)) (sym h.1)
read_again (System source sink pattern) h =
    ap command_of (words_again (codes "system") (place_text source ∷ place_text sink ∷ pattern_text pattern ∷ []) (word_of (codes "system") refl refl) (place_word source h.0, (place_word sink h.1, (pattern_word pattern, tt))))
    ∙ system_row (place_text source ∷ place_text sink ∷ pattern_text pattern ∷ [])
    ∙ simp (place_again_at source h.0, place_again_at sink h.1, pattern_again pattern h.2) refl
