-- A script of commands that `auto` takes is read as these commands.
use Rattle.std.proofs.Common.{◌≡◌, ◌⊎◌, inl, inr, ℕ, ◌+◌, ◌-◌, Bool, true, false, ◌&&◌, ◌||◌, cond, List, [], ◌∷◌, ◌++◌, take, length, get_or, codes, leb, eqb, Option, Some, None, refl, sym, ap, ◌∙◌, append_assoc, arith, rules}
use Rattle.std.specs.List.{list_all, slice_split, AllByRecursion}
use Rattle.std.specs.Fmt.{decimal}
use Rattle.std.specs.Str.Lines.{lines, lines_of_parts}
use Rattle.std.specs.Str.Parse.{digits_value}
use Rattle.std.proofs.lemmas.Fmt.{digits_decimal}
use Rattle.std.proofs.lemmas.Str.Parse.{IsNumeralModel, numerals_by_value}
use Rattle.std.proofs.lemmas.List.Splits.{slice_split_at, length-slice_split}
use Rattle.std.proofs.lemmas.List.Elements.{All-from_recursion}
use Rattle.ped_base.proofs.FirstLines.{more_parts}
use Rattle.ped_base.specs.Letters.{is_letter, is_digit, is_alphanumeric, begins_with_letter}
use Rattle.ped_transformations.specs.ped_auto.specs.Editing.{IsOfStrategy}
use Rattle.ped_transformations.specs.ped_auto.proofs.OfStrategy.{so_of_strategy}
use Rattle.ped_script.specs.declared.items.Command.{Command}
use Rattle.ped_script.specs.declared.items.Item.{Item}
use Rattle.ped_script.specs.Words.{words_of}
use Rattle.ped_script.specs.Rows.{command_of}
use Rattle.ped_script.specs.CommandTexts.{behind, line_of, command_text, IsShortNumber, IsShortName, IsWritable}
use Rattle.ped_script.specs.Items.{with_text, whole_command, taken_lines, item_at, items_from, commands_of}
use Rattle.ped_session.specs.AutoAnswers.{script_row}
use Rattle.ped_session.specs.AutoScripts.{script_of, items_on}

-- a text of one line: none of its bytes ends a line
abbrev IsPlain : List ℕ → Type 0
IsPlain w = list_all (leb 32) w ≡ true

both : (a b : Bool) → (a && b) ≡ true → (a ≡ true) × (b ≡ true)
both true b h = (refl, h)
both false b h = absurd cc

all_plain : (v w : List ℕ) → IsPlain v → IsPlain w → IsPlain (v ++ w)
all_plain [] w h k = k
all_plain (c ∷ cs) w h k =
    let b = both (leb 32 c) (list_all (leb 32) cs) h in
    ap (λ x. x && list_all (leb 32) (cs ++ w)) b.0 ∙ all_plain cs w b.1 k

-- numbers and names are
digit_plain : (c : ℕ) → is_digit c ≡ true → leb 32 c ≡ true
digit_plain c h = grind arith

letter_plain : (c : ℕ) → is_letter c ≡ true → leb 32 c ≡ true
letter_plain c h = grind arith

either : (a b : Bool) → (a || b) ≡ true → (a ≡ true) ⊎ (b ≡ true)
either true b h = inl refl
either false b h = inr h

character_plain : (c : ℕ) → is_alphanumeric c ≡ true → leb 32 c ≡ true
character_plain c h = elim (either (is_letter c) (is_digit c) h) [ inl l ↦ letter_plain c l | inr d ↦ digit_plain c d ]

plain_by : (p : ℕ → Bool) → ((c : ℕ) → p c ≡ true → leb 32 c ≡ true) → (w : List ℕ) → list_all p w ≡ true → IsPlain w
plain_by p f [] h = refl
plain_by p f (c ∷ cs) h =
    let b = both (p c) (list_all p cs) h in
    ap (λ x. x && list_all (leb 32) cs) (f c b.0) ∙ plain_by p f cs b.1

numerals : IsNumeralModel (λ ds. list_all is_digit ds ≡ true) (digits_value 10)
numerals = numerals_by_value (λ ds. list_all is_digit ds ≡ true) (search rules)

number_plain : (n : ℕ) → IsShortNumber n → IsPlain (decimal n)
number_plain n h = plain_by is_digit digit_plain (decimal n) (digits_decimal numerals n (omega (arith, h)))

name_plain : (x : List ℕ) → IsShortName x → IsPlain x
name_plain x h = plain_by is_alphanumeric character_plain x (both (begins_with_letter x) (list_all is_alphanumeric x) h.0).1

names_plain : (names : List (List ℕ)) → AllByRecursion IsShortName names → AllByRecursion IsPlain names
names_plain [] h = tt
names_plain (x ∷ xs) h = (name_plain x h.0, names_plain xs h.1)

-- so are lines of such words
behind_plain : (words : List (List ℕ)) → AllByRecursion IsPlain words → IsPlain (behind words)
behind_plain [] h = refl
behind_plain (w ∷ ws) h = all_plain (codes " " ++ w) (behind ws) h.0 (behind_plain ws h.1)

line_plain : (w : List ℕ) (words : List (List ℕ)) → IsPlain w → AllByRecursion IsPlain words → IsPlain (line_of (w ∷ words))
line_plain w words h k = all_plain w (behind words) h (behind_plain words k)

command_plain : (c : Command) → IsOfStrategy c → IsWritable c → IsPlain (command_text c)
command_plain = so_of_strategy (λ c. IsWritable c → IsPlain (command_text c)) (record {
  parallel = λ n h. line_plain (codes "parallel") (decimal n ∷ []) refl (number_plain n h, tt);
  privatise = λ n x h. line_plain (codes "privatise") (decimal n ∷ x ∷ []) refl (number_plain n h.0, (name_plain x h.1, tt));
  reduce = λ n names h. line_plain (codes "reduce") (decimal n ∷ names) refl (number_plain n h.0, names_plain names h.1);
  distribute = λ n h. line_plain (codes "distribute") (decimal n ∷ []) refl (number_plain n h, tt);
})

-- such a line stands first among the lines of a text that begins with it
feed_apart : (c : ℕ) → leb 32 c ≡ true → eqb c 10 ≡ false
feed_apart c h = grind arith

return_apart : (c : ℕ) → leb 32 c ≡ true → eqb c 13 ≡ false
return_apart c h = grind arith

none_in : (end : ℕ) → ((c : ℕ) → leb 32 c ≡ true → eqb c end ≡ false) → (w : List ℕ) → IsPlain w → AllByRecursion (λ c. eqb c end ≡ false) w
none_in end apart [] h = tt
none_in end apart (c ∷ cs) h = let b = both (leb 32 c) (list_all (leb 32) cs) h in (apart c b.0, none_in end apart cs b.1)

no_return : (w : List ℕ) → IsPlain w → eqb (get_or w (length w - 1) 0) 13 ≡ false
no_return [] h = refl
no_return (c ∷ cs) h = All-from_recursion (λ x. eqb x 13 ≡ false) (c ∷ cs) (none_in 13 return_apart (c ∷ cs) h) (length (c ∷ cs) - 1) 0 (omega arith)

first_line : (w rest : List ℕ) → IsPlain w → lines (w ++ 10 ∷ rest) ≡ w ∷ lines rest
first_line w rest h =
    let p : ℕ → Bool = λ c. eqb c 10 in
    ap lines_of_parts (slice_split_at p w 10 rest (All-from_recursion (λ c. p c ≡ false) w (none_in 10 feed_apart w h)) refl)
    ∙ more_parts w (slice_split p rest) (omega (arith, length-slice_split p rest))
    ∙ ap (λ b. cond b (take (length w - 1) w) w ∷ lines rest) (no_return w h)

-- a command of the strategy has no text on the lines behind it
abbrev IsAlone : Command → Type 0
IsAlone c = (following : List (List ℕ)) → (with_text c following ≡ Some c) × (taken_lines (Some c) following ≡ 0)

alone : (c : Command) → IsOfStrategy c → IsAlone c
alone = so_of_strategy IsAlone (record {
  parallel = λ n following. (refl, refl);
  privatise = λ n x following. (refl, refl);
  reduce = λ n names following. (refl, refl);
  distribute = λ n following. (refl, refl);
})

abbrev item : ℕ → Option Command → Item
item n command = record { line = n; command = command }

-- no word is no command
no_words : command_of [] ≡ None
unfolding command_of
no_words = refl

one_item : (n : ℕ) (words : List (List ℕ)) (c : Command) (following : List (List ℕ)) → command_of words ≡ Some c → with_text c following ≡ Some c
    → item_at n words following ≡ item n (Some c) ∷ []
one_item n [] c following e whole = let none : ◌≡◌ {A = Option Command} None (Some c) = sym no_words ∙ e in absurd cc
one_item n (w ∷ ws) c following e whole = ap (λ o. item n (whole_command o following) ∷ []) e ∙ ap (λ o. item n o ∷ []) whole

module _ (again : (c : Command) → IsWritable c → command_of (words_of (command_text c)) ≡ Some c) where
  -- the items of a text that begins with the line of a command
  first_item : (n : ℕ) (c : Command) (rest : List ℕ) → IsOfStrategy c → IsWritable c
      → items_from n 0 (lines (script_row c ++ rest)) ≡ item n (Some c) ∷ items_from (n + 1) 0 (lines rest)
  first_item n c rest is h =
      let more = lines rest in
      let one = alone c is more in
      ap (λ (text : List ℕ). items_from n 0 (lines text)) (append_assoc (command_text c) (10 ∷ []) rest)
      ∙ ap (items_from n 0) (first_line (command_text c) rest (command_plain c is h))
      ∙ ap (λ (front : List Item). front ++ items_from (n + 1) (taken_lines (command_of (words_of (command_text c))) more) more) (one_item n (words_of (command_text c)) c more (again c h) one.0)
      ∙ ap (λ (o : Option Command). item n (Some c) ∷ items_from (n + 1) (taken_lines o more) more) (again c h)
      ∙ ap (λ (taken : ℕ). item n (Some c) ∷ items_from (n + 1) taken more) one.1

  items_again : (n : ℕ) (cs : List Command) → AllByRecursion IsOfStrategy cs → AllByRecursion IsWritable cs → items_from n 0 (lines (script_of cs)) ≡ items_on n cs
  items_again n [] is h = refl
  items_again n (c ∷ cs) is h =
      first_item n c (script_of cs) is.0 h.0 ∙ ap (λ (items : List Item). item n (Some c) ∷ items) (items_again (n + 1) cs is.1 h.1)

  -- such a script is read as these commands
  pub script_again : (cs : List Command) → AllByRecursion IsOfStrategy cs → AllByRecursion IsWritable cs → commands_of (script_of cs) ≡ items_on 1 cs
  unfolding commands_of
  script_again cs is h = items_again 1 cs is h
