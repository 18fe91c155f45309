-- Each line of a script that is made is an `interchange` or a `parallel`, and none is `auto`.
use Rattle.std.proofs.Common.{◌≡◌, ◌∙◌, refl, sym, ap, subst, ◌⊎◌, inl, inr, ℕ, zero, suc, ◌+◌, ◌*◌, ◌%◌, ◌-◌, ◌<◌, Bool, true, false, cond, List, [], ◌∷◌, ◌++◌, filter, Option, Some, None, option_and_then, leb, codes, arith}
use Rattle.std.specs.Prelude.{◌/◌, ◌==◌, ◌||◌, if◌then◌else◌, nat_lt}
use Rattle.std.specs.List.{AllByRecursion, list_all, flat_map, range_with_len}
use Rattle.std.specs.Option.{option_or}
use Rattle.std.specs.Str.Lines.{lines}
use Rattle.std.specs.Fmt.{decimal, digits, digits_onto, digit_glyph}
use Rattle.std.proofs.Math.Nat.{mod-lt}
use Rattle.std.proofs.lemmas.Bool.{lt-ltb, le-leb, and_from}
use Rattle.std.proofs.lemmas.Bool.Decides.{nat_tests}
use Rattle.std.proofs.lemmas.List.Elements.{All-from_recursion}
use Rattle.std.proofs.lemmas.List.Splits.{slice_split_none}
use Rattle.ped_gen.specs.Generated.{commands, script}
use Rattle.ped_tree.specs.Grammar.Characters.{is_printable}
use Rattle.ped_session.specs.ped_parse.specs.ped_lines.proofs.PrintedLaws.Lines.{IsLine, printable_line, lines_written}
use Rattle.ped_base.specs.Lists.{has_some}
use Rattle.ped_script.specs.Words.{Text, is_blank, words_of, number_of}
use Rattle.ped_script.specs.Rows.{done, word, command_of}
use Rattle.ped_script.specs.Items.{whole_command, taken_lines, item_at, items_from, commands_of}
use Rattle.ped_script.specs.declared.items.Command.{Command}
use Rattle.ped_script.specs.declared.items.Command.TheVariants.{Interchange, InterchangeBy, Parallel, ParallelBy, Auto}
use Rattle.ped_script.specs.declared.items.Item.{Item}
use Rattle.ped_answer.specs.Tallies.{IsNoAuto}

-- numerals can be printed, of whatever number

glyph_printable : (d : ℕ) → d < 10 → is_printable (digit_glyph false d) ≡ true
glyph_printable d h =
    let same : digit_glyph false d ≡ 48 + d = ap (λ (b : Bool). cond b (48 + d) (87 + d)) (lt-ltb d 10 h) in
    ap is_printable same ∙ and_from (leb 32 (48 + d)) (leb (48 + d) 126) (le-leb 32 (48 + d) (omega arith)) (le-leb (48 + d) 126 (omega arith))

onto_printable : (k n : ℕ) (acc : List ℕ) → list_all is_printable acc ≡ true → list_all is_printable (digits_onto k 10 false n acc) ≡ true
onto_printable zero n acc h = h
onto_printable (suc k) n acc h =
    let some : 0 < 10 = omega arith in
    let d = digit_glyph false (n % 10) in
    let more = and_from (is_printable d) (list_all is_printable acc) (glyph_printable (n % 10) (mod-lt n some)) h in
    this_or_that (n / 10 == 0) (d ∷ acc) (digits_onto k 10 false (n / 10) (d ∷ acc)) more (onto_printable k (n / 10) (d ∷ acc) more)
  where
    this_or_that : (b : Bool) (xs ys : List ℕ) → list_all is_printable xs ≡ true → list_all is_printable ys ≡ true → list_all is_printable (if b then xs else ys) ≡ true
    this_or_that true xs ys p q = p
    this_or_that false xs ys p q = q

pub decimal_printable : (n : ℕ) → list_all is_printable (decimal n) ≡ true
unfolding digits
decimal_printable n = onto_printable 64 n [] refl

-- a command is one of both that are made, or none
abbrev pub IsMadeCommand : Option Command → Type 0
IsMadeCommand o = (o ≡ None) ⊎ ((k : ℕ) × (o ≡ Some (Interchange k))) ⊎ ((k : ℕ) × (o ≡ Some (Parallel k)))

-- and so is the command of an item
abbrev pub IsMadeItem : Item → Type 0
IsMadeItem item = IsMadeCommand item.command

-- words are such a command
abbrev IsMade : List Text → Type 0
IsMade words = IsMadeCommand (command_of words)

-- a number is one word, or none

digit_ink : (d : ℕ) → d < 10 → is_blank (digit_glyph false d) ≡ false
digit_ink d h =
    let same : digit_glyph false d ≡ 48 + d = ap (λ (b : Bool). cond b (48 + d) (87 + d)) (lt-ltb d 10 h) in
    let no_space : (48 + d == 32) ≡ false = grind (arith, nat_tests) in
    let no_tab : (48 + d == 9) ≡ false = grind (arith, nat_tests) in
    ap is_blank same ∙ ap (λ (b : Bool). b || (48 + d == 9)) no_space ∙ no_tab

onto_ink : (k n : ℕ) (acc : Text) → AllByRecursion (λ c. is_blank c ≡ false) acc → AllByRecursion (λ c. is_blank c ≡ false) (digits_onto k 10 false n acc)
onto_ink zero n acc h = h
onto_ink (suc k) n acc h =
    let some : 0 < 10 = omega arith in
    let d = digit_glyph false (n % 10) in
    let more : AllByRecursion (λ c. is_blank c ≡ false) (d ∷ acc) = (digit_ink (n % 10) (mod-lt n some), h) in
    this_or_that (n / 10 == 0) (d ∷ acc) (digits_onto k 10 false (n / 10) (d ∷ acc)) more (onto_ink k (n / 10) (d ∷ acc) more)
  where
    this_or_that : (b : Bool) (xs ys : Text) → AllByRecursion (λ c. is_blank c ≡ false) xs → AllByRecursion (λ c. is_blank c ≡ false) ys → AllByRecursion (λ c. is_blank c ≡ false) (if b then xs else ys)
    this_or_that true xs ys p q = p
    this_or_that false xs ys p q = q

decimal_ink : (k : ℕ) → AllByRecursion (λ c. is_blank c ≡ false) (decimal k)
unfolding digits
decimal_ink k = onto_ink 64 k [] tt

abbrev IsOneWord : List Text → Type 0
IsOneWord words = (words ≡ []) ⊎ ((w : Text) × (words ≡ w ∷ []))

one_word : (k : ℕ) → IsOneWord (words_of (decimal k))
one_word k = by (has_some (decimal k)) refl
  where
    alone : words_of (decimal k) ≡ filter has_some (decimal k ∷ [])
    alone = ap (filter has_some) (slice_split_none is_blank (decimal k) (All-from_recursion (λ c. is_blank c ≡ false) (decimal k) (decimal_ink k)))

    by : (b : Bool) → has_some (decimal k) ≡ b → IsOneWord (words_of (decimal k))
    by true e = inr (decimal k, alone ∙ ap (λ (b : Bool). cond b (decimal k ∷ []) []) e)
    by false e = inl (alone ∙ ap (λ (b : Bool). cond b (decimal k ∷ []) []) e)

interchange_made : (words : List Text) → IsOneWord words → IsMade (codes "interchange" ∷ words)
unfolding command_of
interchange_made words (inl e) = subst (λ (ws : List Text). IsMade (codes "interchange" ∷ ws)) (sym e) (inl refl)
interchange_made words (inr (w, e)) = subst (λ (ws : List Text). IsMade (codes "interchange" ∷ ws)) (sym e) (by (number_of 9 w))
  where
    by : (o : Option ℕ) → IsMadeCommand (option_or (option_and_then (λ n. done (Interchange n) []) o) (option_or (option_and_then (λ n. word (codes "by") (done (InterchangeBy n [])) []) o) None))
    by None = inl refl
    by (Some n) = inr (inl (n, refl))

parallel_made : (words : List Text) → IsOneWord words → IsMade (codes "parallel" ∷ words)
unfolding command_of
parallel_made words (inl e) = subst (λ (ws : List Text). IsMade (codes "parallel" ∷ ws)) (sym e) (inl refl)
parallel_made words (inr (w, e)) = subst (λ (ws : List Text). IsMade (codes "parallel" ∷ ws)) (sym e) (by (number_of 9 w))
  where
    by : (o : Option ℕ) → IsMadeCommand (option_or (option_and_then (λ n. done (Parallel n) []) o) (option_or (option_and_then (λ n. word (codes "by") (done (ParallelBy n [])) []) o) None))
    by None = inl refl
    by (Some n) = inr (inr (n, refl))

-- a line that is made
record IsMadeLine (l : Text) : Type 0 where
  whole : IsLine l
  made : IsMade (words_of l)

interchange_line : (k : ℕ) → IsMadeLine (codes "interchange " ++ decimal k)
interchange_line k = record { whole = printable_line (codes "interchange " ++ decimal k) (decimal_printable k); made = interchange_made (words_of (decimal k)) (one_word k) }

parallel_line : (k : ℕ) → IsMadeLine (codes "parallel " ++ decimal k)
parallel_line k = record { whole = printable_line (codes "parallel " ++ decimal k) (decimal_printable k); made = parallel_made (words_of (decimal k)) (one_word k) }

-- the lines of a script that is made

made_lines : (numbers : List ℕ) → AllByRecursion IsMadeLine (flat_map commands numbers)
made_lines [] = tt
made_lines (k ∷ ks) = (interchange_line (3 * k + 1), (parallel_line (3 * k + 2), made_lines ks))

each_line : (ls : List Text) → AllByRecursion IsMadeLine ls → AllByRecursion IsLine ls
each_line [] all = tt
each_line (l ∷ ls) all = (all.0.whole, each_line ls all.1)

script_lines : (n : ℕ) → lines (script n) ≡ flat_map commands (range_with_len 1 n)
unfolding script
script_lines n = lines_written (flat_map commands (range_with_len 1 n)) (each_line (flat_map commands (range_with_len 1 n)) (made_lines (range_with_len 1 n)))

-- the items of lines that are made

not_none : None ≡ Some Auto → ⊥
not_none is = cc

not_interchange : (k : ℕ) → Some (Interchange k) ≡ Some Auto → ⊥
not_interchange k is = cc

not_parallel : (k : ℕ) → Some (Parallel k) ≡ Some Auto → ⊥
not_parallel k is = cc

made_no_auto : (o : Option Command) → IsMadeCommand o → o ≡ Some Auto → ⊥
made_no_auto o (inl e) is = not_none (sym e ∙ is)
made_no_auto o (inr (inl (k, e))) is = not_interchange k (sym e ∙ is)
made_no_auto o (inr (inr (k, e))) is = not_parallel k (sym e ∙ is)

made_command : (words following : List Text) → IsMade words → IsMadeCommand (whole_command (command_of words) following)
made_command words following (inl e) = inl (ap (λ (o : Option Command). whole_command o following) e)
made_command words following (inr (inl (k, e))) = inr (inl (k, ap (λ (o : Option Command). whole_command o following) e))
made_command words following (inr (inr (k, e))) = inr (inr (k, ap (λ (o : Option Command). whole_command o following) e))

with_item : (n : ℕ) (words following : List Text) (items : List Item) → IsMade words → AllByRecursion IsMadeItem items → AllByRecursion IsMadeItem (item_at n words following ++ items)
with_item n [] following items made all = all
with_item n (w ∷ ws) following items made all = (made_command (w ∷ ws) following made, all)

either : (b : Bool) (xs ys : List Item) → AllByRecursion IsMadeItem xs → AllByRecursion IsMadeItem ys → AllByRecursion IsMadeItem (if b then xs else ys)
either true xs ys p q = p
either false xs ys p q = q

made_items : (n taken : ℕ) (ls : List Text) → AllByRecursion IsMadeLine ls → AllByRecursion IsMadeItem (items_from n taken ls)
made_items n taken [] all = tt
made_items n taken (l ∷ ls) all =
    let rest = items_from (n + 1) (taken_lines (command_of (words_of l)) ls) ls in
    either (nat_lt 0 taken) (items_from (n + 1) (taken - 1) ls) (item_at n (words_of l) ls ++ rest) (made_items (n + 1) (taken - 1) ls all.1)
    (with_item n (words_of l) ls rest all.0.made (made_items (n + 1) (taken_lines (command_of (words_of l)) ls) ls all.1))

-- each item of a script that is made has one of both commands, or none
pub made_script : (n : ℕ) → AllByRecursion IsMadeItem (commands_of (script n))
unfolding commands_of
made_script n = subst (λ (ls : List Text). AllByRecursion IsMadeItem (items_from 1 0 ls)) (sym (script_lines n)) (made_items 1 0 (flat_map commands (range_with_len 1 n)) (made_lines (range_with_len 1 n)))

none_auto : (items : List Item) → AllByRecursion IsMadeItem items → AllByRecursion IsNoAuto items
none_auto [] all = tt
none_auto (item ∷ items) all = (made_no_auto item.command all.0, none_auto items all.1)

-- and none is `auto`
pub no_auto : (n : ℕ) → AllByRecursion IsNoAuto (commands_of (script n))
no_auto n = none_auto (commands_of (script n)) (made_script n)
