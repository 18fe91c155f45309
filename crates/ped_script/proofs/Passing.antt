-- The items of lines, one line after the other.
use Rattle.std.proofs.Common.{◌≡◌, ℕ, ◌+◌, ◌-◌, ◌≤◌, zero, suc, Bool, true, false, cond, ltb, List, [], ◌∷◌, ◌++◌, length, drop, Option, Some, None, refl, sym, ap, ◌∙◌, append_assoc, arith}
use Rattle.ped_base.specs.Lists.{has_some}
use Rattle.ped_script.specs.declared.items.Command.{Command}
use Rattle.ped_script.specs.declared.items.Command.TheVariants.{Replace, Insert, InterchangeBy, ReverseBy, ParallelBy}
use Rattle.ped_script.specs.declared.items.Item.{Item}
use Rattle.ped_script.specs.Words.{Text, words_of}
use Rattle.ped_script.specs.Rows.{command_of}
use Rattle.ped_script.specs.Items.{is_end, text_count, whole_command, taken_lines, item_at, items_from}
use Rattle.ped_script.proofs.Split.{some_word, no_word}

-- a text takes no more lines than there are
text_count_small : (ls : List Text) → text_count ls ≤ length ls
text_count_small [] = omega arith
text_count_small (l ∷ ls) =
    let go : (b : Bool) → cond b 1 (text_count ls + 1) ≤ length (l ∷ ls) = λ b. elim b as (λ b. cond b 1 (text_count ls + 1) ≤ length (l ∷ ls)) [
      | true ↦ omega arith
      | false ↦ omega (arith, text_count_small ls)
    ] in
    go (is_end l)

taken_small : (c : Option Command) (ls : List Text) → taken_lines c ls ≤ length ls
taken_small None ls = omega arith
taken_small (Some (Replace a b t)) ls = text_count_small ls
taken_small (Some (Insert a t)) ls = text_count_small ls
taken_small (Some (InterchangeBy s e)) ls = text_count_small ls
taken_small (Some (ReverseBy s e)) ls = text_count_small ls
taken_small (Some (ParallelBy s e)) ls = text_count_small ls
taken_small (Some c) ls = omega arith

-- lines that belong to the command before are passed over
passed : (n k : ℕ) (ls : List Text) → k ≤ length ls → items_from n k ls ≡ items_from (n + k) 0 (drop k ls)
passed n zero [] h = refl
passed n (suc k) [] h = absurd (omega (arith, h))
passed n zero (l ∷ ls) h = let e : n ≡ n + 0 = omega arith in ap (λ m. items_from m 0 (l ∷ ls)) e
passed n (suc k) (l ∷ ls) h =
    let some : ltb 0 (suc k) ≡ true = grind arith in
    let fewer : suc k - 1 ≡ k = omega arith in
    let place : n + 1 + k ≡ n + suc k = omega arith in
    ap (λ b. cond b (items_from (n + 1) (suc k - 1) ls) (item_at n (words_of l) ls ++ items_from (n + 1) (taken_lines (command_of (words_of l)) ls) ls)) some
    ∙ ap (λ j. items_from (n + 1) j ls) fewer ∙ passed (n + 1) k ls (omega (arith, h)) ∙ ap (λ m. items_from m 0 (drop k ls)) place

-- a line without a word is no item
pub blank_item : (n : ℕ) (l : Text) (ls : List Text) → has_some (words_of l) ≡ false → items_from n 0 (l ∷ ls) ≡ items_from (n + 1) 0 ls
unfolding command_of
blank_item n l ls e = ap (λ ws. item_at n ws ls ++ items_from (n + 1) (taken_lines (command_of ws) ls) ls) (no_word (words_of l) e)

-- a line with a word is one, and what its text takes is passed over
one_item : (n : ℕ) (l : Text) (ls : List Text) → has_some (words_of l) ≡ true → item_at n (words_of l) ls ≡ record { line = n; command = whole_command (command_of (words_of l)) ls } ∷ []
one_item n l ls e =
    let w = some_word (words_of l) e in
    ap (λ ws. item_at n ws ls) w.2 ∙ ap (λ ws. record { line = n; command = whole_command (command_of ws) ls } ∷ []) (sym w.2)

-- the items so far with that of one more line, in the words of what is left
pub with_item : (items new : List Item) (n : ℕ) (l : Text) (ls left : List Text) (c : Option Command) (read : ℕ) → has_some (words_of l) ≡ true
    → c ≡ whole_command (command_of (words_of l)) ls → new ≡ items ++ record { line = n; command = c } ∷ []
    → left ≡ drop (taken_lines (command_of (words_of l)) ls) ls → read ≡ n + taken_lines (command_of (words_of l)) ls
    → new ++ items_from (read + 1) 0 left ≡ items ++ items_from n 0 (l ∷ ls)
with_item items new n l ls left c read e is added cut count =
    let taken = taken_lines (command_of (words_of l)) ls in
    let place : read + 1 ≡ n + 1 + taken = omega (arith, count) in
    let rest = items_from (n + 1) taken ls in
    let behind : items_from (read + 1) 0 left ≡ rest =
    ap (λ m. items_from m 0 left) place ∙ ap (items_from (n + 1 + taken) 0) cut ∙ sym (passed (n + 1) taken ls (taken_small (command_of (words_of l)) ls)) in
    ap (λ x. x ++ items_from (read + 1) 0 left) added ∙ ap (λ x. (items ++ record { line = n; command = c } ∷ []) ++ x) behind
    ∙ append_assoc items (record { line = n; command = c } ∷ []) rest
    ∙ ap (λ (c : Option Command). items ++ ((record { line = n; command = c } ∷ []) ++ rest)) is
    ∙ ap (λ x. items ++ (x ++ rest)) (sym (one_item n l ls e))
