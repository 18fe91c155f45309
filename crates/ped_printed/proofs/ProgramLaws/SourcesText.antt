-- The text of a statement where no character of its lines is refused: each character can be printed.
use Rattle.std.proofs.Common.{◌≡◌, ℕ, ◌-◌, Bool, true, false, if◌then◌else◌, List, [], ◌∷◌, ◌++◌, refl, ◌∙◌, arith, eqb}
use Rattle.std.specs.Prelude.{◌&&◌}
use Rattle.std.specs.List.{list_all}
use Rattle.std.proofs.lemmas.Bool.{and_from}
use Rattle.std.proofs.lemmas.List.Folds.{list_all-append}
use Rattle.std.specs.Char.{to_ascii_uppercase}
use Rattle.ped_lines.specs.ped_tree.specs.Grammar.Columns.{is_blank, statement_columns}
use Rattle.ped_lines.specs.ped_tree.specs.Grammar.Characters.{is_printable, is_quoted, has_bad, ends_apart, kept, text_behind, text_of}
use Rattle.ped_lines.specs.ped_tree.specs.Grammar.Grouping.{NumberedLine, joined_columns}
use Rattle.ped_lines.specs.ped_tree.specs.Grammar.Refusal.{BadCharacter}
use Rattle.ped_lines.specs.ped_tree.specs.Grammar.LineRefusals.{Role, Initial, Continuation, at_line, at_further, in_rest}
use Rattle.ped_blocks.proofs.BlocksFound.{none_stands, left_empty, right_empty}
use Rattle.ped_lines.proofs.PrintedLaws.Bytes.{both, allowed_printable}

-- what is kept

capital_printable : (c : ℕ) → is_printable c ≡ true → is_printable (to_ascii_uppercase c) ≡ true
capital_printable c h = grind arith

kept_printable : (before : List ℕ) (c : ℕ) → is_printable c ≡ true → list_all is_printable (kept before c) ≡ true
unfolding kept
kept_printable before c h = go (is_quoted before) (is_blank c) (eqb c 39 && ends_apart before) where
  go : (q b t : Bool) → list_all is_printable (if q then c ∷ [] else if b then [] else if t then 32 ∷ 39 ∷ [] else to_ascii_uppercase c ∷ []) ≡ true
  go true b t = and_from _ true h refl
  go false true t = refl
  go false false true = refl
  go false false false = and_from _ true (capital_printable c h) refl

text_printable : (before cs : List ℕ) → list_all is_printable cs ≡ true → list_all is_printable (text_behind before cs) ≡ true
text_printable before [] h = refl
text_printable before (c ∷ cs) h =
    let parts = both (is_printable c) (list_all is_printable cs) h in
    list_all-append is_printable (kept before c) (text_behind (before ++ c ∷ []) cs) ∙ and_from _ _ (kept_printable before c parts.0) (text_printable (before ++ c ∷ []) cs parts.1)

-- the lines

pub line_printable : (n : ℕ) (role : Role) (before line : List ℕ) → at_line n role before line ≡ [] → list_all is_printable (statement_columns line) ≡ true
unfolding at_line
line_printable n role before line h = allowed_printable before (statement_columns line) (none_stands (has_bad before (statement_columns line)) BadCharacter n (right_empty _ _ h))

further_printable : (left : ℕ) (before : List ℕ) (ls : List NumberedLine) → at_further left before ls ≡ [] → list_all is_printable (joined_columns ls) ≡ true
further_printable left before [] h = refl
further_printable left before (l ∷ ls) h =
    let here = line_printable l.number (Continuation left) before l.bytes (left_empty _ _ h) in
    let more = further_printable (left - 1) (before ++ statement_columns l.bytes) ls (right_empty (at_line l.number (Continuation left) before l.bytes) _ h) in
    list_all-append is_printable (statement_columns l.bytes) (joined_columns ls) ∙ and_from _ _ here more

pub statement_printable : (n : ℕ) (line : List ℕ) (further : List NumberedLine) → at_line n Initial [] line ≡ [] → in_rest n 19 (statement_columns line) further ≡ []
    → list_all is_printable (text_of (statement_columns line ++ joined_columns further)) ≡ true
statement_printable n line further h k =
    let columns = statement_columns line ++ joined_columns further in
    let more = further_printable 19 (statement_columns line) further (left_empty _ _ k) in
    text_printable [] columns (list_all-append is_printable (statement_columns line) (joined_columns further) ∙ and_from _ _ (line_printable n Initial [] line h) more)
