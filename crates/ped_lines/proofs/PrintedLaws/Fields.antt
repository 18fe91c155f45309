-- Columns 1 to 6 of an initial line.
use Rattle.std.proofs.Common.{◌≡◌, ℕ, true, false, List, ◌++◌, length, take, None, refl}
use Rattle.std.specs.List.{list_all}
use Rattle.ped_tree.specs.Printing.{blanks}
use Rattle.ped_tree.specs.Grammar.Columns.{is_blank, is_comment, is_continuation, with_digit, label_number, label_of, has_bad_label}
use Rattle.ped_tree.specs.Grammar.Characters.{is_printable}

-- what is known of columns 1 to 6, whatever follows them
pub record IsField (field : List ℕ) : Type 0 where
  pub six : length field ≡ 6
  pub comment : (p : List ℕ) → list_all is_blank (take 66 p) ≡ false → is_comment (field ++ p) ≡ false
  pub begins : (p : List ℕ) → is_continuation (field ++ p) ≡ false
  pub label_is : (p : List ℕ) → label_of (field ++ p) ≡ None
  pub good : (p : List ℕ) → has_bad_label (field ++ p) ≡ false
  pub printable : list_all is_printable field ≡ true

pub blank_field : IsField (blanks 6)
unfolding is_comment is_continuation label_of label_number with_digit has_bad_label
blank_field = record {
  six = refl;
  comment = λ p h. h;
  begins = λ p. refl;
  label_is = λ p. refl;
  good = λ p. refl;
  printable = refl;
}
