-- A loop of three statements, with its text written by hand, and what that is cut into.
use Rattle.std.proofs.Common.{◌≡◌, List, [], ◌∷◌, codes, None, refl, arith}
use Rattle.ped_tree.specs.Grammar.Characters.{is_quoted, kept, is_bad}
use Rattle.ped_tree.specs.Grammar.Columns.{is_directive}
use Rattle.ped_lines.specs.Printed.Printed.{a_comment, a_rejection, PrintedStatement, printed_text}
use Rattle.ped_lines.specs.Printed.Fitting.{StatementsFit}
use Rattle.ped_lines.specs.Printed.Cut.{cut}

example : List PrintedStatement
example =
    record { notes = a_comment (codes " a loop") ∷ a_rejection (codes "I") ∷ a_comment [] ∷ []; depth = 1; text = codes "DO I = 1, 9" }
    ∷ record { notes = []; depth = 1; text = codes "PRINT *, 'a b  c', 1234567890+1234567890+1234567890+1234567890+1234567890+1" }
    ∷ record { notes = []; depth = 1; text = codes "END DO" }
    ∷ []

example_fits : StatementsFit example
unfolding example is_quoted is_bad is_directive
example_fits = (
  record {
    notes = (record { short = omega arith; one_line = refl; ended = refl; no_directive = refl }, (record { short = omega arith; letters = refl }, (record { short = omega arith; one_line = refl; ended = refl; no_directive = refl }, tt)));
    text = record { begins = refl; allowed = refl; closed = refl; short = omega arith };
  },
  (
    record { notes = tt; text = record { begins = refl; allowed = refl; closed = refl; short = omega arith } },
    (record { notes = tt; text = record { begins = refl; allowed = refl; closed = refl; short = omega arith } }, tt),
  ),
)

example_text : printed_text example ≡ codes "C a loop\nC$PED REJECT I\nC\n        DO I = 1, 9\n        PRINT *, 'a b  c', 1234567890+1234567890+1234567890+1234567890+1\n     &234567890+1\n        END DO\n"
unfolding example
example_text = refl

example_cut : cut example ≡ record {
  statements =
      record {
        line = 4;
        label = None;
        text = codes "DOI=1,9";
        comments = record { line = 1; text = codes " a loop" } ∷ record { line = 3; text = [] } ∷ [];
        directives = record { line = 2; text = codes "REJECTI" } ∷ [];
      }
      ∷ record { line = 5; label = None; text = codes "PRINT*,'a b  c',1234567890+1234567890+1234567890+1234567890+1234567890+1"; comments = []; directives = [] }
      ∷ record { line = 7; label = None; text = codes "ENDDO"; comments = []; directives = [] }
      ∷ [];
  comments = [];
  directives = [];
  lines = 7;
}
unfolding example kept is_quoted
example_cut = refl
