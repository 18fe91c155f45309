-- Runs that ended alike, by what a test of each part tells.
use Rattle.std.proofs.Common.{◌≡◌, ◌∙◌, refl, sym, ap, ap₂, ℕ, ℤ, Bool, false, List, [], ◌∷◌, map, Option, Some, None}
use Rattle.std.specs.Prelude.{IsTrue, ◌↔◌}
use Rattle.std.specs.Bool.{Decides}
use Rattle.std.specs.Option.{option_eq}
use Rattle.std.specs.Ordering.{int_eq}
use Rattle.std.proofs.lemmas.Bool.Decides.{Decides-int_eq, Decides-like}
use Rattle.ped_session.specs.ped_rules.specs.ped_eval.specs.Outcomes.{LiveRow, Outcome, Ended, Fault}
use Rattle.ped_session.specs.ped_rules.specs.ped_eval.specs.OutcomeViews.{row_view}
use Rattle.ped_session.specs.ped_rules.specs.ped_eval.specs.declared.outcomes.LiveRow as code_row
use Rattle.ped_answer.specs.Generated.{EndAlike}

-- the code's test on values
pub value_decided : (a b : Option ℤ) → Decides (option_eq int_eq a b) (a ≡ b)
value_decided None None = (λ h. refl, λ e. refl)
value_decided None (Some n) = (λ h. absurd (cc), λ e. absurd (cc))
value_decided (Some m) None = (λ h. absurd (cc), λ e. absurd (cc))
value_decided (Some m) (Some n) = Decides-like _ (λ (e : m ≡ n). ap (λ (z : ℤ). Some z) e) (λ (e : Some m ≡ Some n). cc) (Decides-int_eq m n)

row_back : LiveRow → code_row.LiveRow
row_back r = record { name = r.name; values = r.values }

there_and_back : (rows : List code_row.LiveRow) → map row_back (map row_view rows) ≡ rows
unfolding row_back
there_and_back [] = refl
there_and_back (r ∷ rows) = ap (λ (rest : List code_row.LiveRow). r ∷ rest) (there_and_back rows)

rows_back : (xs ys : List code_row.LiveRow) → map row_view xs ≡ map row_view ys → xs ≡ ys
rows_back xs ys e = sym (there_and_back xs) ∙ ap (map row_back) e ∙ there_and_back ys

same_output : {a b : List (List ℕ)} {x y : List LiveRow} → Ended a x ≡ Ended b y → a ≡ b
same_output e = cc

same_live : {a b : List (List ℕ)} {x y : List LiveRow} → Ended a x ≡ Ended b y → x ≡ y
same_live e = cc

-- a run that ended, against an output and live-out variables
pub ended_so : (r : Bool) (lines output : List (List ℕ)) (rows live : List code_row.LiveRow) → IsTrue r ↔ (lines ≡ output) × (rows ≡ live)
    → IsTrue r ↔ (Ended lines (map row_view rows) ≡ Ended output (map row_view live))
ended_so r lines output rows live d = (
  λ t. let h = d.0 t in ap₂ Ended h.0 (ap (map row_view) h.1),
  λ e. d.1 (same_output e, rows_back rows live (same_live e)),
)

-- a run that met a fault
pub not_ended : (number statement : ℕ) (output : List (List ℕ)) (live : List LiveRow) → IsTrue false ↔ (Fault number statement ≡ Ended output live)
not_ended number statement output live = (λ t. absurd (cc), λ e. absurd (cc))

-- a run that ended, and another
pub alike_by : (a b : Outcome) (output : List (List ℕ)) (live : List LiveRow) (r : Bool) → a ≡ Ended output live → IsTrue r ↔ (b ≡ Ended output live) → IsTrue r ↔ EndAlike a b
alike_by a b output live r e d = (
  λ t. record { output = output; live = live; first = e; second = d.0 t },
  λ h. d.1 (h.second ∙ sym h.first ∙ e),
)

-- a run that met a fault, and another
pub never_alike : (a b : Outcome) (number statement : ℕ) → a ≡ Fault number statement → IsTrue false ↔ EndAlike a b
never_alike a b number statement e = (λ t. absurd (cc), λ h. absurd (let f : Fault number statement ≡ Ended h.output h.live = sym e ∙ h.first in cc))
