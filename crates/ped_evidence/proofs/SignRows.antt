-- The rows of a pattern hold for values that stand in directions that fit it.
use Rattle.std.proofs.Common.{◌≡◌, ℕ, refl, sym, ◌∙◌, subst, arith, ℤ, pos, negsuc, int_lt, List, [], ◌∷◌, ◌++◌, Bool, true, false, if◌then◌else◌}
use Rattle.std.proofs.lemmas.Bool.{and_parts}
use Rattle.std.proofs.lemmas.Int.{ints}
use Rattle.ped_views.specs.declared.directions.Direction.{Direction}
use Rattle.ped_views.specs.declared.directions.Direction.TheVariants as directions
use Rattle.ped_views.specs.Excluded.{StandsByValue, by_value}
use Rattle.ped_certificates.specs.Rows.{Holds, Meets}
use Rattle.ped_affine.specs.AffineForms.{AffineForm}
use Rattle.ped_certificates.specs.declared.claims.Sign.{Sign}
use Rattle.ped_certificates.specs.declared.claims.Sign.TheVariants.{Before, Same, After, Any}
use Rattle.ped_evidence.specs.Signs.{says, fits}
use Rattle.ped_evidence.specs.Forms.{below}
use Rattle.ped_evidence.specs.Levels.{Level}
use Rattle.ped_evidence.specs.Layouts.{Columns, width, index}
use Rattle.ped_evidence.specs.Systems.{earlier, sign_row, sign_rows}
use Rattle.ped_evidence.specs.Facts.{Values, in_order, AreFor, value_at, IsCommon, AreCommon}
use Rattle.ped_evidence.proofs.Weighing.{form_value, below_holds, equal_holds}
use Rattle.ped_evidence.proofs.Arranging.{index_at, sink_behind}
use Rattle.ped_evidence.proofs.Meeting.{meets_both}

-- a value that comes first in the loop's iterations
module _ (n : ℕ) (v : Level) (a b : AffineForm) (all : List ℤ) where
  forwards : StandsByValue (by_value v.range.step directions.Before) (form_value a all) (form_value b all) → Holds (earlier n v a b) all
  forwards h = by v.range.step (int_lt v.range.step (pos 0)) refl h
    where
      by : (m : ℤ) (t : Bool) → int_lt m (pos 0) ≡ t → StandsByValue (by_value m directions.Before) (form_value a all) (form_value b all) → Holds (if t then below n b a else below n a b) all
      by (pos m) true e k = absurd (omega (arith, ints))
      by (pos m) false e k = below_holds n a b all k
      by (negsuc m) true e k = below_holds n b a all k
      by (negsuc m) false e k = absurd (omega (arith, ints))

  backwards : StandsByValue (by_value v.range.step directions.After) (form_value a all) (form_value b all) → Holds (earlier n v b a) all
  backwards h = by v.range.step (int_lt v.range.step (pos 0)) refl h
    where
      by : (m : ℤ) (t : Bool) → int_lt m (pos 0) ≡ t → StandsByValue (by_value m directions.After) (form_value a all) (form_value b all) → Holds (if t then below n a b else below n b a) all
      by (pos m) true e k = absurd (omega (arith, ints))
      by (pos m) false e k = below_holds n b a all k
      by (negsuc m) true e k = below_holds n a b all k
      by (negsuc m) false e k = absurd (omega (arith, ints))

same_either_way : (m i j : ℤ) → StandsByValue (by_value m directions.Same) i j → i ≡ j
same_either_way (pos m) i j h = h
same_either_way (negsuc m) i j h = h

module _ (c : Columns) (w : Values) (fit : AreFor c w) where
  abbrev all : List ℤ
  all = in_order w

  -- a loop whose values stand in a direction that the sign says
  sign_row_meets : (v : Level) (sign : Sign) (d : Direction) → IsCommon w.source w.sink v d → says sign d ≡ true → Meets (sign_row c v sign) all
  sign_row_meets v Any d h e = tt
  sign_row_meets v Before d h e = by d h.stands e
    where
      at_source : form_value (index c 0 v) all ≡ value_at w.source v
      at_source = index_at c w fit 0 v w.source (w.sink ++ (w.quotients ++ w.symbols)) h.at_source refl

      at_sink : form_value (index c c.source v) all ≡ value_at w.sink v
      at_sink = index_at c w fit c.source v w.sink (w.quotients ++ w.symbols) h.at_sink (sink_behind c w fit)

      by : (d : Direction) → StandsByValue (by_value v.range.step d) (value_at w.source v) (value_at w.sink v) → says Before d ≡ true → Meets (sign_row c v Before) all
      by directions.Before k q = (forwards (width c) v (index c 0 v) (index c c.source v) all (subst (λ (i : ℤ). StandsByValue (by_value v.range.step directions.Before) i (form_value (index c c.source v) all)) (sym at_source) (subst (λ (j : ℤ). StandsByValue (by_value v.range.step directions.Before) (value_at w.source v) j) (sym at_sink) k)), tt)
      by directions.Same k q = absurd cc
      by directions.After k q = absurd cc
  sign_row_meets v Same d h e = by d h.stands e
    where
      at_source : form_value (index c 0 v) all ≡ value_at w.source v
      at_source = index_at c w fit 0 v w.source (w.sink ++ (w.quotients ++ w.symbols)) h.at_source refl

      at_sink : form_value (index c c.source v) all ≡ value_at w.sink v
      at_sink = index_at c w fit c.source v w.sink (w.quotients ++ w.symbols) h.at_sink (sink_behind c w fit)

      by : (d : Direction) → StandsByValue (by_value v.range.step d) (value_at w.source v) (value_at w.sink v) → says Same d ≡ true → Meets (sign_row c v Same) all
      by directions.Before k q = absurd cc
      by directions.Same k q = (equal_holds (index c c.source v) (index c 0 v) all (at_sink ∙ (sym (same_either_way v.range.step (value_at w.source v) (value_at w.sink v) k) ∙ sym at_source)), tt)
      by directions.After k q = absurd cc
  sign_row_meets v After d h e = by d h.stands e
    where
      at_source : form_value (index c 0 v) all ≡ value_at w.source v
      at_source = index_at c w fit 0 v w.source (w.sink ++ (w.quotients ++ w.symbols)) h.at_source refl

      at_sink : form_value (index c c.source v) all ≡ value_at w.sink v
      at_sink = index_at c w fit c.source v w.sink (w.quotients ++ w.symbols) h.at_sink (sink_behind c w fit)

      by : (d : Direction) → StandsByValue (by_value v.range.step d) (value_at w.source v) (value_at w.sink v) → says After d ≡ true → Meets (sign_row c v After) all
      by directions.Before k q = absurd cc
      by directions.Same k q = absurd cc
      by directions.After k q = (backwards (width c) v (index c 0 v) (index c c.source v) all (subst (λ (i : ℤ). StandsByValue (by_value v.range.step directions.After) i (form_value (index c c.source v) all)) (sym at_source) (subst (λ (j : ℤ). StandsByValue (by_value v.range.step directions.After) (value_at w.source v) j) (sym at_sink) k)), tt)

  pub sign_rows_meet : (vs : List Level) (pattern : List Sign) (ds : List Direction) → AreCommon w.source w.sink vs ds → fits pattern ds ≡ true → Meets (sign_rows c vs pattern) all
  sign_rows_meet [] pattern ds h e = tt
  sign_rows_meet (v ∷ vs) [] ds h e = tt
  sign_rows_meet (v ∷ vs) (sign ∷ pattern) [] h e = absurd h
  sign_rows_meet (v ∷ vs) (sign ∷ pattern) (d ∷ ds) h e =
      let p = and_parts (says sign d) (fits pattern ds) e in
      meets_both (sign_row c v sign) (sign_rows c vs pattern) all (sign_row_meets v sign d h.0 p.0) (sign_rows_meet vs pattern ds h.1 p.1)
