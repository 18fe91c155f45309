-- The first refusal of units that were read, one after the other.
use Rattle.std.proofs.Common.{◌≡◌, List, [], ◌∷◌, Option, sym, ap, ◌∙◌}
use Rattle.ped_tree.specs.Grammar.Refusal.{Finding, earliest, first_of}
use Rattle.ped_tree.specs.Grammar.RefusalViews.{found_of}
use Rattle.ped_tree.specs.Grammar.Statement.{Statements}
use Rattle.ped_tree.proofs.GrammarLaws.First.{earliest_append}
use Rattle.ped_units.specs.Reading.{Segment}
use Rattle.ped_units.specs.Refusals.{segment_refusals, before_another, segments_refusals}
use Rattle.ped_units.specs.Seeing.{IsReadUnit, AreReadUnits, combined}
use Rattle.ped_units.specs.declared.reading.ReadUnit.{ReadUnit}
use Rattle.ped_units.proofs.Earliest.{combined_first}

-- units that are left, and the first refusal so far and of these
pub record Left (all : Statements) (whole : List Segment) (found : Option Finding) (us : List ReadUnit) : Type 0 where
  pub rest : List Segment
  pub read : AreReadUnits all rest us
  pub first : earliest found (segments_refusals all rest) ≡ first_of (segments_refusals all whole)

one_read : (all : Statements) (s : Segment) (u : ReadUnit) (found : Option Finding) → IsReadUnit all s u → combined found (found_of u.first) ≡ earliest found (segment_refusals all s)
one_read all s u found h = ap (combined found) h.first ∙ combined_first found (segment_refusals all s)

pub next_left : (all : Statements) (whole rest : List Segment) (found : Option Finding) (u : ReadUnit) (us : List ReadUnit) → AreReadUnits all rest (u ∷ us)
    → earliest found (segments_refusals all rest) ≡ first_of (segments_refusals all whole) → Left all whole (combined found (found_of u.first)) us
next_left all whole [] found u us r h = absurd r
next_left all whole (s ∷ []) found u us r h = record { rest = []; read = r.1; first = one_read all s u found r.0 ∙ h }
next_left all whole (s ∷ t ∷ ss) found u us r h = record {
  rest = t ∷ ss;
  read = r.1;
  first = ap (λ (o : Option Finding). earliest o (segments_refusals all (t ∷ ss))) (one_read (before_another all) s u found r.0)
      ∙ sym (earliest_append found (segment_refusals (before_another all) s) (segments_refusals all (t ∷ ss)))
      ∙ h;
}

-- none is left
pub none_left : (all : Statements) (whole rest : List Segment) (found : Option Finding) → AreReadUnits all rest [] → earliest found (segments_refusals all rest) ≡ first_of (segments_refusals all whole) → found ≡ first_of (segments_refusals all whole)
none_left all whole [] found r h = h
none_left all whole (s ∷ []) found r h = absurd r
none_left all whole (s ∷ t ∷ ss) found r h = absurd r
