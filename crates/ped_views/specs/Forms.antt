-- The form of a subscript pair, by the loops whose index occurs in it (Allen and Kennedy, section 3.1: ZIV, SIV and MIV subscripts).
use Rattle.std.specs.Prelude.{ℕ, suc, ℤ, neg_ℤ, List, [], ◌∷◌, Bool, false, ◌&&◌, ◌||◌, not, ◌==◌, if◌then◌else◌}
use Rattle.std.specs.List.{list_any}
use Rattle.std.specs.Ordering.{int_eq}
use Rattle.ped_views.specs.Whole.{is_zero}
use Rattle.ped_views.specs.Views.{SubscriptPair}

-- a common loop whose index occurs in a subscript pair: its place, the outermost at 0, and its coefficients in the source and in the sink
pub record Occurrence : Type 0 where
  pub place : ℕ
  pub at_source : ℤ
  pub at_sink : ℤ

-- the common loops from a place on whose index occurs: where one of the two coefficients isn't 0
abbrev pub occurring : ℕ → List ℤ → List ℤ → List Occurrence
occurring k (a ∷ source) (b ∷ sink) =
    if is_zero a && is_zero b then occurring (suc k) source sink
    else (record { place = k; at_source = a; at_sink = b }) ∷ occurring (suc k) source sink
occurring k [] sink = []
occurring k (a ∷ source) [] = []

-- the common loops whose index occurs in the pair
abbrev pub occurrences : SubscriptPair → List Occurrence
occurrences p = occurring 0 p.source.common p.sink.common

-- the index of a further loop of one side occurs
abbrev pub has_inner : SubscriptPair → Bool
has_inner p = list_any (λ a. not (is_zero a)) p.source.inner || list_any (λ a. not (is_zero a)) p.sink.inner

-- no index; one common index with equal coefficients, with one coefficient 0, with opposite coefficients; anything else (Allen and Kennedy, sections 3.1, 3.3)
pub data Form : Type 0 where
  ziv : Form
  strong_siv : Occurrence → Form
  weak_zero_siv : Occurrence → Form
  weak_crossing_siv : Occurrence → Form
  other_form : Form

-- the form by the one common index that occurs (Allen and Kennedy, section 3.3.2)
abbrev pub single_form : Occurrence → Form
single_form o =
    if int_eq o.at_source o.at_sink then strong_siv o
    else if is_zero o.at_source || is_zero o.at_sink then weak_zero_siv o
    else if int_eq o.at_source (neg_ℤ o.at_sink) then weak_crossing_siv o
    else other_form

-- the form by the common indices that occur, where no other index does
abbrev pub common_form : List Occurrence → Form
common_form [] = ziv
common_form (o ∷ []) = single_form o
common_form (o ∷ p ∷ os) = other_form

-- the form of a subscript pair
abbrev pub form_of : SubscriptPair → Form
form_of p = if has_inner p then other_form else common_form (occurrences p)

-- strong SIV in the loop at place k (Allen and Kennedy, section 3.3.2)
abbrev pub is_strong_in : ℕ → Form → Bool
is_strong_in k (strong_siv o) = o.place == k
is_strong_in k ziv = false
is_strong_in k (weak_zero_siv o) = false
is_strong_in k (weak_crossing_siv o) = false
is_strong_in k other_form = false
