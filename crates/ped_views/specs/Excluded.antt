-- When a subscript pair excludes a direction vector: sentences over whole numbers (Allen and Kennedy, chapter 3).
use Rattle.std.specs.Prelude.{◌≡◌, ◌⊎◌, ℕ, ℤ, pos, negsuc, ◌+ℤ◌, ◌-ℤ◌, ◌*ℤ◌, ◌≤ℤ◌, ◌<ℤ◌, List, [], ◌∷◌, length, false, IsTrue, slice_index_or, ◌&&◌, ◌==◌, if◌then◌else◌}
use Rattle.std.specs.List.{Any, AllByRecursion, flat_map}
use Rattle.ped_views.specs.declared.directions.Direction.{Direction}
use Rattle.ped_views.specs.declared.directions.Direction.TheVariants.{Before, Same, After}
use Rattle.ped_views.specs.declared.strong_rows.StrongRow.{StrongRow}
use Rattle.ped_views.specs.Whole.{Divides, is_zero}
use Rattle.ped_views.specs.Views.{Range, range, Row, SubscriptPair, View}
use Rattle.ped_views.specs.Forms.{Form, ziv, strong_siv, weak_zero_siv, weak_crossing_siv, other_form, form_of}

-- the index i at the source and j at the sink are so ordered by their values: lesser first, equal, greater first (Allen and Kennedy, section 2.2.4)
abbrev pub StandsByValue : Direction → ℤ → ℤ → Type 0
StandsByValue Before i j = i <ℤ j
StandsByValue Same i j = i ≡ j
StandsByValue After i j = j <ℤ i

-- a direction seen from the sink
abbrev pub turned : Direction → Direction
turned Before = After
turned Same = Same
turned After = Before

-- a direction of iterations as one of values: a negative step takes the greater value first (Allen and Kennedy, section 2.2.2; ANSI X3.9-1978, section 11.10.7)
abbrev pub by_value : ℤ → Direction → Direction
by_value (pos n) d = d
by_value (negsuc n) d = turned d

-- i at the source and j at the sink are in this direction of the loop's iterations (Allen and Kennedy, section 2.2.4)
abbrev pub Stands : Range → Direction → ℤ → ℤ → Type 0
Stands r d i j = StandsByValue (by_value r.step d) i j

-- i lies in the range of the loop (ANSI X3.9-1978, section 11.10.3)
pub record InRange (r : Range) (i : ℤ) : Type 0 where
  pub from : r.lo ≤ℤ i
  pub to : i ≤ℤ r.hi

-- i at the source and j at the sink lie in the range, are in the direction, and make both subscripts equal (Allen and Kennedy, section 3.3.2)
pub record Meets (a b c1 c2 : ℤ) (r : Range) (d : Direction) (i j : ℤ) : Type 0 where
  pub source : InRange r i
  pub sink : InRange r j
  pub stands : Stands r d i j
  pub equal : a *ℤ i +ℤ c1 ≡ b *ℤ j +ℤ c2

-- no index values of the loop meet in the direction (Allen and Kennedy, section 3.3.2)
abbrev pub NeverMeets : ℤ → ℤ → ℤ → ℤ → Range → Direction → Type 0
NeverMeets a b c1 c2 r d = (i j : ℤ) → ¬ (Meets a b c1 c2 r d i j)

-- the row of a usable subscript pair that is strong SIV in the loop at place k, by its form; none of any other pair (Allen and Kennedy, section 3.3.2)
abbrev pub rows_in : ℕ → Form → SubscriptPair → List StrongRow
rows_in k (strong_siv o) p = if p.usable && o.place == k then (record { a = o.at_source; c1 = p.source.constant; c2 = p.sink.constant }) ∷ [] else []
rows_in k ziv p = []
rows_in k (weak_zero_siv o) p = []
rows_in k (weak_crossing_siv o) p = []
rows_in k other_form p = []

-- the group of the loop at place k: the rows of all usable positions that are strong SIV in it (Allen and Kennedy, section 3.1: coupled subscripts)
abbrev pub group_of : ℕ → List SubscriptPair → List StrongRow
group_of k positions = flat_map (λ p. rows_in k (form_of p) p) positions

-- i at the source and j at the sink lie in the range, are in the direction, in a steady loop a whole number of steps apart, and make both sides of every row equal (Allen and Kennedy, sections 3.1, 3.3.2)
pub record MeetTogether (rows : List StrongRow) (r : Range) (d : Direction) (i j : ℤ) : Type 0 where
  pub source : InRange r i
  pub sink : InRange r j
  pub stands : Stands r d i j
  pub in_step : IsTrue r.steady → Divides r.step (j -ℤ i)
  pub equal : AllByRecursion (λ s. s.a *ℤ i +ℤ s.c1 ≡ s.a *ℤ j +ℤ s.c2) rows

-- no index values of the loop make the subscripts of all rows equal at once in the direction (Allen and Kennedy, sections 3.1, 3.3.2)
abbrev pub NeverMeetTogether : List StrongRow → Range → Direction → Type 0
NeverMeetTogether rows r d = (i j : ℤ) → ¬ (MeetTogether rows r d i j)

-- the indices of both sides: of the common loops at the source and at the sink, and of the further loops of each side (Allen and Kennedy, section 3.3.3)
pub record Indices : Type 0 where
  pub source : List ℤ
  pub sink : List ℤ
  pub source_inner : List ℤ
  pub sink_inner : List ℤ

-- the sum of coefficients times indices (Allen and Kennedy, section 3.1)
abbrev pub dot : List ℤ → List ℤ → ℤ
dot (a ∷ row) (i ∷ indices) = a *ℤ i +ℤ dot row indices
dot [] indices = pos 0
dot (a ∷ row) [] = pos 0

-- the value of a subscript at these indices of the common and the further loops (Allen and Kennedy, section 3.1)
abbrev pub subscript_value : Row → List ℤ → List ℤ → ℤ
subscript_value row common inner = dot row.common common +ℤ dot row.inner inner +ℤ row.constant

-- the source's subscript less the sink's (Allen and Kennedy, section 3.3.3)
abbrev pub difference : SubscriptPair → Indices → ℤ
difference p at = subscript_value p.source at.source at.source_inner -ℤ subscript_value p.sink at.sink at.sink_inner

-- one index for each coefficient (plain words)
pub record HasIndices (p : SubscriptPair) (at : Indices) : Type 0 where
  pub source : length at.source ≡ length p.source.common
  pub sink : length at.sink ≡ length p.sink.common
  pub source_inner : length at.source_inner ≡ length p.source.inner
  pub sink_inner : length at.sink_inner ≡ length p.sink.inner

-- both sides have one index in each loop with `=` (Allen and Kennedy, section 3.3.3)
abbrev pub SharesIndices : List Direction → List ℤ → List ℤ → Type 0
SharesIndices (Same ∷ ds) (i ∷ is) (j ∷ js) = (i ≡ j) × SharesIndices ds is js
SharesIndices (Before ∷ ds) (i ∷ is) (j ∷ js) = SharesIndices ds is js
SharesIndices (After ∷ ds) (i ∷ is) (j ∷ js) = SharesIndices ds is js
SharesIndices [] is js = Unit {0}
SharesIndices (d ∷ ds) [] js = Unit {0}
SharesIndices (d ∷ ds) (i ∷ is) [] = Unit {0}

-- no whole numbers whatever make the subscripts equal, where the two indices of a loop with `=` are one unknown (Allen and Kennedy, section 3.3.3: GCD test)
abbrev pub HasNoSolution : SubscriptPair → List Direction → Type 0
HasNoSolution p vector = (at : Indices) → HasIndices p at → SharesIndices vector at.source at.sink → ¬ (difference p at ≡ pos 0)

-- the indices of the common loops that occur lie in their ranges and are in their directions: after the last direction, in any (Allen and Kennedy, section 3.3.3)
abbrev pub CommonInRange : List Range → List Direction → List ℤ → List ℤ → List ℤ → List ℤ → Type 0
CommonInRange (r ∷ loops) (d ∷ vector) (a ∷ source) (b ∷ sink) (i ∷ is) (j ∷ js) =
    (IsTrue (is_zero a && is_zero b) ⊎ (InRange r i × InRange r j × Stands r d i j)) × CommonInRange loops vector source sink is js
CommonInRange (r ∷ loops) [] (a ∷ source) (b ∷ sink) (i ∷ is) (j ∷ js) =
    (IsTrue (is_zero a && is_zero b) ⊎ (InRange r i × InRange r j)) × CommonInRange loops [] source sink is js
CommonInRange loops vector source sink is js = Unit {0}

-- the indices of the further loops that occur lie in their ranges (Allen and Kennedy, section 3.3.3)
abbrev pub InnerInRange : List Range → List ℤ → List ℤ → Type 0
InnerInRange (r ∷ loops) (a ∷ row) (i ∷ indices) = (IsTrue (is_zero a) ⊎ InRange r i) × InnerInRange loops row indices
InnerInRange [] row indices = Unit {0}
InnerInRange (r ∷ loops) [] indices = Unit {0}
InnerInRange (r ∷ loops) (a ∷ row) [] = Unit {0}

-- a point of the ranges of the loops that occur, under the vector, or under a front of one and any directions after it (Allen and Kennedy, section 3.3.3)
pub record IsPoint (v : View) (p : SubscriptPair) (vector : List Direction) (at : Indices) : Type 0 where
  pub indices : HasIndices p at
  pub common : CommonInRange v.loops vector p.source.common p.sink.common at.source at.sink
  pub source_inner : InnerInRange v.source_inner p.source.inner at.source_inner
  pub sink_inner : InnerInRange v.sink_inner p.sink.inner at.sink_inner

-- zero doesn't lie between the least and the greatest difference over the points, or there is no point (Allen and Kennedy, section 3.3.3: Banerjee inequality)
abbrev pub IsBeyondExtremes : View → SubscriptPair → List Direction → Type 0
IsBeyondExtremes v p vector =
    (low high : Indices) → IsPoint v p vector low → IsPoint v p vector high
    → difference p low ≤ℤ pos 0 → pos 0 ≤ℤ difference p high → ⊥

-- the loop at a place (plain words)
abbrev pub loop_at : View → ℕ → Range
loop_at v k = slice_index_or v.loops k (range (pos 0) (pos 0) (pos 1) false)

-- the direction at a place (plain words)
abbrev pub direction_at : List Direction → ℕ → Direction
direction_at vector k = slice_index_or vector k Same

-- by its form, a subscript pair of the view excludes the vector: one that is strong SIV excludes it where the group of its loop does (Allen and Kennedy, sections 3.1, 3.3)
abbrev pub FormExcludes : Form → View → SubscriptPair → List Direction → Type 0
FormExcludes ziv v p vector = ¬ (p.source.constant ≡ p.sink.constant)
FormExcludes (strong_siv o) v p vector = NeverMeetTogether (group_of o.place v.positions) (loop_at v o.place) (direction_at vector o.place)
FormExcludes (weak_zero_siv o) v p vector = NeverMeets o.at_source o.at_sink p.source.constant p.sink.constant (loop_at v o.place) (direction_at vector o.place)
FormExcludes (weak_crossing_siv o) v p vector = NeverMeets o.at_source o.at_sink p.source.constant p.sink.constant (loop_at v o.place) (direction_at vector o.place)
FormExcludes other_form v p vector = HasNoSolution p vector ⊎ IsBeyondExtremes v p vector

-- the subscript pair excludes the vector; one that isn't usable excludes nothing (Allen and Kennedy, section 3.1: conservative testing)
abbrev pub Excludes : View → SubscriptPair → List Direction → Type 0
Excludes v p vector = IsTrue p.usable × FormExcludes (form_of p) v p vector

-- a usable subscript pair of the view can't be zero under this front of a vector, whatever directions follow
abbrev pub IsDeadEnd : View → List Direction → Type 0
IsDeadEnd v front = Any (λ p. IsTrue p.usable × IsBeyondExtremes v p front) v.positions
