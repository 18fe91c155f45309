-- Iterations of all loops of a view in which both subscripts of each position are equal.
use Rattle.std.proofs.Common.{◌≡◌, ℕ, zero, suc, ◌+◌, ◌<◌, inl, inr, refl, sym, ap, subst, ◌∙◌, arith, ℤ, pos, ◌+ℤ◌, ◌*ℤ◌, ◌≤ℤ◌, unsigned_abs, List, [], ◌∷◌, length, slice_index_or, Bool, true, false, not, ◌&&◌, ◌||◌, IsTrue, if◌then◌else◌}
use Rattle.std.specs.List.{list_any, list_all, AllByRecursion}
use Rattle.std.proofs.lemmas.Bool.{and_parts}
use Rattle.std.proofs.lemmas.Int.{ints}
use Rattle.ped_laws.specs.ped_graph.specs.ped_views.specs.declared.directions.Direction.{Direction}
use Rattle.ped_laws.specs.ped_graph.specs.ped_views.specs.declared.directions.Direction.TheVariants.{Same}
use Rattle.ped_laws.specs.ped_graph.specs.ped_views.specs.declared.strong_rows.StrongRow.{StrongRow}
use Rattle.ped_laws.specs.ped_graph.specs.ped_views.specs.Whole.{is_zero}
use Rattle.ped_laws.specs.ped_graph.specs.ped_views.specs.Views.{Range, range, SubscriptPair, View}
use Rattle.ped_laws.specs.ped_graph.specs.ped_views.specs.Forms.{Form, form_of, Occurrence, occurring, has_inner}
use Rattle.ped_laws.specs.ped_graph.specs.ped_views.specs.Excluded.{group_of, rows_in, Indices, dot, difference, loop_at, direction_at, NeverMeetTogether, FormExcludes, Excludes}
use Rattle.ped_laws.specs.ped_graph.specs.ped_views.specs.Limits.{FitsLoops}
use Rattle.ped_laws.specs.ped_graph.specs.ped_views.specs.Vectors.{IsPossible}
use Rattle.ped_laws.specs.ped_graph.specs.ped_views.proofs.Products.{linear}
use Rattle.ped_rows.proofs.Trips.{NumbersStand}
use Rattle.ped_verdict.specs.Exactness.{is_exact_form, is_exact_position, is_exact}
use Rattle.ped_laws.specs.ped_graph.specs.Marks.{runs_twice}
use Rattle.ped_laws.proofs.CoveringLaws.Weighing.{dot_none}
use Rattle.ped_rows.proofs.ChoosingLaws.RowDistances.{same_or_not, value_at, IsShort, IsEqualRow, Choice, chosen_freely, chosen_by_rows}
use Rattle.ped_rows.proofs.ChoosingLaws.ExactForms.{IsZiv, IsStrong, exact_form, rows_of_group, own_row, group_meets}

-- a DO of this range begins with one value for all entries, and has a step
pub record IsFirmRange (r : Range) : Type 0 where
  pub steady : IsTrue r.steady
  pub step : ¬ (r.step ≡ pos 0)

-- the same of all of them
abbrev pub AreFirmRanges : List Range → Type 0
AreFirmRanges rs = AllByRecursion IsFirmRange rs

-- the loops have iterations with these numbers, one each
abbrev pub AreShort : List Range → List ℕ → Type 0
AreShort (r ∷ rs) (k ∷ ks) = IsShort r k × AreShort rs ks
AreShort [] [] = Unit {0}
AreShort [] (k ∷ ks) = ⊥
AreShort (r ∷ rs) [] = ⊥

-- the values of the variables of the loops in these iterations
abbrev pub values_at : List Range → List ℕ → List ℤ
values_at (r ∷ rs) (k ∷ ks) = value_at r k ∷ values_at rs ks
values_at (r ∷ rs) [] = []
values_at [] ks = []

abbrev no_range : Range
no_range = range (pos 0) (pos 0) (pos 1) false

-- the rows of a group are equal at the values at this place
abbrev pub AreEqualAt : List ℤ → List ℤ → ℕ → List StrongRow → Type 0
AreEqualAt is js k rows = AllByRecursion (IsEqualRow (slice_index_or is k (pos 0)) (slice_index_or js k (pos 0))) rows

-- iterations of the loops that stand in these directions and make the rows of the groups equal
record Chosen (groups : ℕ → List StrongRow) (rs : List Range) (ds : List Direction) : Type 0 where
  ks : List ℕ
  ms : List ℕ
  source : AreShort rs ks
  sink : AreShort rs ms
  stand : NumbersStand ds ks ms
  equal : (k : ℕ) → k < length rs → AreEqualAt (values_at rs ks) (values_at rs ms) k (groups k)

chosen : (groups : ℕ → List StrongRow) (rs : List Range) (ds : List Direction) → length ds ≡ length rs → ((k : ℕ) → k < length rs → Choice (groups k) (slice_index_or rs k no_range) (slice_index_or ds k Same)) → Chosen groups rs ds
chosen groups [] [] l each = record { ks = []; ms = []; source = tt; sink = tt; stand = tt; equal = λ k h. absurd (omega arith) }
chosen groups [] (d ∷ ds) l each = absurd (omega arith)
chosen groups (r ∷ rs) [] l each = absurd (omega arith)
chosen groups (r ∷ rs) (d ∷ ds) l each =
    let here : Choice (groups 0) r d = each 0 (omega arith) in
    let rest : Chosen (λ k. groups (suc k)) rs ds = chosen (λ k. groups (suc k)) rs ds (omega arith) (λ k h. each (suc k) (omega arith)) in
    record {
      ks = here.k ∷ rest.ks;
      ms = here.m ∷ rest.ms;
      source = (here.chosen.source, rest.source);
      sink = (here.chosen.sink, rest.sink);
      stand = (here.chosen.stands, rest.stand);
      equal = by here rest;
    }
  where
    by : (here : Choice (groups 0) r d) (rest : Chosen (λ k. groups (suc k)) rs ds) (k : ℕ) → k < length (r ∷ rs) → AreEqualAt (values_at (r ∷ rs) (here.k ∷ rest.ks)) (values_at (r ∷ rs) (here.m ∷ rest.ms)) k (groups k)
    by here rest zero h = here.chosen.equal
    by here rest (suc k) h = rest.equal k (omega arith)

twice : (r : Range) → runs_twice r ≡ true → (r.lo +ℤ pos (unsigned_abs r.step)) ≤ℤ r.hi
twice r h = omega (arith, ints)

twice_at : (rs : List Range) (k : ℕ) → list_all runs_twice rs ≡ true → k < length rs → runs_twice (slice_index_or rs k no_range) ≡ true
twice_at [] k h l = absurd (omega arith)
twice_at (r ∷ rs) zero h l = (and_parts (runs_twice r) (list_all runs_twice rs) h).0
twice_at (r ∷ rs) (suc k) h l = twice_at rs k (and_parts (runs_twice r) (list_all runs_twice rs) h).1 (omega arith)

firm_at : (rs : List Range) (k : ℕ) → AreFirmRanges rs → k < length rs → IsFirmRange (slice_index_or rs k no_range)
firm_at [] k h l = absurd (omega arith)
firm_at (r ∷ rs) zero h l = h.0
firm_at (r ∷ rs) (suc k) h l = firm_at rs k h.1 (omega arith)

both_false : (a b : Bool) → (a || b) ≡ false → (a ≡ false) × (b ≡ false)
both_false true b h = absurd cc
both_false false b h = (refl, h)

-- no coefficient is left
no_inner : (row : List ℤ) → list_any (λ a. not (is_zero a)) row ≡ false → list_all is_zero row ≡ true
no_inner [] h = refl
no_inner (a ∷ row) h =
    let p = both_false (not (is_zero a)) (list_any (λ b. not (is_zero b)) row) h in
    ap (λ (b : Bool). b && list_all is_zero row) (turn (is_zero a) p.0) ∙ no_inner row p.1
  where
    turn : (b : Bool) → not b ≡ false → b ≡ true
    turn true e = refl
    turn false e = absurd cc

none_occurs : (k : ℕ) (cs bs : List ℤ) → length cs ≡ length bs → occurring k cs bs ≡ [] → (list_all is_zero cs ≡ true) × (list_all is_zero bs ≡ true)
none_occurs k [] [] l h = (refl, refl)
none_occurs k [] (b ∷ bs) l h = absurd (omega arith)
none_occurs k (a ∷ cs) [] l h = absurd (omega arith)
none_occurs k (a ∷ cs) (b ∷ bs) l h = go (is_zero a && is_zero b) refl (none_occurs (suc k) cs bs (omega arith)) h
  where
    go : (t : Bool) → (is_zero a && is_zero b) ≡ t → (occurring (suc k) cs bs ≡ [] → (list_all is_zero cs ≡ true) × (list_all is_zero bs ≡ true))
        → (if t then occurring (suc k) cs bs else (record { place = k; at_source = a; at_sink = b }) ∷ occurring (suc k) cs bs) ≡ [] → (list_all is_zero (a ∷ cs) ≡ true) × (list_all is_zero (b ∷ bs) ≡ true)
    go true e more q =
        let p = and_parts (is_zero a) (is_zero b) e in
        let w = more q in
        (ap (λ (x : Bool). x && list_all is_zero cs) p.0 ∙ w.0, ap (λ (x : Bool). x && list_all is_zero bs) p.1 ∙ w.1)
    go false e more q = absurd cc

-- the sums of coefficients times values where the index of one loop occurs
record Single (cs bs is js : List ℤ) (k : ℕ) (o : Occurrence) : Type 0 where
  at : ℕ
  place : o.place ≡ k + at
  below : at < length cs
  source : dot cs is ≡ o.at_source *ℤ slice_index_or is at (pos 0)
  sink : dot bs js ≡ o.at_sink *ℤ slice_index_or js at (pos 0)

dot_zero : (a : ℤ) (cs : List ℤ) (i : ℤ) (is : List ℤ) (n : ℤ) → is_zero a ≡ true → dot cs is ≡ n → dot (a ∷ cs) (i ∷ is) ≡ n
dot_zero a cs i is n z h =
    let w = dot_none (a ∷ []) (i ∷ []) (ap (λ (x : Bool). x && true) z) in
    omega (arith, linear)

single : (k : ℕ) (cs bs is js : List ℤ) (o : Occurrence) → length cs ≡ length is → length bs ≡ length js → length cs ≡ length bs → occurring k cs bs ≡ o ∷ [] → Single cs bs is js k o
single k [] bs is js o l m n q = absurd cc
single k (a ∷ cs) [] is js o l m n q = absurd cc
single k (a ∷ cs) (b ∷ bs) [] js o l m n q = absurd (omega arith)
single k (a ∷ cs) (b ∷ bs) (i ∷ is) [] o l m n q = absurd (omega arith)
single k (a ∷ cs) (b ∷ bs) (i ∷ is) (j ∷ js) o l m n q =
    go (is_zero a && is_zero b) refl (single (suc k) cs bs is js o (omega arith) (omega arith) (omega arith)) q
  where
    go : (t : Bool) → (is_zero a && is_zero b) ≡ t → (occurring (suc k) cs bs ≡ o ∷ [] → Single cs bs is js (suc k) o)
        → (if t then occurring (suc k) cs bs else (record { place = k; at_source = a; at_sink = b }) ∷ occurring (suc k) cs bs) ≡ o ∷ [] → Single (a ∷ cs) (b ∷ bs) (i ∷ is) (j ∷ js) k o
    go true e more w =
        let p = and_parts (is_zero a) (is_zero b) e in
        let s = more w in
        let x = s.place in
        let y = s.below in
        record {
          at = suc s.at;
          place = omega arith;
          below = omega arith;
          source = dot_zero a cs i is (o.at_source *ℤ slice_index_or is s.at (pos 0)) p.0 s.source;
          sink = dot_zero b bs j js (o.at_sink *ℤ slice_index_or js s.at (pos 0)) p.1 s.sink;
        }
    go false e more w =
        let f : (record { place = k; at_source = a; at_sink = b }) ≡ o = cc in
        let g : occurring (suc k) cs bs ≡ [] = cc in
        let none = none_occurs (suc k) cs bs (omega arith) g in
        let x = dot_none cs is none.0 in
        let y = dot_none bs js none.1 in
        subst (λ (z : Occurrence). Single (a ∷ cs) (b ∷ bs) (i ∷ is) (j ∷ js) k z) f
        (record { at = 0; place = omega arith; below = omega arith; source = omega (arith, linear); sink = omega (arith, linear) })

same_number : (x y : ℤ) → ¬ ¬ (x ≡ y) → x ≡ y
same_number x y h = elim (same_or_not x y) [ inl e ↦ e | inr f ↦ absurd (h f) ]

values_length : (rs : List Range) (ks : List ℕ) → AreShort rs ks → length (values_at rs ks) ≡ length rs
values_length (r ∷ rs) (k ∷ ks) h = ap suc (values_length rs ks h.1)
values_length [] [] h = refl
values_length [] (k ∷ ks) h = absurd h
values_length (r ∷ rs) [] h = absurd h

-- an iteration of each loop
anywhere : (rs : List Range) → AreFirmRanges rs → list_all runs_twice rs ≡ true → (ks : List ℕ) × AreShort rs ks
anywhere [] h many = ([], tt)
anywhere (r ∷ rs) h many =
    let p = and_parts (runs_twice r) (list_all runs_twice rs) many in
    let first = chosen_freely r Same h.0.step (twice r p.0) in
    let rest = anywhere rs h.1 p.1 in
    (first.k ∷ rest.0, (first.chosen.source, rest.1))

-- iterations of the loops round both sides, by their numbers, which stand in the directions of a vector and make both subscripts of each position equal
pub record Choices (v : View) (vector : List Direction) : Type 0 where
  pub ks : List ℕ
  pub ms : List ℕ
  pub source_further : List ℕ
  pub sink_further : List ℕ
  pub source : AreShort v.loops ks
  pub sink : AreShort v.loops ms
  pub source_inner : AreShort v.source_inner source_further
  pub sink_inner : AreShort v.sink_inner sink_further
  pub stand : NumbersStand vector ks ms
  pub solved : AllByRecursion (λ p. difference p (record { source = values_at v.loops ks; sink = values_at v.loops ms; source_inner = values_at v.source_inner source_further; sink_inner = values_at v.sink_inner sink_further }) ≡ pos 0) v.positions

module _ (v : View) (vector : List Direction) (long : length vector ≡ length v.loops)
    (loops : AreFirmRanges v.loops) (source_inner : AreFirmRanges v.source_inner) (sink_inner : AreFirmRanges v.sink_inner)
    (loops_twice : list_all runs_twice v.loops ≡ true) (source_twice : list_all runs_twice v.source_inner ≡ true) (sink_twice : list_all runs_twice v.sink_inner ≡ true)
    (fits : AllByRecursion (FitsLoops (length v.loops) (length v.source_inner) (length v.sink_inner)) v.positions)
    (exact : is_exact v ≡ true) (possible : IsPossible v vector) where
  abbrev Fits : SubscriptPair → Type 0
  Fits = FitsLoops (length v.loops) (length v.source_inner) (length v.sink_inner)

  -- each loop can be chosen alone
  choice : (k : ℕ) → k < length v.loops → Choice (group_of k v.positions) (loop_at v k) (direction_at vector k)
  choice k h = by (group_of k v.positions) refl
    where
      firm : IsFirmRange (loop_at v k)
      firm = firm_at v.loops k loops h

      many : ((loop_at v k).lo +ℤ pos (unsigned_abs (loop_at v k).step)) ≤ℤ (loop_at v k).hi
      many = twice (loop_at v k) (twice_at v.loops k loops_twice h)

      by : (rows : List StrongRow) → group_of k v.positions ≡ rows → Choice (group_of k v.positions) (loop_at v k) (direction_at vector k)
      by [] e = subst (λ (rows : List StrongRow). Choice rows (loop_at v k) (direction_at vector k)) (sym e) (chosen_freely (loop_at v k) (direction_at vector k) firm.step many)
      by (row ∷ rows) e =
          let meets = group_meets v vector k v.positions row rows possible e in
          subst (λ (rows : List StrongRow). Choice rows (loop_at v k) (direction_at vector k)) (sym e)
          (chosen_by_rows row rows (loop_at v k) (direction_at vector k) meets.0 firm.step firm.steady
          (λ never. meets.1 (subst (λ (rows : List StrongRow). NeverMeetTogether rows (loop_at v k) (direction_at vector k)) (sym e) never)))

  common : Chosen (λ k. group_of k v.positions) v.loops vector
  common = chosen (λ k. group_of k v.positions) v.loops vector long choice

  from : (ks : List ℕ) × AreShort v.source_inner ks
  from = anywhere v.source_inner source_inner source_twice

  to : (ks : List ℕ) × AreShort v.sink_inner ks
  to = anywhere v.sink_inner sink_inner sink_twice

  abbrev is : List ℤ
  is = values_at v.loops common.ks

  abbrev js : List ℤ
  js = values_at v.loops common.ms

  abbrev at : Indices
  at = record { source = is; sink = js; source_inner = values_at v.source_inner from.0; sink_inner = values_at v.sink_inner to.0 }

  module _ (p : SubscriptPair) (fit : Fits p) (usable : p.usable ≡ true) where
    inner_zero : has_inner p ≡ false → (dot p.source.inner at.source_inner ≡ pos 0) × (dot p.sink.inner at.sink_inner ≡ pos 0)
    inner_zero e =
        let q = both_false (list_any (λ a. not (is_zero a)) p.source.inner) (list_any (λ a. not (is_zero a)) p.sink.inner) e in
        (dot_none p.source.inner at.source_inner (no_inner p.source.inner q.0), dot_none p.sink.inner at.sink_inner (no_inner p.sink.inner q.1))

    ziv_solved : IsZiv p → ¬ (Excludes v p vector) → difference p at ≡ pos 0
    ziv_solved z left =
        let same = same_number p.source.constant p.sink.constant (λ n. left (usable, subst (λ (f : Form). FormExcludes f v p vector) (sym z.form) n)) in
        let none = none_occurs 0 p.source.common p.sink.common (fit.source_common ∙ sym fit.sink_common) z.none in
        let a = dot_none p.source.common is none.0 in
        let b = dot_none p.sink.common js none.1 in
        let w = inner_zero z.inner in
        let x = w.0 in
        let y = w.1 in
        omega (arith, linear)

    strong_solved : IsStrong p → ((k : ℕ) → k < length v.loops → AreEqualAt is js k (rows_in k (form_of p) p)) → difference p at ≡ pos 0
    strong_solved s rows =
        let one = single 0 p.source.common p.sink.common is js s.loop (fit.source_common ∙ sym (values_length v.loops common.ks common.source)) (fit.sink_common ∙ sym (values_length v.loops common.ms common.sink)) (fit.source_common ∙ sym fit.sink_common) s.one in
        let b = one.below in
        let l = fit.source_common in
        let place : one.at ≡ s.loop.place = (let e = one.place in omega arith) in
        let below : s.loop.place < length v.loops = (let e = one.place in omega arith) in
        let equal = own_row (IsEqualRow (slice_index_or is s.loop.place (pos 0)) (slice_index_or js s.loop.place (pos 0))) p s usable (rows s.loop.place below) in
        let i = one.source ∙ ap (λ (k : ℕ). s.loop.at_source *ℤ slice_index_or is k (pos 0)) place in
        let j = one.sink ∙ (λ n. sym s.same n *ℤ slice_index_or js (place n) (pos 0)) in
        let w = inner_zero s.inner in
        let x = w.0 in
        let y = w.1 in
        omega (arith, linear)

  all_solved : (ps : List SubscriptPair) → AllByRecursion Fits ps → list_all is_exact_position ps ≡ true → AllByRecursion (λ p. ¬ (Excludes v p vector)) ps
      → ((k : ℕ) → k < length v.loops → AreEqualAt is js k (group_of k ps)) → AllByRecursion (λ p. difference p at ≡ pos 0) ps
  all_solved [] f e n rows = tt
  all_solved (p ∷ ps) f e n rows =
      let parts = and_parts (is_exact_position p) (list_all is_exact_position ps) e in
      let own = and_parts p.usable (is_exact_form (form_of p)) parts.0 in
      let split = λ (k : ℕ) (h : k < length v.loops). rows_of_group (IsEqualRow (slice_index_or is k (pos 0)) (slice_index_or js k (pos 0))) k p ps (rows k h) in (
        elim (exact_form p own.1) [ inl z ↦ ziv_solved p f.0 own.0 z n.0 | inr s ↦ strong_solved p f.0 own.0 s (λ k h. (split k h).0) ],
        all_solved ps f.1 parts.1 n.1 (λ k h. (split k h).1),
      )

  -- a vector that exact tests leave has iterations of all loops in which the subscripts of every position are equal
  pub choices : Choices v vector
  choices = record {
    ks = common.ks;
    ms = common.ms;
    source_further = from.0;
    sink_further = to.0;
    source = common.source;
    sink = common.sink;
    source_inner = from.1;
    sink_inner = to.1;
    stand = common.stand;
    solved = all_solved v.positions fits exact possible common.equal;
  }
