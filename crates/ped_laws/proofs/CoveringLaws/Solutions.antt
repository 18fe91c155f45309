-- Values that make both subscripts of a position equal.
use Rattle.std.proofs.Common.{◌≡◌, ℕ, suc, ◌+◌, List, [], ◌∷◌, ◌++◌, length, All, Bool, true, false, not, ◌&&◌, ◌||◌, ◌==◌, refl, sym, ap, ◌∙◌, subst, arith, inl, inr, ℤ, pos, negsuc, neg_ℤ, ◌+ℤ◌, ◌*ℤ◌, int_eq, slice_index_or, if◌then◌else◌}
use Rattle.std.specs.List.{list_any, list_all, AllByRecursion}
use Rattle.std.proofs.lemmas.Bool.{and_parts, eqb-true}
use Rattle.std.proofs.lemmas.Bool.Decides.{Decides-int_eq}
use Rattle.ped_graph.specs.ped_views.specs.declared.directions.Direction.{Direction}
use Rattle.ped_graph.specs.ped_views.specs.declared.directions.Direction.TheVariants.{Before, Same, After}
use Rattle.ped_graph.specs.ped_views.specs.declared.strong_rows.StrongRow.{StrongRow}
use Rattle.ped_graph.specs.ped_views.specs.Whole.{is_zero}
use Rattle.ped_graph.specs.ped_views.specs.Views.{Range, range, SubscriptPair, View}
use Rattle.ped_graph.specs.ped_views.specs.Forms.{Form, ziv, strong_siv, weak_zero_siv, weak_crossing_siv, other_form, Occurrence, occurring, occurrences, has_inner, single_form, common_form, form_of}
use Rattle.ped_graph.specs.ped_views.specs.Excluded.{Stands, Meets, rows_in, group_of, Indices, dot, difference, HasIndices, SharesIndices, CommonInRange, InnerInRange, IsPoint, loop_at, direction_at, FormExcludes, Excludes}
use Rattle.ped_graph.specs.ped_views.specs.Limits.{FitsLoops, IsView}
use Rattle.ped_graph.specs.ped_views.specs.Vectors.{IsPossible}
use Rattle.ped_graph.specs.ped_views.proofs.Products.{linear}
use Rattle.ped_laws.specs.Covering.Together.{AreValues, CommonValues, ValuesInRange, StandTogether, IsSolvedBy}
use Rattle.ped_laws.proofs.CoveringLaws.Weighing.{dot_none}

same_values : (r : Range) (i j : ℤ) → Stands r Same i j → i ≡ j
same_values r i j h = go r.step h
  where
    go : (step : ℤ) → Stands (range (pos 0) (pos 0) step false) Same i j → i ≡ j
    go (pos n) e = e
    go (negsuc n) e = e

shares : (rs : List Range) (ds : List Direction) (is js : List ℤ) → CommonValues rs ds is js → SharesIndices ds is js
shares (r ∷ rs) (Same ∷ ds) (i ∷ is) (j ∷ js) h = (same_values r i j h.0.stands, shares rs ds is js h.1)
shares (r ∷ rs) (Before ∷ ds) (i ∷ is) (j ∷ js) h = shares rs ds is js h.1
shares (r ∷ rs) (After ∷ ds) (i ∷ is) (j ∷ js) h = shares rs ds is js h.1
shares [] [] [] [] h = tt
shares [] (d ∷ ds) is js h = absurd h
shares [] [] (i ∷ is) js h = absurd h
shares [] [] [] (j ∷ js) h = absurd h
shares (r ∷ rs) [] is js h = absurd h
shares (r ∷ rs) (d ∷ ds) [] js h = absurd h
shares (r ∷ rs) (d ∷ ds) (i ∷ is) [] h = absurd h

lengths : (rs : List Range) (ds : List Direction) (is js : List ℤ) → CommonValues rs ds is js → (length is ≡ length rs) × (length js ≡ length rs)
lengths (r ∷ rs) (d ∷ ds) (i ∷ is) (j ∷ js) h = let k = lengths rs ds is js h.1 in (ap suc k.0, ap suc k.1)
lengths [] [] [] [] h = (refl, refl)
lengths [] (d ∷ ds) is js h = absurd h
lengths [] [] (i ∷ is) js h = absurd h
lengths [] [] [] (j ∷ js) h = absurd h
lengths (r ∷ rs) [] is js h = absurd h
lengths (r ∷ rs) (d ∷ ds) [] js h = absurd h
lengths (r ∷ rs) (d ∷ ds) (i ∷ is) [] h = absurd h

inner_length : (rs : List Range) (is : List ℤ) → ValuesInRange rs is → length is ≡ length rs
inner_length (r ∷ rs) (i ∷ is) h = ap suc (inner_length rs is h.1)
inner_length [] [] h = refl
inner_length [] (i ∷ is) h = absurd h
inner_length (r ∷ rs) [] h = absurd h

inner_in : (rs : List Range) (row is : List ℤ) → ValuesInRange rs is → InnerInRange rs row is
inner_in (r ∷ rs) (a ∷ row) (i ∷ is) h = (inr h.0, inner_in rs row is h.1)
inner_in (r ∷ rs) (a ∷ row) [] h = absurd h
inner_in (r ∷ rs) [] is h = tt
inner_in [] row is h = tt

common_in : (rs : List Range) (ds : List Direction) (cs bs is js : List ℤ) → CommonValues rs ds is js → CommonInRange rs ds cs bs is js
common_in (r ∷ rs) (d ∷ ds) (a ∷ cs) (b ∷ bs) (i ∷ is) (j ∷ js) h = (inr (h.0.source, h.0.sink, h.0.stands), common_in rs ds cs bs is js h.1)
common_in [] ds cs bs is js h = tt
common_in (r ∷ rs) [] cs bs is js h = absurd h
common_in (r ∷ rs) (d ∷ ds) cs bs [] js h = absurd h
common_in (r ∷ rs) (d ∷ ds) cs bs (i ∷ is) [] h = absurd h
common_in (r ∷ rs) (d ∷ ds) [] bs (i ∷ is) (j ∷ js) h = tt
common_in (r ∷ rs) (d ∷ ds) (a ∷ cs) [] (i ∷ is) (j ∷ js) h = tt

-- no occurrence: all coefficients are 0
both_false : (a b : Bool) → (a || b) ≡ false → (a ≡ false) × (b ≡ false)
both_false true b h = absurd cc
both_false false b h = (refl, h)

no_inner : (row : List ℤ) → list_any (λ a. not (is_zero a)) row ≡ false → list_all is_zero row ≡ true
no_inner [] h = refl
no_inner (a ∷ row) h =
    let p = both_false (not (is_zero a)) (list_any (λ b. not (is_zero b)) row) h in
    ap (λ (b : Bool). b && list_all is_zero row) (turn (is_zero a) p.0) ∙ no_inner row p.1
  where
    turn : (b : Bool) → not b ≡ false → b ≡ true
    turn true e = refl
    turn false e = absurd cc

none_occurs : (k : ℕ) (cs bs : List ℤ) → length cs ≡ length bs → occurring k cs bs ≡ [] → (list_all is_zero cs ≡ true) × (list_all is_zero bs ≡ true)
none_occurs k [] [] l h = (refl, refl)
none_occurs k [] (b ∷ bs) l h = absurd (omega arith)
none_occurs k (a ∷ cs) [] l h = absurd (omega arith)
none_occurs k (a ∷ cs) (b ∷ bs) l h = go (is_zero a && is_zero b) refl (none_occurs (suc k) cs bs (omega arith)) h
  where
    go : (t : Bool) → (is_zero a && is_zero b) ≡ t → (occurring (suc k) cs bs ≡ [] → (list_all is_zero cs ≡ true) × (list_all is_zero bs ≡ true))
        → (if t then occurring (suc k) cs bs else (record { place = k; at_source = a; at_sink = b }) ∷ occurring (suc k) cs bs) ≡ [] → (list_all is_zero (a ∷ cs) ≡ true) × (list_all is_zero (b ∷ bs) ≡ true)
    go true e more q =
        let p = and_parts (is_zero a) (is_zero b) e in
        let w = more q in
        (ap (λ (x : Bool). x && list_all is_zero cs) p.0 ∙ w.0, ap (λ (x : Bool). x && list_all is_zero bs) p.1 ∙ w.1)
    go false e more q = absurd cc

-- the values of the one loop whose index occurs
record Single (rs : List Range) (ds : List Direction) (cs bs is js : List ℤ) (k : ℕ) (o : Occurrence) : Type 0 where
  at : ℕ
  i : ℤ
  j : ℤ
  place : o.place ≡ k + at
  source_at : i ≡ slice_index_or is at (pos 0)
  sink_at : j ≡ slice_index_or js at (pos 0)
  source : dot cs is ≡ o.at_source *ℤ i
  sink : dot bs js ≡ o.at_sink *ℤ j
  values : AreValues (slice_index_or rs at (range (pos 0) (pos 0) (pos 1) false)) (slice_index_or ds at Same) i j

dot_zero : (a : ℤ) (cs : List ℤ) (i : ℤ) (is : List ℤ) (n : ℤ) → is_zero a ≡ true → dot cs is ≡ n → dot (a ∷ cs) (i ∷ is) ≡ n
dot_zero a cs i is n z h =
    let w = dot_none (a ∷ []) (i ∷ []) (ap (λ (x : Bool). x && true) z) in
    omega (arith, linear)

first_of : (x y : Occurrence) (xs : List Occurrence) → x ∷ xs ≡ y ∷ [] → (x ≡ y) × (xs ≡ [])
first_of x y xs h = (cc, cc)

single : (k : ℕ) (rs : List Range) (ds : List Direction) (cs bs is js : List ℤ) (o : Occurrence) → CommonValues rs ds is js → length cs ≡ length rs → length bs ≡ length rs → occurring k cs bs ≡ o ∷ [] → Single rs ds cs bs is js k o
single k rs ds [] bs is js o h l m q = absurd cc
single k rs ds (a ∷ cs) [] is js o h l m q = absurd cc
single k [] ds (a ∷ cs) (b ∷ bs) is js o h l m q = absurd (omega arith)
single k (r ∷ rs) [] (a ∷ cs) (b ∷ bs) is js o h l m q = absurd h
single k (r ∷ rs) (d ∷ ds) (a ∷ cs) (b ∷ bs) [] js o h l m q = absurd h
single k (r ∷ rs) (d ∷ ds) (a ∷ cs) (b ∷ bs) (i ∷ is) [] o h l m q = absurd h
single k (r ∷ rs) (d ∷ ds) (a ∷ cs) (b ∷ bs) (i ∷ is) (j ∷ js) o h l m q =
    go (is_zero a && is_zero b) refl (single (suc k) rs ds cs bs is js o h.1 (omega arith) (omega arith)) q
  where
    go : (t : Bool) → (is_zero a && is_zero b) ≡ t → (occurring (suc k) cs bs ≡ o ∷ [] → Single rs ds cs bs is js (suc k) o)
        → (if t then occurring (suc k) cs bs else (record { place = k; at_source = a; at_sink = b }) ∷ occurring (suc k) cs bs) ≡ o ∷ [] → Single (r ∷ rs) (d ∷ ds) (a ∷ cs) (b ∷ bs) (i ∷ is) (j ∷ js) k o
    go true e more w =
        let p = and_parts (is_zero a) (is_zero b) e in
        let s = more w in
        record {
          at = suc s.at;
          i = s.i;
          j = s.j;
          place = s.place ∙ omega arith;
          source_at = s.source_at;
          sink_at = s.sink_at;
          source = dot_zero a cs i is (o.at_source *ℤ s.i) p.0 s.source;
          sink = dot_zero b bs j js (o.at_sink *ℤ s.j) p.1 s.sink;
          values = s.values;
        }
    go false e more w =
        let f = first_of (record { place = k; at_source = a; at_sink = b }) o (occurring (suc k) cs bs) w in
        let none = none_occurs (suc k) cs bs (omega arith) f.1 in
        let x = dot_none cs is none.0 in
        let y = dot_none bs js none.1 in
        subst (λ (z : Occurrence). Single (r ∷ rs) (d ∷ ds) (a ∷ cs) (b ∷ bs) (i ∷ is) (j ∷ js) k z) f.0
        (record {
          at = 0;
          i = i;
          j = j;
          place = omega arith;
          source_at = refl;
          sink_at = refl;
          source = omega (arith, linear);
          sink = omega (arith, linear);
          values = h.0;
        })

behind_zero : (x k : ℕ) → x ≡ 0 + k → k ≡ x
behind_zero x k e = omega arith

-- the source and the sink of a row have equal values
abbrev IsEqual : ℤ → ℤ → StrongRow → Type 0
IsEqual i j s = s.a *ℤ i +ℤ s.c1 ≡ s.a *ℤ j +ℤ s.c2

-- the value of the loop at a place
abbrev value_at : List ℤ → ℕ → ℤ
value_at is k = slice_index_or is k (pos 0)

-- at these values all rows of each group are equal
abbrev AreEqual : View → Indices → Type 0
AreEqual v at = (k : ℕ) → AllByRecursion (IsEqual (value_at at.source k) (value_at at.sink k)) (group_of k v.positions)

module _ (v : View) (p : SubscriptPair) (vector : List Direction) (at : Indices) (fits : FitsLoops (length v.loops) (length v.source_inner) (length v.sink_inner) p) (together : StandTogether v vector at) (equal : difference p at ≡ pos 0) where
  indices : HasIndices p at
  indices =
      let l = lengths v.loops vector at.source at.sink together.common in
      record {
        source = l.0 ∙ sym fits.source_common;
        sink = l.1 ∙ sym fits.sink_common;
        source_inner = inner_length v.source_inner at.source_inner together.source_inner ∙ sym fits.source_inner;
        sink_inner = inner_length v.sink_inner at.sink_inner together.sink_inner ∙ sym fits.sink_inner;
      }

  point : IsPoint v p vector at
  point = record {
    indices = indices;
    common = common_in v.loops vector p.source.common p.sink.common at.source at.sink together.common;
    source_inner = inner_in v.source_inner p.source.inner at.source_inner together.source_inner;
    sink_inner = inner_in v.sink_inner p.sink.inner at.sink_inner together.sink_inner;
  }

  not_other : FormExcludes other_form v p vector → ⊥
  not_other (inl none) = none at indices (shares v.loops vector at.source at.sink together.common) equal
  not_other (inr beyond) = beyond at at point point (omega (arith, linear)) (omega (arith, linear))

  module _ (inner : has_inner p ≡ false) where
    inner_zero : (dot p.source.inner at.source_inner ≡ pos 0) × (dot p.sink.inner at.sink_inner ≡ pos 0)
    inner_zero =
        let q = both_false (list_any (λ a. not (is_zero a)) p.source.inner) (list_any (λ a. not (is_zero a)) p.sink.inner) inner in
        (dot_none p.source.inner at.source_inner (no_inner p.source.inner q.0), dot_none p.sink.inner at.sink_inner (no_inner p.sink.inner q.1))

    not_ziv : occurrences p ≡ [] → FormExcludes ziv v p vector → ⊥
    not_ziv e differ =
        let none = none_occurs 0 p.source.common p.sink.common (fits.source_common ∙ sym fits.sink_common) e in
        let a = dot_none p.source.common at.source none.0 in
        let b = dot_none p.sink.common at.sink none.1 in
        let z = inner_zero in
        let x = z.0 in
        let y = z.1 in
        differ (omega (arith, linear))

    module _ (o : Occurrence) (one : occurrences p ≡ o ∷ []) where
      s : Single v.loops vector p.source.common p.sink.common at.source at.sink 0 o
      s = single 0 v.loops vector p.source.common p.sink.common at.source at.sink o together.common fits.source_common fits.sink_common one

      source_at : s.i ≡ value_at at.source o.place
      source_at = s.source_at ∙ ap (value_at at.source) (behind_zero o.place s.at s.place)

      sink_at : s.j ≡ value_at at.sink o.place
      sink_at = s.sink_at ∙ ap (value_at at.sink) (behind_zero o.place s.at s.place)

      values : AreValues (loop_at v o.place) (direction_at vector o.place) s.i s.j
      values = subst (λ (k : ℕ). AreValues (loop_at v k) (direction_at vector k) s.i s.j) (behind_zero o.place s.at s.place) s.values

      meets : Meets o.at_source o.at_sink p.source.constant p.sink.constant (loop_at v o.place) (direction_at vector o.place) s.i s.j
      meets =
          let z = inner_zero in
          let x = z.0 in
          let y = z.1 in
          let a = s.source in
          let b = s.sink in
          record { source = values.source; sink = values.sink; stands = values.stands; equal = omega (arith, linear) }

      -- the row of a position that is strong SIV at the values of its loop
      own_equal : o.at_source ≡ o.at_sink → IsEqual (value_at at.source o.place) (value_at at.sink o.place) (record { a = o.at_source; c1 = p.source.constant; c2 = p.sink.constant })
      own_equal same =
          subst (λ (i : ℤ). o.at_source *ℤ i +ℤ p.source.constant ≡ o.at_source *ℤ value_at at.sink o.place +ℤ p.sink.constant) source_at
          (subst (λ (j : ℤ). o.at_source *ℤ s.i +ℤ p.source.constant ≡ o.at_source *ℤ j +ℤ p.sink.constant) sink_at
          (meets.equal ∙ ap (λ (b : ℤ). b *ℤ s.j +ℤ p.sink.constant) (sym same)))

      rows_equal : (k : ℕ) → AllByRecursion (IsEqual (value_at at.source k) (value_at at.sink k)) (rows_in k (single_form o) p)
      rows_equal k = by (int_eq o.at_source o.at_sink) (is_zero o.at_source || is_zero o.at_sink) (int_eq o.at_source (neg_ℤ o.at_sink)) refl
        where
          placed : (b : Bool) → (p.usable && o.place == k) ≡ b → o.at_source ≡ o.at_sink
              → AllByRecursion (IsEqual (value_at at.source k) (value_at at.sink k)) (if b then (record { a = o.at_source; c1 = p.source.constant; c2 = p.sink.constant }) ∷ [] else [])
          placed false e same = tt
          placed true e same = (
            subst (λ (n : ℕ). IsEqual (value_at at.source n) (value_at at.sink n) (record { a = o.at_source; c1 = p.source.constant; c2 = p.sink.constant })) (eqb-true o.place k (and_parts p.usable (o.place == k) e).1) (own_equal same),
            tt,
          )

          by : (b c d : Bool) → int_eq o.at_source o.at_sink ≡ b → AllByRecursion (IsEqual (value_at at.source k) (value_at at.sink k)) (rows_in k (if b then strong_siv o else if c then weak_zero_siv o else if d then weak_crossing_siv o else other_form) p)
          by true c d e = placed (p.usable && o.place == k) refl ((Decides-int_eq o.at_source o.at_sink).0 e)
          by false true d e = tt
          by false false true e = tt
          by false false false e = tt

      strong_values : AreValues (loop_at v o.place) (direction_at vector o.place) (value_at at.source o.place) (value_at at.sink o.place)
      strong_values =
          subst (λ (i : ℤ). AreValues (loop_at v o.place) (direction_at vector o.place) i (value_at at.sink o.place)) source_at
          (subst (λ (j : ℤ). AreValues (loop_at v o.place) (direction_at vector o.place) s.i j) sink_at values)

      not_single : AreEqual v at → (b c d : Bool) → FormExcludes (if b then strong_siv o else if c then weak_zero_siv o else if d then weak_crossing_siv o else other_form) v p vector → ⊥
      not_single groups true c d never =
          let w = strong_values in
          never (value_at at.source o.place) (value_at at.sink o.place) (record { source = w.source; sink = w.sink; stands = w.stands; in_step = w.in_step; equal = groups o.place })
      not_single groups false true d never = never s.i s.j meets
      not_single groups false false true never = never s.i s.j meets
      not_single groups false false false h = not_other h

    not_common : AreEqual v at → (os : List Occurrence) → occurrences p ≡ os → FormExcludes (common_form os) v p vector → ⊥
    not_common groups [] e h = not_ziv e h
    not_common groups (o ∷ []) e h = not_single o e groups (int_eq o.at_source o.at_sink) (is_zero o.at_source || is_zero o.at_sink) (int_eq o.at_source (neg_ℤ o.at_sink)) h
    not_common groups (o ∷ (q ∷ os)) e h = not_other h

    rows_common : (k : ℕ) (os : List Occurrence) → occurrences p ≡ os → AllByRecursion (IsEqual (value_at at.source k) (value_at at.sink k)) (rows_in k (common_form os) p)
    rows_common k [] e = tt
    rows_common k (o ∷ []) e = rows_equal o e k
    rows_common k (o ∷ (q ∷ os)) e = tt

  not_form : AreEqual v at → (b : Bool) → has_inner p ≡ b → FormExcludes (if b then other_form else common_form (occurrences p)) v p vector → ⊥
  not_form groups true e h = not_other h
  not_form groups false e h = not_common e groups (occurrences p) refl h

  rows_form : (k : ℕ) (b : Bool) → has_inner p ≡ b → AllByRecursion (IsEqual (value_at at.source k) (value_at at.sink k)) (rows_in k (if b then other_form else common_form (occurrences p)) p)
  rows_form k true e = tt
  rows_form k false e = rows_common e k (occurrences p) refl

-- a position that isn't usable has no row
none_unusable : (P : StrongRow → Type 0) (k : ℕ) (p : SubscriptPair) (f : Form) → p.usable ≡ false → AllByRecursion P (rows_in k f p)
none_unusable P k p (strong_siv o) e = subst (λ (b : Bool). AllByRecursion P (if b && o.place == k then (record { a = o.at_source; c1 = p.source.constant; c2 = p.sink.constant }) ∷ [] else [])) (sym e) tt
none_unusable P k p ziv e = tt
none_unusable P k p (weak_zero_siv o) e = tt
none_unusable P k p (weak_crossing_siv o) e = tt
none_unusable P k p other_form e = tt

both_parts : (P : StrongRow → Type 0) (xs ys : List StrongRow) → AllByRecursion P xs → AllByRecursion P ys → AllByRecursion P (xs ++ ys)
both_parts P [] ys h k = k
both_parts P (x ∷ xs) ys h k = (h.0, both_parts P xs ys h.1 k)

head_has : {X : Type 0} (P : X → Type 0) (x : X) (xs : List X) → All P (x ∷ xs) → P x
head_has P x xs h = h 0 x (omega arith)

rest_has : {X : Type 0} (P : X → Type 0) (x : X) (xs : List X) → All P (x ∷ xs) → All P xs
rest_has P x xs h = λ k d l. h (suc k) d (omega arith)

-- where these values solve all positions of a view, no position and no group excludes the vector
module _ (v : View) (vector : List Direction) (at : Indices) (fits : All (FitsLoops (length v.loops) (length v.source_inner) (length v.sink_inner)) v.positions) (together : StandTogether v vector at) (solved : All (IsSolvedBy at) v.positions) where
  abbrev Fits : SubscriptPair → Type 0
  Fits = FitsLoops (length v.loops) (length v.source_inner) (length v.sink_inner)

  rows_of : (k : ℕ) (p : SubscriptPair) → Fits p → IsSolvedBy at p → (b : Bool) → p.usable ≡ b → AllByRecursion (IsEqual (value_at at.source k) (value_at at.sink k)) (rows_in k (form_of p) p)
  rows_of k p f q true e = rows_form v p vector at f together (q e) k (has_inner p) refl
  rows_of k p f q false e = none_unusable (IsEqual (value_at at.source k) (value_at at.sink k)) k p (form_of p) e

  groups : AreEqual v at
  groups k = go v.positions fits solved
    where
      go : (ps : List SubscriptPair) → All Fits ps → All (IsSolvedBy at) ps → AllByRecursion (IsEqual (value_at at.source k) (value_at at.sink k)) (group_of k ps)
      go [] f q = tt
      go (p ∷ ps) f q =
          both_parts (IsEqual (value_at at.source k) (value_at at.sink k)) (rows_in k (form_of p) p) (group_of k ps)
          (rows_of k p (head_has Fits p ps f) (head_has (IsSolvedBy at) p ps q) p.usable refl)
          (go ps (rest_has Fits p ps f) (rest_has (IsSolvedBy at) p ps q))

  not_excluded : (p : SubscriptPair) → Fits p → IsSolvedBy at p → ¬ (Excludes v p vector)
  not_excluded p f q h = not_form v p vector at f together (q h.0) groups (has_inner p) refl h.1

  pub none_excludes : IsPossible v vector
  none_excludes = go v.positions fits solved
    where
      go : (ps : List SubscriptPair) → All Fits ps → All (IsSolvedBy at) ps → AllByRecursion (λ p. ¬ (Excludes v p vector)) ps
      go [] f q = tt
      go (p ∷ ps) f q = (not_excluded p (head_has Fits p ps f) (head_has (IsSolvedBy at) p ps q), go ps (rest_has Fits p ps f) (rest_has (IsSolvedBy at) p ps q))

pub possible : (v : View) (vector : List Direction) (at : Indices) → IsView v → StandTogether v vector at → All (IsSolvedBy at) v.positions → IsPossible v vector
possible v vector at view together solved = none_excludes v vector at view.positions together solved
