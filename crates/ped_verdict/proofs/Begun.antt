-- Once all loops that occur in a position have their directions in a front, it excludes all vectors that begin with the front, or none.
use Rattle.std.proofs.Common.{◌≡◌, ◌⊎◌, ℕ, zero, suc, ◌+◌, ◌<◌, ◌≤◌, ℤ, pos, ◌+ℤ◌, ◌-ℤ◌, ◌*ℤ◌, List, [], ◌∷◌, ◌++◌, length, drop, get_or, Bool, true, false, ◌&&◌, not, IsTrue, refl, sym, ap, subst, ◌∙◌, inl, inr, arith}
use Rattle.std.specs.List.{list_all}
use Rattle.std.proofs.lemmas.Bool.{cases_Bool, cases_lt}
use Rattle.std.proofs.lemmas.Bool.Decides.{Decides-int_eq}
use Rattle.std.proofs.lemmas.List.{append-nil, get_or_append_left}
use Rattle.ped_views.specs.declared.directions.Direction.{Direction}
use Rattle.ped_views.specs.declared.directions.Direction.TheVariants.{Before, Same, After}
use Rattle.ped_views.specs.Whole.{is_zero}
use Rattle.ped_views.specs.Views.{Range, SubscriptPair, View}
use Rattle.ped_views.specs.Forms.{Occurrence, occurring, Form, ziv, strong_siv, weak_zero_siv, weak_crossing_siv, other_form, form_of}
use Rattle.ped_views.specs.Limits.{IsPosition}
use Rattle.ped_views.specs.Excluded.{NeverMeets, NeverMeetTogether, group_of, dot, subscript_value, SharesIndices, HasNoSolution, CommonInRange, IsPoint, IsBeyondExtremes, FormExcludes, Excludes, loop_at, direction_at}
use Rattle.ped_views.proofs.Products.{linear}
use Rattle.ped_verdict.specs.Fronts.{is_done}
use Rattle.ped_verdict.proofs.FormFacts.{both, occurring-none, occurring-some, IsOne, Facts, facts}
use Rattle.ped_verdict.proofs.Points.{nothing}
use Rattle.ped_verdict.proofs.DeadEnds.{point_in_front, beyond_front}

pub not_held : (b : Bool) → not b ≡ true → b ≡ false
not_held true e = absurd (cc)
not_held false e = refl

pub not_failed : (b : Bool) → not b ≡ false → b ≡ true
not_failed true e = refl
not_failed false e = absurd (cc)

-- all coefficients are 0
abbrev pub AllZero : List ℤ → Type 0
AllZero row = IsTrue (list_all is_zero row)

pub zeros : (a b : ℤ) → is_zero a ≡ true → is_zero b ≡ true → (is_zero a && is_zero b) ≡ true
zeros a b x y = ap (λ (z : Bool). z && is_zero b) x ∙ y

dot_none : (row is : List ℤ) → AllZero row → dot row is ≡ pos 0
dot_none [] is z = refl
dot_none (a ∷ row) [] z = refl
dot_none (a ∷ row) (i ∷ is) z =
    let h = both (is_zero a) (list_all is_zero row) z in
    let x = nothing a i h.0 in
    let y = dot_none row is h.1 in
    omega (arith, linear)

-- loops that don't occur stand in any direction
free_range : (loops : List Range) (vector : List Direction) (source sink is js : List ℤ) → AllZero source → AllZero sink → CommonInRange loops vector source sink is js
free_range (r ∷ loops) (d ∷ vector) (a ∷ source) (b ∷ sink) (i ∷ is) (j ∷ js) z y =
    let s = both (is_zero a) (list_all is_zero source) z in
    let t = both (is_zero b) (list_all is_zero sink) y in
    (inl (zeros a b s.0 t.0), free_range loops vector source sink is js s.1 t.1)
free_range (r ∷ loops) [] (a ∷ source) (b ∷ sink) (i ∷ is) (j ∷ js) z y =
    let s = both (is_zero a) (list_all is_zero source) z in
    let t = both (is_zero b) (list_all is_zero sink) y in
    (inl (zeros a b s.0 t.0), free_range loops [] source sink is js s.1 t.1)
free_range loops vector source sink is js z y = tt

longer_range : (loops : List Range) (front rest : List Direction) (source sink is js : List ℤ) → AllZero (drop (length front) source) → AllZero (drop (length front) sink) → CommonInRange loops front source sink is js → CommonInRange loops (front ++ rest) source sink is js
longer_range loops [] rest source sink is js z y h = free_range loops rest source sink is js z y
longer_range (r ∷ loops) (d ∷ front) rest (a ∷ source) (b ∷ sink) (i ∷ is) (j ∷ js) z y h = (h.0, longer_range loops front rest source sink is js z y h.1)
longer_range loops (d ∷ front) rest source sink is js z y h = tt

-- the sink's indices, with those of the source behind the front
abbrev leveled : List Direction → List ℤ → List ℤ → List ℤ
leveled [] is js = is
leveled (d ∷ front) (i ∷ is) (j ∷ js) = j ∷ leveled front is js
leveled (d ∷ front) [] js = js
leveled (d ∷ front) (i ∷ is) [] = []

length-leveled : (front : List Direction) (is js : List ℤ) → length is ≡ length js → length (leveled front is js) ≡ length js
length-leveled [] is js l = l
length-leveled (d ∷ front) (i ∷ is) (j ∷ js) l = ap suc (length-leveled front is js (omega arith))
length-leveled (d ∷ front) [] js l = refl
length-leveled (d ∷ front) (i ∷ is) [] l = refl

dot-leveled : (front : List Direction) (row is js : List ℤ) → AllZero (drop (length front) row) → length is ≡ length js → dot row (leveled front is js) ≡ dot row js
dot-leveled [] row is js z l = dot_none row is z ∙ sym (dot_none row js z)
dot-leveled (d ∷ front) [] is js z l = refl
dot-leveled (d ∷ front) (a ∷ row) (i ∷ is) (j ∷ js) z l = ap (λ (x : ℤ). a *ℤ j +ℤ x) (dot-leveled front row is js z (omega arith))
dot-leveled (d ∷ front) (a ∷ row) [] js z l = refl
dot-leveled (d ∷ front) (a ∷ row) (i ∷ is) [] z l = refl

shares_self : (vector : List Direction) (is : List ℤ) → SharesIndices vector is is
shares_self [] is = tt
shares_self (Same ∷ ds) (i ∷ is) = (refl, shares_self ds is)
shares_self (Before ∷ ds) (i ∷ is) = shares_self ds is
shares_self (After ∷ ds) (i ∷ is) = shares_self ds is
shares_self (Same ∷ ds) [] = tt
shares_self (Before ∷ ds) [] = tt
shares_self (After ∷ ds) [] = tt

shares_front : (front rest : List Direction) (is js : List ℤ) → SharesIndices (front ++ rest) is js → SharesIndices front is js
shares_front [] rest is js h = tt
shares_front (Same ∷ front) rest (i ∷ is) (j ∷ js) h = (h.0, shares_front front rest is js h.1)
shares_front (Before ∷ front) rest (i ∷ is) (j ∷ js) h = shares_front front rest is js h
shares_front (After ∷ front) rest (i ∷ is) (j ∷ js) h = shares_front front rest is js h
shares_front (Same ∷ front) rest [] js h = tt
shares_front (Before ∷ front) rest [] js h = tt
shares_front (After ∷ front) rest [] js h = tt
shares_front (Same ∷ front) rest (i ∷ is) [] h = tt
shares_front (Before ∷ front) rest (i ∷ is) [] h = tt
shares_front (After ∷ front) rest (i ∷ is) [] h = tt

shares_leveled : (front rest : List Direction) (is js : List ℤ) → SharesIndices front is js → SharesIndices (front ++ rest) is (leveled front is js)
shares_leveled [] rest is js h = shares_self rest is
shares_leveled (Same ∷ front) rest (i ∷ is) (j ∷ js) h = (h.0, shares_leveled front rest is js h.1)
shares_leveled (Before ∷ front) rest (i ∷ is) (j ∷ js) h = shares_leveled front rest is js h
shares_leveled (After ∷ front) rest (i ∷ is) (j ∷ js) h = shares_leveled front rest is js h
shares_leveled (Same ∷ front) rest [] js h = tt
shares_leveled (Before ∷ front) rest [] js h = tt
shares_leveled (After ∷ front) rest [] js h = tt
shares_leveled (Same ∷ front) rest (i ∷ is) [] h = tt
shares_leveled (Before ∷ front) rest (i ∷ is) [] h = tt
shares_leveled (After ∷ front) rest (i ∷ is) [] h = tt

-- an index that occurs does so before the place from which on none does
none_occurs : (k : ℕ) (source sink : List ℤ) → AllZero source → AllZero sink → occurring k source sink ≡ []
none_occurs k [] sink z y = refl
none_occurs k (a ∷ source) [] z y = refl
none_occurs k (a ∷ source) (b ∷ sink) z y =
    let s = both (is_zero a) (list_all is_zero source) z in
    let t = both (is_zero b) (list_all is_zero sink) y in
    occurring-none k a b source sink (zeros a b s.0 t.0) ∙ none_occurs (suc k) source sink s.1 t.1

occurs_before : (m k : ℕ) (source sink : List ℤ) → AllZero (drop m source) → AllZero (drop m sink) → (o : Occurrence) (os : List Occurrence) → occurring k source sink ≡ o ∷ os → o.place < k + m
occurs_before zero k source sink z y o os e = let n = none_occurs k source sink z y in absurd (cc)
occurs_before (suc m) k [] sink z y o os e = absurd (cc)
occurs_before (suc m) k (a ∷ source) [] z y o os e = absurd (cc)
occurs_before (suc m) k (a ∷ source) (b ∷ sink) z y o os e =
    elim (cases_Bool (is_zero a && is_zero b)) [
      | inl w ↦ let h = occurs_before m (suc k) source sink z y o os (sym (occurring-none k a b source sink w) ∙ e) in omega arith
      | inr w ↦
          let s = occurring-some k a b source sink w in
          let x : (record { place = k; at_source = a; at_sink = b }) ≡ o = cc in
          let q = ap (λ (c : Occurrence). c.place) x in
          omega arith
    ]

module _ (v : View) (p : SubscriptPair) (front : List Direction) (long : IsPosition p) (done : IsTrue (is_done (length front) p)) where
  at_source : AllZero (drop (length front) p.source.common)
  at_source = (both (list_all is_zero (drop (length front) p.source.common)) (list_all is_zero (drop (length front) p.sink.common)) done).0

  at_sink : AllZero (drop (length front) p.sink.common)
  at_sink = (both (list_all is_zero (drop (length front) p.source.common)) (list_all is_zero (drop (length front) p.sink.common)) done).1

  longer_point : (rest : List Direction) (at : _) → IsPoint v p front at → IsPoint v p (front ++ rest) at
  longer_point rest at q = record {
    indices = q.indices;
    common = longer_range v.loops front rest p.source.common p.sink.common at.source at.sink at_source at_sink q.common;
    source_inner = q.source_inner;
    sink_inner = q.sink_inner;
  }

  module _ (rest other : List Direction) where
    same_beyond : IsBeyondExtremes v p (front ++ rest) → IsBeyondExtremes v p (front ++ other)
    same_beyond h low high a b x y =
        h low high
        (longer_point rest low (point_in_front v p front (front ++ other) (other, refl) low a))
        (longer_point rest high (point_in_front v p front (front ++ other) (other, refl) high b)) x y

    same_solution : HasNoSolution p (front ++ rest) → HasNoSolution p (front ++ other)
    same_solution never at h s e =
        let l : length at.source ≡ length at.sink = h.source ∙ long ∙ sym h.sink in
        let d = dot-leveled front p.sink.common at.source at.sink at_sink l in
        never (record { source = at.source; sink = leveled front at.source at.sink; source_inner = at.source_inner; sink_inner = at.sink_inner })
        (record { source = h.source; sink = length-leveled front at.source at.sink l ∙ h.sink; source_inner = h.source_inner; sink_inner = h.sink_inner })
        (shares_leveled front rest at.source at.sink (shares_front front other at.source at.sink s))
        (ap (λ (x : ℤ). subscript_value p.source at.source at.source_inner -ℤ (x +ℤ dot p.sink.inner at.sink_inner +ℤ p.sink.constant)) d ∙ e)

    same_direction : (o : Occurrence) → IsOne p o → direction_at (front ++ rest) o.place ≡ direction_at (front ++ other) o.place
    same_direction o one =
        let below : o.place < length front = let h = occurs_before (length front) 0 p.source.common p.sink.common at_source at_sink o [] one.one in omega arith in
        get_or_append_left front rest Same o.place below ∙ sym (get_or_append_left front other Same o.place below)

    by_form : (f : Form) → Facts f p → FormExcludes f v p (front ++ rest) → FormExcludes f v p (front ++ other)
    by_form ziv h x = x
    by_form (strong_siv o) h x = subst (λ (d : Direction). NeverMeetTogether (group_of o.place v.positions) (loop_at v o.place) d) (same_direction o h.0) x
    by_form (weak_zero_siv o) h x = subst (λ (d : Direction). NeverMeets o.at_source o.at_sink p.source.constant p.sink.constant (loop_at v o.place) d) (same_direction o h.0) x
    by_form (weak_crossing_siv o) h x = subst (λ (d : Direction). NeverMeets o.at_source o.at_sink p.source.constant p.sink.constant (loop_at v o.place) d) (same_direction o h.0) x
    by_form other_form h (inl s) = inl (same_solution s)
    by_form other_form h (inr b) = inr (same_beyond b)

    pub same_exclusion : Excludes v p (front ++ rest) → Excludes v p (front ++ other)
    same_exclusion x = (x.0, by_form (form_of p) (facts p) x.1)

-- what subscripts in several indices exclude
module _ (v : View) (p : SubscriptPair) (usable : IsTrue p.usable) (form : other_form ≡ form_of p) where
  pub into_excludes : (vector : List Direction) → HasNoSolution p vector ⊎ IsBeyondExtremes v p vector → Excludes v p vector
  into_excludes vector h = (usable, subst (λ (f : Form). FormExcludes f v p vector) form h)

  pub out_of_excludes : (vector : List Direction) → Excludes v p vector → HasNoSolution p vector ⊎ IsBeyondExtremes v p vector
  out_of_excludes vector h = subst (λ (f : Form). FormExcludes f v p vector) (sym form) h.1

  module _ (front : List Direction) where
    pub shut_beyond : IsBeyondExtremes v p front → (rest : List Direction) → Excludes v p (front ++ rest)
    shut_beyond beyond rest = into_excludes (front ++ rest) (inr (beyond_front v p front (front ++ rest) (rest, refl) beyond))

    -- once all loops that occur have their directions, the front tells of all vectors with it
    module _ (long : IsPosition p) (stage : ℕ) (done : IsTrue (is_done stage p)) (at : length front ≡ stage) where
      there : IsTrue (is_done (length front) p)
      there = subst (λ (m : ℕ). IsTrue (is_done m p)) (sym at) done

      pub shut_unsolved : HasNoSolution p front → (rest : List Direction) → Excludes v p (front ++ rest)
      shut_unsolved never rest = same_exclusion v p front long there [] rest (into_excludes (front ++ []) (inl (subst (HasNoSolution p) (sym (append-nil front)) never)))

      pub free_front : ¬ (IsBeyondExtremes v p front) → ¬ (HasNoSolution p front) → (rest : List Direction) → ¬ (Excludes v p (front ++ rest))
      free_front near some rest x =
          elim (out_of_excludes front (subst (Excludes v p) (append-nil front) (same_exclusion v p front long there rest [] x))) [ inl s ↦ some s | inr b ↦ near b ]

-- the loops up to the last that occurs, found one by one: those from m up to n don't occur
abbrev pub ZeroBetween : ℕ → ℕ → List ℤ → Type 0
ZeroBetween m n row = (j : ℕ) → m ≤ j → j < n → get_or row j (pos 0) ≡ pos 0

pub zero_none : (m : ℕ) (row : List ℤ) → ZeroBetween m m row
zero_none m row j from below = absurd (omega arith)

pub zero_more : (m n : ℕ) (row : List ℤ) → ZeroBetween m n row → get_or row n (pos 0) ≡ pos 0 → ZeroBetween m (n + 1) row
zero_more m n row before here j from below = elim (cases_lt j n) [
  | inl less ↦ before j from less
  | inr past ↦ (let e : j ≡ n = omega arith in ap (λ (k : ℕ). get_or row k (pos 0)) e ∙ here)
]

zeros_from : (row : List ℤ) (m : ℕ) → ((j : ℕ) → m ≤ j → j < length row → get_or row j (pos 0) ≡ pos 0) → AllZero (drop m row)
zeros_from [] zero h = refl
zeros_from [] (suc m) h = refl
zeros_from (a ∷ row) zero h =
    let head : is_zero a ≡ true = (Decides-int_eq a (pos 0)).1 (h 0 (omega arith) (omega arith)) in
    ap (λ (x : Bool). x && list_all is_zero row) head ∙ zeros_from row zero (λ j from below. h (suc j) (omega arith) (omega arith))
zeros_from (a ∷ row) (suc m) h = zeros_from row m (λ j from below. h (suc j) (omega arith) (omega arith))

pub zero_done : (p : SubscriptPair) (m n : ℕ) → IsPosition p → length p.source.common ≤ n → ZeroBetween m n p.source.common → ZeroBetween m n p.sink.common → IsTrue (is_done m p)
zero_done p m n long past s t =
    let source = zeros_from p.source.common m (λ j from below. s j from (omega arith)) in
    let sink = zeros_from p.sink.common m (λ j from below. t j from (omega arith)) in
    ap (λ (x : Bool). x && list_all is_zero (drop m p.sink.common)) source ∙ sink
