-- What the tests of the forms answer for a position of a view: `v` is the view as the code reads it.
use Rattle.std.proofs.Common.{◌≡◌, ◌↔◌, ℕ, ◌<◌, ◌≤◌, pos, List, [], length, get_or, slice_get, Bool, false, IsTrue, Option, Some, IfSome, refl, sym, ap, subst, ◌∙◌, arith}
use Rattle.std.proofs.lemmas.Bool.{false≢true}
use Rattle.std.proofs.lemmas.List.{get_or_default}
use Rattle.std.proofs.lemmas.Option.{slice_get_read, slice_get-get_or}
use Rattle.ped_views.specs.declared.directions.Direction.{Direction}
use Rattle.ped_views.specs.declared.directions.Direction.TheVariants.{Before, Same, After}
use Rattle.ped_views.specs.declared.strong_rows.StrongRow.{StrongRow}
use Rattle.ped_views.specs.Views.{Range, range, SubscriptPair, View}
use Rattle.ped_views.specs.Limits.{FitsLoops, IsView}
use Rattle.ped_views.specs.Forms.{Occurrence, Form, ziv, strong_siv, weak_zero_siv, weak_crossing_siv, form_of}
use Rattle.ped_views.specs.Excluded.{NeverMeets, NeverMeetTogether, group_of, FormExcludes, Excludes, loop_at, direction_at}
use Rattle.ped_verdict.specs.Marked.{SingleExcludes, AreAdded, Each, chosen}
use Rattle.ped_verdict.proofs.Added.{added_none, added_as, added_answers, some_same}
use Rattle.ped_verdict.proofs.Grouping.{own_row, group_some}

-- an item that was read
read : {X : Type 0} (items all : List X) (k : ℕ) (x d : X) → items ≡ all → k < length all → x ≡ get_or items k x → x ≡ get_or all k d
read items all k x d e h r = r ∙ ap (λ ys. get_or ys k x) e ∙ get_or_default all k x d h

module _ (v now : View) (shown : v ≡ now) (view : IsView v) (k : ℕ) (p : SubscriptPair) (below : k < length now.positions) (is : p ≡ get_or v.positions k p) where
  pub is_now : p ≡ get_or now.positions k p
  is_now = is ∙ ap (λ (w : View). get_or w.positions k p) shown

  pub is_there : slice_get now.positions k ≡ Some p
  is_there = slice_get_read now.positions (length now.positions) k p refl below is_now

  -- what holds of the position that was read holds of the one at its place
  pub at_place : (P : SubscriptPair → Type 0) → P p → IfSome (slice_get now.positions k) P
  at_place P held = subst (λ (o : Option SubscriptPair). IfSome o P) (sym is_there) held

  pub fits : FitsLoops (length now.loops) (length now.source_inner) (length now.sink_inner) p
  fits = subst (FitsLoops (length now.loops) (length now.source_inner) (length now.sink_inner)) (sym is_now) ((subst IsView shown view).positions k p below)

  -- a position that isn't usable excludes nothing
  pub nothing_excluded : (usable : Bool) → usable ≡ p.usable → usable ≡ false → (row : List Bool) → IfSome (slice_get now.positions k) (λ q. AreAdded (length now.loops) [] (SingleExcludes now q) row row)
  nothing_excluded usable e fails row = at_place (λ q. AreAdded (length now.loops) [] (SingleExcludes now q) row row) (added_none (length now.loops) [] (SingleExcludes now p) row (λ vector l b x. false≢true (sym fails ∙ e ∙ x.excludes.0)))

-- at most six loops
pub few : (v now : View) → v ≡ now → IsView v → length now.loops ≤ 6
few v now shown view = let d = (subst IsView shown view).source_depth in omega arith

-- the group of a usable position has a row
pub group_there : (v : View) (k : ℕ) (p : SubscriptPair) → slice_get v.positions k ≡ Some p → (o : Occurrence) → strong_siv o ≡ form_of p → IsTrue p.usable → (rows : List StrongRow) → rows ≡ group_of o.place v.positions → k < length v.positions → 0 < length rows
group_there v k p there o e usable rows group below =
    let own = ap length (own_row o p usable (sym e)) in
    let same : get_or v.positions k p ≡ p = some_same (sym (slice_get-get_or v.positions k p below) ∙ there) in
    let some = group_some o.place v.positions k p below same (omega arith) in
    let all = ap length group in
    omega arith

-- a usable position excludes as its form does
module _ (v : View) (p : SubscriptPair) (usable : IsTrue p.usable) where
  as_form : (f : Form) → f ≡ form_of p → (vector : List Direction) → FormExcludes f v p vector ↔ Excludes v p vector
  as_form f e vector = (λ h. (usable, subst (λ (g : Form). FormExcludes g v p vector) e h), λ h. subst (λ (g : Form). FormExcludes g v p vector) (sym e) h.1)

  pub ziv_added : ziv ≡ form_of p → (n : ℕ) (none : List Direction) (t : Bool) (old new : List Bool) → n ≡ length v.loops → none ≡ [] → (IsTrue t ↔ ¬ (p.source.constant ≡ p.sink.constant)) → IsTrue t → AreAdded n none Each old new → AreAdded (length v.loops) [] (Excludes v p) old new
  ziv_added e n none t old new en e0 says holds a =
      added_as (length v.loops) [] Each (Excludes v p) old new (λ vector l b. (λ x. (as_form ziv e vector).0 (says.0 holds), λ x. tt))
      (subst (λ (m : ℕ). AreAdded m [] Each old new) en (subst (λ (g : List Direction). AreAdded n g Each old new) e0 a))

  pub ziv_none : ziv ≡ form_of p → (t : Bool) (row : List Bool) → (IsTrue t ↔ ¬ (p.source.constant ≡ p.sink.constant)) → t ≡ false → AreAdded (length v.loops) [] (Excludes v p) row row
  ziv_none e t row says fails = added_none (length v.loops) [] (Excludes v p) row (λ vector l b x. false≢true (sym fails ∙ says.1 ((as_form ziv e vector).1 x)))

  -- the loop and the three answers of the one common index
  module _ (seen : View) (shown : seen ≡ v) (o : Occurrence) (below : o.place < length v.loops) (r : Range) (reads : r ≡ get_or seen.loops o.place r) (n : ℕ) (en : n ≡ length v.loops) (before same after : Bool) (old new : List Bool)
      (a : AreAdded n [] (λ vector. IsTrue (chosen before same after (direction_at vector o.place))) old new) where
    its_loop : r ≡ loop_at v o.place
    its_loop = read seen.loops v.loops o.place r (range (pos 0) (pos 0) (pos 1) false) (ap (λ (w : View). w.loops) shown) below reads

    added : AreAdded (length v.loops) [] (λ vector. IsTrue (chosen before same after (direction_at vector o.place))) old new
    added = subst (λ (m : ℕ). AreAdded m [] (λ vector. IsTrue (chosen before same after (direction_at vector o.place))) old new) en a

    pub strong_added : strong_siv o ≡ form_of p → (rows : List StrongRow) → rows ≡ group_of o.place v.positions → (IsTrue before ↔ NeverMeetTogether rows r Before) → (IsTrue same ↔ NeverMeetTogether rows r Same) → (IsTrue after ↔ NeverMeetTogether rows r After) → AreAdded (length v.loops) [] (Excludes v p) old new
    strong_added e rows group b s t =
        let N : Direction → Type 0 = NeverMeetTogether (group_of o.place v.positions) (loop_at v o.place) in
        let turn : (d : Direction) → NeverMeetTogether rows r d ≡ N d = λ d. ap (λ (xs : List StrongRow). NeverMeetTogether xs r d) group ∙ ap (λ (x : Range). NeverMeetTogether (group_of o.place v.positions) x d) its_loop in
        added_answers (length v.loops) o.place N (Excludes v p) before same after old new
        (subst (λ (X : Type 0). IsTrue before ↔ X) (turn Before) b) (subst (λ (X : Type 0). IsTrue same ↔ X) (turn Same) s) (subst (λ (X : Type 0). IsTrue after ↔ X) (turn After) t)
        (λ vector l. as_form (strong_siv o) e vector) added

    module _ (N : Direction → Type 0) (meets : N ≡ NeverMeets o.at_source o.at_sink p.source.constant p.sink.constant r) (b : IsTrue before ↔ N Before) (s : IsTrue same ↔ N Same) (t : IsTrue after ↔ N After) where
      turned : (d : Direction) → N d ≡ NeverMeets o.at_source o.at_sink p.source.constant p.sink.constant (loop_at v o.place) d
      turned d = ap (λ (M : Direction → Type 0). M d) meets ∙ ap (λ (x : Range). NeverMeets o.at_source o.at_sink p.source.constant p.sink.constant x d) its_loop

      met : (f : Form) → ((vector : List Direction) → NeverMeets o.at_source o.at_sink p.source.constant p.sink.constant (loop_at v o.place) (direction_at vector o.place) ↔ Excludes v p vector) → AreAdded (length v.loops) [] (Excludes v p) old new
      met f says =
          added_answers (length v.loops) o.place (NeverMeets o.at_source o.at_sink p.source.constant p.sink.constant (loop_at v o.place)) (Excludes v p) before same after old new
          (subst (λ (X : Type 0). IsTrue before ↔ X) (turned Before) b) (subst (λ (X : Type 0). IsTrue same ↔ X) (turned Same) s) (subst (λ (X : Type 0). IsTrue after ↔ X) (turned After) t)
          (λ vector l. says vector) added

      pub weak_zero_added : weak_zero_siv o ≡ form_of p → AreAdded (length v.loops) [] (Excludes v p) old new
      weak_zero_added e = met (weak_zero_siv o) (λ vector. as_form (weak_zero_siv o) e vector)

      pub weak_crossing_added : weak_crossing_siv o ≡ form_of p → AreAdded (length v.loops) [] (Excludes v p) old new
      weak_crossing_added e = met (weak_crossing_siv o) (λ vector. as_form (weak_crossing_siv o) e vector)
