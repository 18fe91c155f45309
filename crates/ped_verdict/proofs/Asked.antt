-- Which positions are asked about a front of vectors, and what the walk over the fronts finds.
use Rattle.std.proofs.Common.{◌≡◌, ◌⊎◌, ◌↔◌, ℕ, zero, suc, ◌+◌, ◌<◌, ◌≤◌, ℤ, pos, List, [], ◌∷◌, ◌++◌, length, drop, get_or, slice_get, Some, Bool, true, false, ◌&&◌, not, IsTrue, refl, sym, ap, subst, ◌∙◌, inl, inr, arith}
use Rattle.std.specs.List.{All, Any, list_all}
use Rattle.std.proofs.lemmas.Bool.{cases_Bool, cases_lt, false≢true}
use Rattle.std.proofs.lemmas.Bool.Decides.{Decides-int_eq}
use Rattle.std.proofs.lemmas.List.{append_assoc, length-append, length_push, get_or_default, get_or_append_left}
use Rattle.std.proofs.lemmas.List.Elements.{All-from_recursion, All-nil, All-push}
use Rattle.std.proofs.lemmas.List.Quantifiers.{Any-push}
use Rattle.std.proofs.lemmas.Option.{slice_get_within, slice_get-get_or}
use Rattle.ped_views.specs.declared.directions.Direction.{Direction}
use Rattle.ped_views.specs.Whole.{is_zero}
use Rattle.ped_views.specs.Views.{SubscriptPair, View}
use Rattle.ped_views.specs.Forms.{Occurrence, Form, ziv, strong_siv, weak_zero_siv, weak_crossing_siv, other_form, form_of}
use Rattle.ped_views.specs.Limits.{IsPosition, FitsLoops, IsView}
use Rattle.ped_views.specs.Excluded.{HasNoSolution, Excludes}
use Rattle.ped_verdict.specs.declared.sights.Sight.{Sight}
use Rattle.ped_verdict.specs.Fronts.{is_done, occurs_at, is_asked}
use Rattle.ped_verdict.specs.Marked.{SingleExcludes, AreExcluded, AreAdded, Each}
use Rattle.ped_verdict.specs.Sights.{IsSight, IsOther, IsSightIn, AreSights, OtherExcludes, IsShut, IsOpen, Shuts, StaysOpen, IsFree}
use Rattle.ped_verdict.proofs.Added.{added_none, added_as, some_same}
use Rattle.ped_verdict.proofs.Answering.{is_there}
use Rattle.ped_verdict.proofs.FormFacts.{both}
use Rattle.ped_verdict.proofs.Begun.{not_failed, zeros, AllZero, ZeroBetween, zero_none, zero_more, shut_beyond, shut_unsolved, free_front, out_of_excludes}

-- what isn't told doesn't hold
pub not_held_by : (t : Bool) (P : Type 0) → IsTrue t ↔ P → t ≡ false → ¬ P
not_held_by t P h f x = false≢true (sym f ∙ h.1 x)

-- behind the place from which on all coefficients are 0, one is 0
zero_behind : (row : List ℤ) (m k : ℕ) → AllZero (drop m row) → m ≤ k → is_zero (get_or row k (pos 0)) ≡ true
zero_behind [] m k z within = refl
zero_behind (a ∷ row) zero zero z within = (both (is_zero a) (list_all is_zero row) z).0
zero_behind (a ∷ row) zero (suc k) z within = zero_behind row zero k (both (is_zero a) (list_all is_zero row) z).1 (omega arith)
zero_behind (a ∷ row) (suc m) zero z within = absurd (omega arith)
zero_behind (a ∷ row) (suc m) (suc k) z within = zero_behind row m k z (omega arith)

-- with one more that is 0 they are all 0 from a place before
zero_before : (row : List ℤ) (k : ℕ) → is_zero (get_or row k (pos 0)) ≡ true → AllZero (drop (suc k) row) → AllZero (drop k row)
zero_before [] zero z y = refl
zero_before [] (suc k) z y = refl
zero_before (a ∷ row) zero z y = ap (λ (x : Bool). x && list_all is_zero row) z ∙ y
zero_before (a ∷ row) (suc k) z y = zero_before row k z y

module _ (p : SubscriptPair) where
  done_parts : (m : ℕ) → IsTrue (is_done m p) → AllZero (drop m p.source.common) × AllZero (drop m p.sink.common)
  done_parts m done = both (list_all is_zero (drop m p.source.common)) (list_all is_zero (drop m p.sink.common)) done

  zero_parts : (k : ℕ) → occurs_at p k ≡ false → (is_zero (get_or p.source.common k (pos 0)) ≡ true) × (is_zero (get_or p.sink.common k (pos 0)) ≡ true)
  zero_parts k not_so = both (is_zero (get_or p.source.common k (pos 0))) (is_zero (get_or p.sink.common k (pos 0))) (not_failed _ not_so)

  -- a loop that doesn't occur has two coefficients that are 0
  pub absent_source : (k : ℕ) → occurs_at p k ≡ false → get_or p.source.common k (pos 0) ≡ pos 0
  absent_source k not_so = (Decides-int_eq (get_or p.source.common k (pos 0)) (pos 0)).0 (zero_parts k not_so).0

  pub absent_sink : (k : ℕ) → occurs_at p k ≡ false → get_or p.sink.common k (pos 0) ≡ pos 0
  absent_sink k not_so = (Decides-int_eq (get_or p.sink.common k (pos 0)) (pos 0)).0 (zero_parts k not_so).1

  -- no loop after those up to the last that occurs does so
  absent : (m k : ℕ) → IsTrue (is_done m p) → m ≤ k → occurs_at p k ≡ false
  absent m k done within =
      let d = done_parts m done in
      ap not (zeros (get_or p.source.common k (pos 0)) (get_or p.sink.common k (pos 0)) (zero_behind p.source.common m k d.0 within) (zero_behind p.sink.common m k d.1 within))

  pub undone : (m k : ℕ) → occurs_at p k ≡ true → m ≤ k → is_done m p ≡ false
  undone m k some within = elim (cases_Bool (is_done m p)) [
    | inl done ↦ absurd (false≢true (sym (absent m k done within) ∙ some))
    | inr not_done ↦ not_done
  ]

  -- a position is asked about no front that has more directions than its stage
  pub asked_within : (stage n : ℕ) → IsTrue (is_done stage p) → IsTrue (is_asked p n) → n ≤ stage
  asked_within stage zero done asked = omega arith
  asked_within stage (suc k) done asked = elim (cases_lt k stage) [
    | inl less ↦ omega arith
    | inr past ↦ absurd (false≢true (sym (absent stage k done past) ∙ asked))
  ]

  -- at its stage it is asked
  pub asked_there : (stage n : ℕ) → IsTrue (is_done stage p) → ((m : ℕ) → m < stage → is_done m p ≡ false) → n ≡ stage → IsTrue (is_asked p n)
  asked_there stage zero done last e = refl
  asked_there stage (suc k) done last e = elim (cases_Bool (occurs_at p k)) [
    | inl some ↦ some
    | inr not_so ↦
        let z = zero_parts k not_so in
        let d = done_parts (suc k) (subst (λ (m : ℕ). IsTrue (is_done m p)) (sym e) done) in
        let source = zero_before p.source.common k z.0 d.0 in
        let sink = zero_before p.sink.common k z.1 d.1 in
        let h : is_done k p ≡ true = ap (λ (x : Bool). x && list_all is_zero (drop k p.sink.common)) source ∙ sink in
        absurd (false≢true (sym (last k (omega arith)) ∙ h))
  ]

-- the last loop that occurs among the first n
pub record StageSoFar (p : SubscriptPair) (m n : ℕ) : Type 0 where
  pub within : m ≤ n
  pub source : ZeroBetween m n p.source.common
  pub sink : ZeroBetween m n p.sink.common
  pub last : (k : ℕ) → k < m → is_done k p ≡ false

pub stage_none : (p : SubscriptPair) → StageSoFar p 0 0
stage_none p = record { within = omega arith; source = zero_none 0 p.source.common; sink = zero_none 0 p.sink.common; last = λ k below. absurd (omega (arith, below)) }

module _ (p : SubscriptPair) (m n next : ℕ) (h : StageSoFar p m n) (t : Bool) (e : t ≡ occurs_at p n) where
  pub stage_here : t ≡ true → next ≡ n + 1 → StageSoFar p next (n + 1)
  stage_here some is = record {
    within = omega arith;
    source = λ j from below. absurd (omega (arith, from, below, is));
    sink = λ j from below. absurd (omega (arith, from, below, is));
    last = λ k below. undone p k n (sym e ∙ some) (omega (arith, below, is));
  }

  pub stage_kept : t ≡ false → next ≡ m → StageSoFar p next (n + 1)
  stage_kept none is =
      let w = h.within in
      subst (λ (k : ℕ). StageSoFar p k (n + 1)) (sym is)
      (record {
        within = omega arith;
        source = zero_more m n p.source.common h.source (absent_source p n (sym e ∙ none));
        sink = zero_more m n p.sink.common h.sink (absent_sink p n (sym e ∙ none));
        last = h.last;
      })

-- what a sight tells of its position
module _ (v : View) (front : List Direction) (s : Sight) (h : IsSightIn v s) where
  long : IsPosition h.pair
  long = let a = h.fits.source_common in let b = h.fits.sink_common in omega arith

  pub excluded_by : Shuts v front s → (rest : List Direction) → OtherExcludes v (front ++ rest)
  excluded_by x rest =
      let same : x.pair ≡ h.pair = some_same (sym x.there ∙ h.there) in
      record {
        place = s.position;
        pair = h.pair;
        there = h.there;
        form = h.other.1;
        excludes = by (subst (λ (q : SubscriptPair). IsShut v q s.stage front) same x.shut);
      }
    where
      by : IsShut v h.pair s.stage front → Excludes v h.pair (front ++ rest)
      by (inl b) = shut_beyond v h.pair h.other.0 h.other.1 front b rest
      by (inr n) = shut_unsolved v h.pair h.other.0 h.other.1 front long s.stage h.sight.done n.0 n.1 rest

  pub free_at : ¬ (Shuts v front s) → length front ≡ s.stage → IsFree v s front
  free_at not_so at p there rest x =
      let same : p ≡ h.pair = some_same (sym there ∙ h.there) in
      let asked = asked_there h.pair s.stage (length front) h.sight.done h.sight.last at in
      free_front v h.pair h.other.0 h.other.1 front long s.stage h.sight.done at
      (λ b. not_so (record { pair = h.pair; there = h.there; asked = asked; shut = inl b }))
      (λ n. not_so (record { pair = h.pair; there = h.there; asked = asked; shut = inr (at, n) })) rest
      (subst (λ (q : SubscriptPair). Excludes v q (front ++ rest)) same x)

  -- what isn't left open, and excludes nothing with the front once its stage has come, excludes no vector over all loops with it
  pub closed_at : length v.loops ≤ 6 → ¬ (StaysOpen v front s) → (s.stage ≤ length front → IsFree v s front) → (rest : List Direction) → length (front ++ rest) ≡ length v.loops → ¬ (Excludes v h.pair (front ++ rest))
  closed_at few not_so free rest l x = elim (cases_lt (length front) s.stage) [
    | inl less ↦ elim (out_of_excludes v h.pair h.other.0 h.other.1 (front ++ rest) x) [
      | inl n ↦ by less n (cases_Bool s.is_solved)
      | inr b ↦ not_so (record { pair = h.pair; there = h.there; undecided = (less, inr (rest, (let a = length-append front rest in omega (arith, a, l)), b)) })
    ]
    | inr past ↦ free past h.pair h.there rest x
  ]
    where
      by : length front < s.stage → HasNoSolution h.pair (front ++ rest) → (s.is_solved ≡ true) ⊎ (s.is_solved ≡ false) → ⊥
      by less n (inl y) = h.sight.solved y (front ++ rest) (omega (arith, l, few)) n
      by less n (inr f) = not_so (record { pair = h.pair; there = h.there; undecided = (less, inl f) })

  -- what is told of the position that was read is told of the sight's
  module _ (p : SubscriptPair) (same : p ≡ h.pair) where
    pub open_told : (t : Bool) → IsTrue t ↔ IsOpen v p s front → IsTrue t ↔ StaysOpen v front s
    open_told t told = (
      λ x. record { pair = p; there = h.there ∙ ap (λ (q : SubscriptPair). Some q) (sym same); undecided = told.0 x },
      λ x. told.1 (subst (λ (q : SubscriptPair). IsOpen v q s front) (some_same (sym x.there ∙ h.there) ∙ sym same) x.undecided),
    )

    pub read_fits : FitsLoops (length v.loops) (length v.source_inner) (length v.sink_inner) p
    read_fits = subst (FitsLoops (length v.loops) (length v.source_inner) (length v.sink_inner)) (sym same) h.fits

    pub read_sight : IsSight v p s
    read_sight = subst (λ (q : SubscriptPair). IsSight v q s) (sym same) h.sight

  -- the position that was read is the sight's
  pub read_pair : (seen : View) → seen ≡ v → IsView seen → (p : SubscriptPair) → p ≡ get_or seen.positions s.position p → p ≡ h.pair
  read_pair seen shown view p is =
      some_same (sym (is_there seen v shown view s.position p (slice_get_within v.positions s.position h.pair h.there) is) ∙ h.there)

  module _ (p : SubscriptPair) (same : p ≡ h.pair) (asked : Bool) (n : ℕ) (en : n ≡ length front) (ea : asked ≡ is_asked p n) where
    there : slice_get v.positions s.position ≡ Some p
    there = h.there ∙ ap (λ (q : SubscriptPair). Some q) (sym same)

    pub asked_front : asked ≡ true → length front ≤ s.stage
    asked_front t = asked_within h.pair s.stage (length front) h.sight.done (ap (λ (q : SubscriptPair). is_asked q (length front)) (sym same) ∙ (ap (λ (k : ℕ). is_asked p k) (sym en) ∙ (sym ea ∙ t)))

    pub shuts_told : asked ≡ true → (t : Bool) → IsTrue t ↔ IsShut v p s.stage front → IsTrue t ↔ Shuts v front s
    shuts_told is t told = (
      λ x. record { pair = p; there = there; asked = ap (λ (k : ℕ). is_asked p k) (sym en) ∙ (sym ea ∙ is); shut = told.0 x },
      λ x. told.1 (subst (λ (q : SubscriptPair). IsShut v q s.stage front) (some_same (sym x.there ∙ there)) x.shut),
    )

    pub unasked : asked ≡ false → IsTrue false ↔ Shuts v front s
    unasked is = (
      λ x. absurd (false≢true x),
      λ x.
          let q : x.pair ≡ p = some_same (sym x.there ∙ there) in
          absurd (false≢true (sym is ∙ (ea ∙ (ap (λ (k : ℕ). is_asked p k) en ∙ (ap (λ (y : SubscriptPair). is_asked y (length front)) (sym q) ∙ x.asked))))),
    )

-- what excludes no vector with a front excludes none with a longer one
pub free_longer : (v : View) (s : Sight) (front : List Direction) (d : Direction) → IsFree v s front → IsFree v s (front ++ d ∷ [])
free_longer v s front d free p there rest x = free p there (d ∷ rest) (subst (Excludes v p) (append_assoc front (d ∷ []) rest) x)

-- the sights of all positions, at a front
module _ (v : View) (sights : List Sight) (all : AreSights v (length v.positions) sights) (front : List Direction) where
  -- where no position shuts the front, those whose stage it has come to exclude nothing with it
  pub passed_on : ¬ (Any (Shuts v front) sights) → All (λ s. s.stage < length front → IsFree v s front) sights → All (λ s. s.stage ≤ length front → IsFree v s front) sights
  passed_on none passed i d below = λ within.
      elim (cases_lt (get_or sights i d).stage (length front)) [
        | inl less ↦ passed i d below less
        | inr at ↦ free_at v front (get_or sights i d) (all.each i d below) (λ x. none (i, get_or sights i d, below, get_or_default sights i (get_or sights i d) d below, x)) (omega (arith, within, at))
      ]

  pub longer_passed : (longer : List Direction) (d : Direction) → longer ≡ front ++ d ∷ [] → All (λ s. s.stage ≤ length front → IsFree v s front) sights → All (λ s. s.stage < length longer → IsFree v s longer) sights
  longer_passed longer d e h i x below = λ less.
      let l : length longer ≡ length front + 1 = ap length e ∙ length_push front d in
      subst (IsFree v (get_or sights i x)) (sym e) (free_longer v (get_or sights i x) front d (h i x below (omega (arith, less, l))))

  pub shut_marked : (n : ℕ) (old new : List Bool) → n ≡ length v.loops → Any (Shuts v front) sights → AreAdded n front Each old new → AreAdded (length v.loops) front (OtherExcludes v) old new
  shut_marked n old new e a marks =
      added_as (length v.loops) front Each (OtherExcludes v) old new
      (λ vector l (rest, is). (λ x. subst (OtherExcludes v) is (excluded_by v front a.1 (subst (IsSightIn v) a.3 (all.each a.0 a.1 a.2)) a.4 rest), λ x. tt))
      (subst (λ (m : ℕ). AreAdded m front Each old new) e marks)

  -- a front that is left open isn't over all loops
  pub open_within : Any (StaysOpen v front) sights → length front < length v.loops
  open_within o =
      let deep = (subst (IsSightIn v) o.3 (all.each o.0 o.1 o.2)).sight.deep in
      let behind = o.4.undecided.0 in
      omega (arith, deep, behind)

  -- where no position shuts a front or leaves it open, nothing with it is excluded
  module _ (few : length v.loops ≤ 6) (none : ¬ (Any (StaysOpen v front) sights)) (free : All (λ s. s.stage ≤ length front → IsFree v s front) sights) where
    none_left : (rest : List Direction) → length (front ++ rest) ≡ length v.loops → ¬ (OtherExcludes v (front ++ rest))
    none_left rest l x =
        let a = all.all x.place x.pair (slice_get_within v.positions x.place x.pair x.there) x.there (x.excludes.0, x.form) in
        let sight : IsSightIn v a.1 = subst (IsSightIn v) a.3 (all.each a.0 a.1 a.2) in
        let same : x.pair ≡ sight.pair = some_same (sym x.there ∙ (ap (λ (j : ℕ). slice_get v.positions j) (sym a.4) ∙ sight.there)) in
        closed_at v front a.1 sight few (λ o. none (a.0, a.1, a.2, a.3, o)) (subst (λ (s : Sight). s.stage ≤ length front → IsFree v s front) a.3 (free a.0 a.1 a.2)) rest l
        (subst (λ (q : SubscriptPair). Excludes v q (front ++ rest)) same x.excludes)

    pub closed_marked : (row : List Bool) → AreAdded (length v.loops) front (OtherExcludes v) row row
    closed_marked row = added_none (length v.loops) front (OtherExcludes v) row (λ vector l (rest, is) x. none_left rest (ap length is ∙ l) (subst (OtherExcludes v) (sym is) x))

-- none so far is such a sight, and the next isn't
pub none_further : (P : Sight → Type 0) (sights : List Sight) (i : ℕ) (x : Sight) → i < length sights → x ≡ get_or sights i x → ((k : ℕ) (s : Sight) → k < i → get_or sights k s ≡ s → ¬ (P s)) → ¬ (P x) → (k : ℕ) (s : Sight) → k < i + 1 → get_or sights k s ≡ s → ¬ (P s)
none_further P sights i x inside read before here k s below is = elim (cases_lt k i) [
  | inl less ↦ before k s less is
  | inr past ↦
      let e : k ≡ i = omega arith in
      let same : x ≡ s = read ∙ (get_or_default sights i x s inside ∙ (ap (λ (j : ℕ). get_or sights j s) (sym e) ∙ is)) in
      subst (λ (z : Sight). ¬ (P z)) same here
]

-- before any direction no stage is passed
pub passed_none : (v : View) (sights : List Sight) (front : List Direction) → front ≡ [] → All (λ s. s.stage < length front → IsFree v s front) sights
passed_none v sights front e i d below = λ less. (let l = ap length e in absurd (omega (arith, less, l)))

-- no position is seen yet
pub no_sights : (v : View) (sights : List Sight) → sights ≡ [] → AreSights v 0 sights
no_sights v sights e = record {
  each = subst (λ (xs : List Sight). All (IsSightIn v) xs) (sym e) (All-nil (IsSightIn v));
  all = λ j p below at other. absurd (omega (arith, below));
}

-- one position further
module _ (v : View) (k : ℕ) (sights : List Sight) (h : AreSights v k sights) (p : SubscriptPair) (there : slice_get v.positions k ≡ Some p) where
  pub same_sights : ¬ (IsOther p) → AreSights v (k + 1) sights
  same_sights not_so = record {
    each = h.each;
    all = λ j q below at other. elim (cases_lt j k) [
      | inl less ↦ h.all j q less at other
      | inr past ↦
          let e : j ≡ k = omega (arith, below, past) in
          let same : q ≡ p = some_same (sym at ∙ (ap (λ (m : ℕ). slice_get v.positions m) e ∙ there)) in
          absurd (not_so (subst IsOther same other))
    ];
  }

  -- one that isn't usable has no sight
  pub unusable_sights : (usable : Bool) → usable ≡ p.usable → usable ≡ false → AreSights v (k + 1) sights
  unusable_sights usable e fails = same_sights (λ o. false≢true (sym fails ∙ (e ∙ o.0)))

  -- nor has one with subscripts in one index at most
  pub single_sights : (f : Form) → f ≡ form_of p → ¬ (other_form ≡ f) → AreSights v (k + 1) sights
  single_sights f e single = same_sights (λ o. single (o.1 ∙ sym e))

  pub more_sights : (new : List Sight) (s : Sight) → new ≡ sights ++ s ∷ [] → s.position ≡ k → FitsLoops (length v.loops) (length v.source_inner) (length v.sink_inner) p → IsOther p → IsSight v p s → AreSights v (k + 1) new
  more_sights new s e at fits other sight = record {
    each = subst (λ (xs : List Sight). All (IsSightIn v) xs) (sym e) (All-push (IsSightIn v) sights s h.each (record { pair = p; there = ap (λ (j : ℕ). slice_get v.positions j) at ∙ there; fits = fits; other = other; sight = sight }));
    all = λ j q below there_q other_q. elim (cases_lt j k) [
      | inl less ↦
          let a = h.all j q less there_q other_q in
          let l = length_push sights s in
          subst (λ (xs : List Sight). Any (λ (z : Sight). z.position ≡ j) xs) (sym e)
          (a.0, a.1, (let b = a.2 in omega (arith, b, l)), get_or_append_left sights (s ∷ []) a.1 a.0 a.2 ∙ a.3, a.4)
      | inr past ↦
          let x : k ≡ j = omega (arith, below, past) in
          subst (λ (xs : List Sight). Any (λ (z : Sight). z.position ≡ j) xs) (sym e) (Any-push (λ (z : Sight). z.position ≡ j) sights s (at ∙ x))
    ];
  }

-- the forms in one index at most aren't the other one
pub other_ziv : ¬ (other_form ≡ ziv)
other_ziv e = cc

pub other_strong : (o : Occurrence) → ¬ (other_form ≡ strong_siv o)
other_strong o e = cc

pub other_weak_zero : (o : Occurrence) → ¬ (other_form ≡ weak_zero_siv o)
other_weak_zero o e = cc

pub other_weak_crossing : (o : Occurrence) → ¬ (other_form ≡ weak_crossing_siv o)
other_weak_crossing o e = cc

-- the forms of subscripts in several indices, and of the others
cases_other : (f : Form) → (other_form ≡ f) ⊎ ¬ (other_form ≡ f)
cases_other ziv = inr other_ziv
cases_other (strong_siv o) = inr (other_strong o)
cases_other (weak_zero_siv o) = inr (other_weak_zero o)
cases_other (weak_crossing_siv o) = inr (other_weak_crossing o)
cases_other other_form = inl refl

-- with what the positions with subscripts in several indices exclude, all that is excluded is there
pub excluded_all : (v : View) (k : ℕ) (old new : List Bool) → length v.positions ≤ k → AreExcluded v (SingleExcludes v) k old → AreAdded (length v.loops) [] (OtherExcludes v) old new → AreExcluded v (Excludes v) (length v.positions) new
excluded_all v k old new past h a = record {
  wide = a.wide ∙ h.wide;
  marked = λ vector l x possible. elim ((a.marks vector l).0 x) [
    | inl y ↦ h.marked vector l y possible
    | inr s ↦
        let o = s.1 in
        let below = slice_get_within v.positions o.place o.pair o.there in
        let free = All-from_recursion (λ q. ¬ (Excludes v q vector)) v.positions possible o.place o.pair below in
        let there : get_or v.positions o.place o.pair ≡ o.pair = some_same (sym (slice_get-get_or v.positions o.place o.pair below) ∙ o.there) in
        subst (λ (q : SubscriptPair). ¬ (Excludes v q vector)) there free o.excludes
  ];
  unmarked = λ vector l n j p less at x. elim (cases_other (form_of p)) [
    | inl is ↦ n ((a.marks vector l).1 (inr ((vector, refl), record { place = j; pair = p; there = at; form = is; excludes = x })))
    | inr not_so ↦ h.unmarked vector l (λ y. n ((a.marks vector l).1 (inl y))) j p (omega (arith, less, past)) at (record { form = not_so; excludes = x })
  ];
}

-- what a form in one index at most excludes
pub single_added : (v : View) (p : SubscriptPair) (f : Form) → f ≡ form_of p → ¬ (other_form ≡ f) → (old new : List Bool) → AreAdded (length v.loops) [] (Excludes v p) old new → AreAdded (length v.loops) [] (SingleExcludes v p) old new
single_added v p f e not_so old new a =
    added_as (length v.loops) [] (Excludes v p) (SingleExcludes v p) old new (λ vector l b. (λ x. record { form = λ o. not_so (o ∙ sym e); excludes = x }, λ x. x.excludes)) a

pub single_none : (v : View) (p : SubscriptPair) (row : List Bool) → other_form ≡ form_of p → AreAdded (length v.loops) [] (SingleExcludes v p) row row
single_none v p row e = added_none (length v.loops) [] (SingleExcludes v p) row (λ vector l b x. x.form e)
