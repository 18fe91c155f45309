-- Rows that get the places of vectors with a front.
use Rattle.std.proofs.Common.{◌≡◌, pos, ◌⊎◌, ◌↔◌, ℕ, zero, suc, ◌+◌, ◌-◌, ◌*◌, ◌^◌, ◌<◌, ◌≤◌, List, [], ◌∷◌, ◌++◌, length, replicate, get_or, slice_set, slice_get, slice_index_or, Option, Some, None, IfSome, Bool, true, false, ◌&&◌, not, IsTrue, refl, sym, ap, subst, ◌∙◌, inl, inr, arith}
use Rattle.std.proofs.Math.Nat.{add-mul}
use Rattle.std.proofs.lemmas.Nat.{mul-le, pow-add}
use Rattle.std.proofs.lemmas.Bool.{cases_eq, cases_lt, false≢true}
use Rattle.std.proofs.lemmas.List.{append_assoc, length-append, length-set, length-replicate, get_or-set_same, get_or-set_other}
use Rattle.std.proofs.lemmas.List.Elements.{All-from_recursion, recursion_from_All}
use Rattle.std.proofs.lemmas.Option.{slice_get-get_or}
use Rattle.ped_views.specs.declared.directions.Direction.{Direction}
use Rattle.ped_views.specs.declared.directions.Direction.TheVariants.{Before, Same, After}
use Rattle.ped_views.specs.Views.{SubscriptPair, View}
use Rattle.ped_views.specs.Excluded.{Excludes, direction_at}
use Rattle.ped_views.specs.Vectors.{IsPossible}
use Rattle.ped_bits.specs.Places.{Has, without}
use Rattle.ped_verdict.specs.Marked.{place_of, digit, BeginsWith, AreMarked, SingleExcludes, AreExcluded, AreAdded, AreSet, Each, chosen}
use Rattle.ped_verdict.proofs.Ordered.{at_place, place_below, place-same}

-- nothing is added
pub added_none : (n : ℕ) (front : List Direction) (E : List Direction → Type 0) (row : List Bool) → ((vector : List Direction) → length vector ≡ n → BeginsWith front vector → ¬ (E vector)) → AreAdded n front E row row
added_none n front E row none = record {
  wide = refl;
  marks = λ vector l. (λ h. inl h, λ s. from vector l s);
}
  where
    from : (vector : List Direction) → length vector ≡ n → Has row (place_of vector) ⊎ (BeginsWith front vector × E vector) → Has row (place_of vector)
    from vector l (inl h) = h
    from vector l (inr s) = absurd (none vector l s.0 s.1)

-- the same vectors, said otherwise
pub added_as : (n : ℕ) (front : List Direction) (E F : List Direction → Type 0) (old new : List Bool) → ((vector : List Direction) → length vector ≡ n → BeginsWith front vector → E vector ↔ F vector) → AreAdded n front E old new → AreAdded n front F old new
added_as n front E F old new same a = record {
  wide = a.wide;
  marks = λ vector l. (
    λ h. elim ((a.marks vector l).0 h) [ inl x ↦ inl x | inr s ↦ inr (s.0, (same vector l s.0).0 s.1) ],
    λ h. (a.marks vector l).1 (elim h [ inl x ↦ inl x | inr s ↦ inr (s.0, (same vector l s.0).1 s.1) ]),
  );
}

-- a vector that begins with a front has a front that is longer by one direction
further : (front : List Direction) (d : Direction) (rest vector : List Direction) → front ++ d ∷ rest ≡ vector → BeginsWith (front ++ d ∷ []) vector
further front d rest vector e = (rest, append_assoc front (d ∷ []) rest ∙ e)

shorter : (front : List Direction) (d : Direction) (vector : List Direction) → BeginsWith (front ++ d ∷ []) vector → BeginsWith front vector
shorter front d vector (rest, e) = (d ∷ rest, sym (append_assoc front (d ∷ []) rest) ∙ e)

-- the vectors with a front are those with its three continuations
module _ (n : ℕ) (E : List Direction → Type 0) (front f1 f2 f3 : List Direction) (r0 r1 r2 r3 : List Bool)
    (short : length front < n) (e1 : f1 ≡ front ++ Before ∷ []) (e2 : f2 ≡ front ++ Same ∷ []) (e3 : f3 ≡ front ++ After ∷ [])
    (a1 : AreAdded n f1 E r0 r1) (a2 : AreAdded n f2 E r1 r2) (a3 : AreAdded n f3 E r2 r3) where
  module _ (vector : List Direction) (l : length vector ≡ n) where
    abbrev Wanted : Type 0
    Wanted = Has r0 (place_of vector) ⊎ (BeginsWith front vector × E vector)

    back : (d : Direction) (f : List Direction) → f ≡ front ++ d ∷ [] → BeginsWith f vector × E vector → Wanted
    back d f e s = inr (shorter front d vector (subst (λ (g : List Direction). BeginsWith g vector) e s.0), s.1)

    to1 : Has r1 (place_of vector) → Wanted
    to1 h = elim ((a1.marks vector l).0 h) [ inl x ↦ inl x | inr s ↦ back Before f1 e1 s ]

    to2 : Has r2 (place_of vector) → Wanted
    to2 h = elim ((a2.marks vector l).0 h) [ inl x ↦ to1 x | inr s ↦ back Same f2 e2 s ]

    to3 : Has r3 (place_of vector) → Wanted
    to3 h = elim ((a3.marks vector l).0 h) [ inl x ↦ to2 x | inr s ↦ back After f3 e3 s ]

    on2 : Has r2 (place_of vector) → Has r3 (place_of vector)
    on2 h = (a3.marks vector l).1 (inl h)

    on1 : Has r1 (place_of vector) → Has r3 (place_of vector)
    on1 h = on2 ((a2.marks vector l).1 (inl h))

    into : (d : Direction) (f rest : List Direction) → f ≡ front ++ d ∷ [] → front ++ d ∷ rest ≡ vector → BeginsWith f vector
    into d f rest e s = subst (λ (g : List Direction). BeginsWith g vector) (sym e) (further front d rest vector s)

    of_rest : (rest : List Direction) → front ++ rest ≡ vector → E vector → Has r3 (place_of vector)
    of_rest [] e p = let k = ap length e in let m = length-append front [] in absurd (omega arith)
    of_rest (Before ∷ rest) e p = on1 ((a1.marks vector l).1 (inr (into Before f1 rest e1 e, p)))
    of_rest (Same ∷ rest) e p = on2 ((a2.marks vector l).1 (inr (into Same f2 rest e2 e, p)))
    of_rest (After ∷ rest) e p = (a3.marks vector l).1 (inr (into After f3 rest e3 e, p))

    from3 : Wanted → Has r3 (place_of vector)
    from3 (inl h) = on1 ((a1.marks vector l).1 (inl h))
    from3 (inr ((rest, e), p)) = of_rest rest e p

  pub added_three : AreAdded n front E r0 r3
  added_three = record {
    wide = a3.wide ∙ a2.wide ∙ a1.wide;
    marks = λ vector l. (to3 vector l, from3 vector l);
  }

-- the row has got no place yet
pub set_start : (first : ℕ) (row : List Bool) → AreSet first first row row
set_start first row = record { wide = refl; has = λ k. (λ h. inl h, λ s. elim s [ inl h ↦ h | inr b ↦ (let x = b.0 in let y = b.1 in absurd (omega arith)) ]) }

pub set_more : (first place : ℕ) (old row new : List Bool) → AreSet first place old row → first ≤ place → place < length row → new ≡ slice_set row place true → AreSet first (place + 1) old new
set_more first place old row new s from below is = record {
  wide = ap length is ∙ length-set row place true ∙ s.wide;
  has = λ k. (to k, back k);
}
  where
    there : (k : ℕ) → k ≡ place → Has new k
    there k e = ap (λ (r : List Bool). slice_index_or r k false) is ∙ ap (λ (j : ℕ). slice_index_or (slice_set row place true) j false) e ∙ get_or-set_same row place true false below

    other : (k : ℕ) → ¬ (k ≡ place) → slice_index_or new k false ≡ slice_index_or row k false
    other k n = ap (λ (r : List Bool). slice_index_or r k false) is ∙ get_or-set_other row place k true false n

    to : (k : ℕ) → Has new k → Has old k ⊎ ((first ≤ k) × (k < place + 1))
    to k h = elim (cases_eq k place) [
      | inl e ↦ inr (omega arith, omega arith)
      | inr n ↦ elim ((s.has k).0 (sym (other k n) ∙ h)) [ inl x ↦ inl x | inr b ↦ (let x = b.0 in let y = b.1 in inr (omega arith, omega arith)) ]
    ]

    back : (k : ℕ) → Has old k ⊎ ((first ≤ k) × (k < place + 1)) → Has new k
    back k h = elim (cases_eq k place) [
      | inl e ↦ there k e
      | inr n ↦ other k n ∙ (s.has k).1 (elim h [ inl x ↦ inl x | inr b ↦ (let x = b.0 in let y = b.1 in inr (omega arith, omega arith)) ])
    ]

-- the place of a front and what follows
place-append : (v w : List Direction) → place_of (v ++ w) ≡ place_of v * 3 ^ length w + place_of w
place-append [] w = omega arith
place-append (d ∷ v) w =
    let l = length-append v w in
    let p : 3 ^ length (v ++ w) ≡ 3 ^ length v * 3 ^ length w = ap (λ (k : ℕ). 3 ^ k) l ∙ pow-add 3 (length v) (length w) in
    by d (3 ^ length v) (3 ^ length w) (place_of v) (place_of w) (3 ^ length (v ++ w)) (place_of (v ++ w)) p (place-append v w)
  where
    by : (d : Direction) (x y p q z r : ℕ) → z ≡ x * y → r ≡ p * y + q → digit d * z + r ≡ (digit d * x + p) * y + q
    by Before x y p q z r e f =
        let s : 0 * x + p ≡ p = omega arith in
        let t : 0 * z + r ≡ p * y + q = omega arith in
        t ∙ ap (λ (m : ℕ). m * y + q) (sym s)
    by Same x y p q z r e f =
        let s : 1 * x + p ≡ x + p = omega arith in
        let m = add-mul x p y in
        let t : 1 * z + r ≡ (x + p) * y + q = omega arith in
        t ∙ ap (λ (k : ℕ). k * y + q) (sym s)
    by After x y p q z r e f =
        let s : 2 * x + p ≡ x + x + p = omega arith in
        let m = add-mul (x + x) p y in
        let k = add-mul x x y in
        let t : 2 * z + r ≡ (x + x + p) * y + q = omega arith in
        t ∙ ap (λ (k : ℕ). k * y + q) (sym s)

-- the first place of a front, how many there are, and that the row has them
module _ (n : ℕ) (front ds : List Direction) (len p b first : ℕ) (short : length front ≤ n) (ed : ds ≡ front) (el : len ≡ length front) (ep : p ≡ place_of ds) (eb : b ≡ 3 ^ (n - len)) (ef : first ≡ p * b) where
  pub its_count : b ≡ 3 ^ (n - length front)
  its_count = eb ∙ ap (λ (k : ℕ). 3 ^ (n - k)) el

  pub its_first : first ≡ place_of front * 3 ^ (n - length front)
  its_first = ef ∙ ap (λ (k : ℕ). k * b) (ep ∙ ap place_of ed) ∙ ap (λ (k : ℕ). place_of front * k) its_count

  pub its_room : first + b ≤ 3 ^ n
  its_room =
      let below = place_below front in
      let m = mul-le (place_of front + 1) (3 ^ (n - length front)) (3 ^ length front) (3 ^ (n - length front)) (omega arith) (omega arith) in
      let a = add-mul (place_of front) 1 (3 ^ (n - length front)) in
      let q : 3 ^ length front * 3 ^ (n - length front) ≡ 3 ^ n = sym (pow-add 3 (length front) (n - length front)) ∙ ap (λ (k : ℕ). 3 ^ k) (omega arith) in
      let e = its_first in
      let c = its_count in
      omega arith

module _ (n : ℕ) (front : List Direction) (short : length front ≤ n) (first last : ℕ) (old row : List Bool) (ef : first ≡ place_of front * 3 ^ (n - length front)) (el : last ≡ first + 3 ^ (n - length front)) where
  -- the places of a front are those of the vectors that begin with it
  pub added_front : AreSet first last old row → AreAdded n front Each old row
  added_front s = record { wide = s.wide; marks = λ vector l. (to vector l, from vector l) }
    where
      to : (vector : List Direction) → length vector ≡ n → Has row (place_of vector) → Has old (place_of vector) ⊎ (BeginsWith front vector × Each vector)
      to vector l h = elim ((s.has (place_of vector)).0 h) [
        | inl x ↦ inl x
        | inr b ↦
            let x = b.0 in
            let y = b.1 in
            let at = at_place (n - length front) (place_of vector - first) (omega arith) in
            let e = place-append front at.vector in
            let long : 3 ^ length at.vector ≡ 3 ^ (n - length front) = ap (λ (k : ℕ). 3 ^ k) at.long in
            let is : place_of (front ++ at.vector) ≡ place_of vector = e ∙ ap (λ (m : ℕ). place_of front * m + place_of at.vector) long ∙ (let i = at.is in omega arith) in
            let m : length (front ++ at.vector) ≡ length vector = length-append front at.vector ∙ (let i = at.long in omega arith) in
            inr ((at.vector, place-same (front ++ at.vector) vector m is), tt)
      ]

      from : (vector : List Direction) → length vector ≡ n → Has old (place_of vector) ⊎ (BeginsWith front vector × Each vector) → Has row (place_of vector)
      from vector l (inl h) = (s.has (place_of vector)).1 (inl h)
      from vector l (inr ((rest, e), t)) =
          let m = length-append front rest in
          let k = ap length e in
          let long : length rest ≡ n - length front = omega arith in
          let p : place_of vector ≡ place_of front * 3 ^ (n - length front) + place_of rest = ap place_of (sym e) ∙ place-append front rest ∙ ap (λ (j : ℕ). place_of front * 3 ^ j + place_of rest) long in
          let b = place_below rest in
          let w : 3 ^ length rest ≡ 3 ^ (n - length front) = ap (λ (j : ℕ). 3 ^ j) long in
          (s.has (place_of vector)).1 (inr (omega arith, omega arith))

-- an answer for each direction is one for the direction that a vector has
pub added_answers : (n place : ℕ) (N : Direction → Type 0) (E : List Direction → Type 0) (before same after : Bool) (old new : List Bool)
    → (IsTrue before ↔ N Before) → (IsTrue same ↔ N Same) → (IsTrue after ↔ N After)
    → ((vector : List Direction) → length vector ≡ n → N (direction_at vector place) ↔ E vector)
    → AreAdded n [] (λ vector. IsTrue (chosen before same after (direction_at vector place))) old new → AreAdded n [] E old new
added_answers n place N E before same after old new b s a says h =
    added_as n [] (λ vector. IsTrue (chosen before same after (direction_at vector place))) E old new
    (λ vector l begins. (λ t. (says vector l).0 ((told (direction_at vector place)).0 t), λ e. (told (direction_at vector place)).1 ((says vector l).1 e))) h
  where
    told : (d : Direction) → IsTrue (chosen before same after d) ↔ N d
    told Before = b
    told Same = s
    told After = a

-- no position is asked yet
no_place : (n k : ℕ) → slice_index_or (replicate n false) k false ≡ false
no_place zero k = refl
no_place (suc n) zero = refl
no_place (suc n) (suc k) = no_place n k

pub excluded_none : (v : View) (E : SubscriptPair → List Direction → Type 0) (n : ℕ) (row : List Bool) → n ≡ 3 ^ length v.loops → row ≡ replicate n false → AreExcluded v E 0 row
excluded_none v E n row e is = record {
  wide = ap length is ∙ length-replicate n false ∙ e;
  marked = λ vector l h. absurd (false≢true (sym (no_place n (place_of vector)) ∙ ap (λ (r : List Bool). slice_index_or r (place_of vector) false) (sym is) ∙ h));
  unmarked = λ vector l h j p below. absurd (omega arith);
}

-- a value is known by its `Some`
pub some_same : {X : Type 0} {x y : X} → Some x ≡ Some y → x ≡ y
some_same e = cc

-- any pair at all
none : SubscriptPair
none = record { usable = false; source = record { common = []; inner = []; constant = pos 0 }; sink = record { common = []; inner = []; constant = pos 0 } }

-- one position more
pub excluded_more : (v : View) (k : ℕ) (old new : List Bool) → k < length v.positions → AreExcluded v (SingleExcludes v) k old → IfSome (slice_get v.positions k) (λ p. AreAdded (length v.loops) [] (SingleExcludes v p) old new) → AreExcluded v (SingleExcludes v) (k + 1) new
excluded_more v k old new below h at = by (slice_get v.positions k) refl at
  where
    by : (o : Option SubscriptPair) → slice_get v.positions k ≡ o → IfSome o (λ p. AreAdded (length v.loops) [] (SingleExcludes v p) old new) → AreExcluded v (SingleExcludes v) (k + 1) new
    by None is a = let s = slice_get-get_or v.positions k none below in absurd (cc)
    by (Some p) is a = record {
      wide = a.wide ∙ h.wide;
      marked = λ vector l x possible. elim ((a.marks vector l).0 x) [
        | inl y ↦ h.marked vector l y possible
        | inr s ↦
            let free = All-from_recursion (λ q. ¬ (Excludes v q vector)) v.positions possible k p below in
            let there : get_or v.positions k p ≡ p = some_same (sym (slice_get-get_or v.positions k p below) ∙ is) in
            subst (λ (q : SubscriptPair). ¬ (Excludes v q vector)) there free s.1.excludes
      ];
      unmarked = λ vector l n j q less at_j x.
          let unless : ¬ (Has old (place_of vector)) = λ y. n ((a.marks vector l).1 (inl y)) in
          elim (cases_lt j k) [
            | inl before ↦ h.unmarked vector l unless j q before at_j x
            | inr past ↦
                let e : j ≡ k = omega arith in
                let same : q ≡ p = some_same (sym at_j ∙ ap (λ (m : ℕ). slice_get v.positions m) e ∙ is) in
                n ((a.marks vector l).1 (inr ((vector, refl), subst (λ (y : SubscriptPair). SingleExcludes v y vector) same x)))
          ];
    }

-- a set without another
length-without : (xs ys : List Bool) → length xs ≡ length ys → length (without xs ys) ≡ length xs
length-without [] ys l = refl
length-without (x ∷ xs) [] l = absurd (omega arith)
length-without (x ∷ xs) (y ∷ ys) l = ap suc (length-without xs ys (omega arith))

first_has : (x y : Bool) → IsTrue (x && not y) → ¬ (IsTrue y)
first_has true true h t = absurd (cc)
first_has true false h t = absurd (cc)
first_has false y h t = absurd (cc)

has-without : (xs ys : List Bool) (k : ℕ) → Has (without xs ys) k → ¬ (Has ys k)
has-without [] ys k h t = absurd (cc)
has-without (x ∷ xs) [] k h t = absurd (cc)
has-without (x ∷ xs) (y ∷ ys) zero h t = first_has x y h t
has-without (x ∷ xs) (y ∷ ys) (suc k) h t = has-without xs ys k h t

first_left : (x y : Bool) → IsTrue x → ¬ (IsTrue y) → IsTrue (x && not y)
first_left true true h n = absurd (n refl)
first_left true false h n = refl
first_left false y h n = absurd (cc)

without-has : (xs ys : List Bool) (k : ℕ) → length xs ≡ length ys → Has xs k → ¬ (Has ys k) → Has (without xs ys) k
without-has [] ys k l h n = absurd (cc)
without-has (x ∷ xs) [] k l h n = absurd (omega arith)
without-has (x ∷ xs) (y ∷ ys) zero l h n = first_left x y h n
without-has (x ∷ xs) (y ∷ ys) (suc k) l h n = without-has xs ys k (omega arith) h n

-- behind the last position, the vectors that aren't excluded are possible
pub possible_rest : (v : View) (n : ℕ) (none : List Direction) (k : ℕ) (empty full excluded row : List Bool) → length v.loops ≤ 6 → n ≡ length v.loops → none ≡ [] → k ≡ length v.positions → length empty ≡ 3 ^ length v.loops
    → AreAdded n none Each empty full → AreExcluded v (Excludes v) k excluded → row ≡ without full excluded → AreMarked v row
possible_rest v n none k empty full excluded row few en e0 ek wide a h is = record {
  few = few;
  wide = ap length is ∙ length-without full excluded (a.wide ∙ wide ∙ sym h.wide) ∙ a.wide ∙ wide;
  marks = λ vector l. (to vector l, from vector l);
}
  where
    in_full : (vector : List Direction) → length vector ≡ length v.loops → Has full (place_of vector)
    in_full vector l = (a.marks vector (l ∙ sym en)).1 (inr ((vector, ap (λ (g : List Direction). g ++ vector) e0), tt))

    to : (vector : List Direction) → length vector ≡ length v.loops → Has row (place_of vector) → IsPossible v vector
    to vector l x =
        let b = has-without full excluded (place_of vector) (ap (λ (r : List Bool). slice_index_or r (place_of vector) false) (sym is) ∙ x) in
        recursion_from_All (λ p. ¬ (Excludes v p vector)) v.positions (λ j d below. h.unmarked vector l b j (get_or v.positions j d) (omega arith) (slice_get-get_or v.positions j d below))

    from : (vector : List Direction) → length vector ≡ length v.loops → IsPossible v vector → Has row (place_of vector)
    from vector l possible = ap (λ (r : List Bool). slice_index_or r (place_of vector) false) is ∙ without-has full excluded (place_of vector) (a.wide ∙ wide ∙ sym h.wide) (in_full vector l) (λ x. h.marked vector l x possible)
