-- Rows that get the places of vectors with a direction in one loop, front by front.
use Rattle.std.proofs.Common.{◌≡◌, ◌⊎◌, ℕ, ◌+◌, ◌-◌, ◌*◌, ◌^◌, ◌%◌, ◌<◌, ◌≤◌, List, [], ◌++◌, length, take, drop, Bool, true, false, IsTrue, refl, sym, ap, ◌∙◌, inl, inr, arith}
use Rattle.std.proofs.Math.Nat.{add-mul}
use Rattle.std.proofs.lemmas.Nat.{mul-le, pow-add}
use Rattle.std.proofs.lemmas.Bool.{cases_lt, false≢true}
use Rattle.std.proofs.lemmas.List.{take_more, take-append-drop, take-append-le, take_all, length-take-le}
use Rattle.ped_views.specs.declared.directions.Direction.{Direction}
use Rattle.ped_views.specs.declared.directions.Direction.TheVariants.{Before, Same, After}
use Rattle.ped_views.specs.Excluded.{direction_at}
use Rattle.ped_bits.specs.Places.{Has}
use Rattle.ped_verdict.specs.Marked.{place_of, digit, BeginsWith, AreAdded, AreSet, Each, chosen}
use Rattle.ped_verdict.proofs.Added.{added_none, added_as, added_front}
use Rattle.ped_verdict.proofs.Ordered.{AtPlace, at_place, place_below, place-push, place-same}

-- a direction has its digit alone
same_digit : (d e : Direction) → digit d ≡ digit e → d ≡ e
same_digit Before Before h = refl
same_digit Before Same h = absurd (omega arith)
same_digit Before After h = absurd (omega arith)
same_digit Same Before h = absurd (omega arith)
same_digit Same Same h = refl
same_digit Same After h = absurd (omega arith)
same_digit After Before h = absurd (omega arith)
same_digit After Same h = absurd (omega arith)
same_digit After After h = refl

small_digit : (d : Direction) → digit d < 3
small_digit Before = omega arith
small_digit Same = omega arith
small_digit After = omega arith

-- a vector with a direction for which one of three answers says so, and a front up to it that is at one of the first m places
abbrev pub ChosenBefore : ℕ → Bool → Bool → Bool → ℕ → List Direction → Type 0
ChosenBefore place before same after m vector = (place_of (take (place + 1) vector) < m) × IsTrue (chosen before same after (direction_at vector place))

-- the last direction of a front is the rest of its place
its_direction : (vector : List Direction) (place m : ℕ) (d : Direction) → place < length vector → place_of (take (place + 1) vector) ≡ m → digit d ≡ m % 3 → direction_at vector place ≡ d
its_direction vector place m d below is e =
    let t = ap place_of (take_more vector place Same below) in
    let p = place-push (take place vector) (direction_at vector place) in
    let s = small_digit (direction_at vector place) in
    same_digit (direction_at vector place) d (omega arith)

-- there is room behind the front at each place
pub front_room : (n place m b : ℕ) → place < n → b ≡ 3 ^ (n - 1 - place) → m < 3 ^ (place + 1) → m * b + b ≤ 3 ^ n
front_room n place m b below e within =
    let l = mul-le (m + 1) b (3 ^ (place + 1)) b (omega arith) (omega arith) in
    let a = add-mul m 1 b in
    let q : 3 ^ (place + 1) * 3 ^ (n - 1 - place) ≡ 3 ^ n = sym (pow-add 3 (place + 1) (n - 1 - place)) ∙ ap (λ (k : ℕ). 3 ^ k) (omega arith) in
    let r = ap (λ (k : ℕ). 3 ^ (place + 1) * k) e in
    omega arith

module _ (n place : ℕ) (below : place < n) (before same after : Bool) where
  front_below : (vector : List Direction) → length vector ≡ n → place_of (take (place + 1) vector) < 3 ^ (place + 1)
  front_below vector l =
      let k : length (take (place + 1) vector) ≡ place + 1 = length-take-le (place + 1) vector (omega arith) in
      let b = place_below (take (place + 1) vector) in
      let e = ap (λ (j : ℕ). 3 ^ j) k in
      omega arith

  -- before the first front nothing is marked, and behind the last all that is to be
  pub none_chosen : (row : List Bool) → AreAdded n [] (ChosenBefore place before same after 0) row row
  none_chosen row = added_none n [] (ChosenBefore place before same after 0) row (λ vector l b x. let s = x.0 in absurd (omega arith))

  pub all_chosen : (m : ℕ) (old new : List Bool) → 3 ^ (place + 1) ≤ m → AreAdded n [] (ChosenBefore place before same after m) old new → AreAdded n [] (λ vector. IsTrue (chosen before same after (direction_at vector place))) old new
  all_chosen m old new past a =
      added_as n [] (ChosenBefore place before same after m) (λ vector. IsTrue (chosen before same after (direction_at vector place))) old new
      (λ vector l b. (λ x. x.1, λ x. ((let f = front_below vector l in omega arith), x))) a

  module _ (m : ℕ) (d : Direction) (e : digit d ≡ m % 3) (within : m < 3 ^ (place + 1)) (old row : List Bool) (a : AreAdded n [] (ChosenBefore place before same after m) old row) where
    -- a front whose last direction has no answer
    pub none_more : chosen before same after d ≡ false → AreAdded n [] (ChosenBefore place before same after (m + 1)) old row
    none_more not_so =
        added_as n [] (ChosenBefore place before same after m) (ChosenBefore place before same after (m + 1)) old row
        (λ vector l b. (λ x. ((let s = x.0 in omega arith), x.1), back vector l)) a
      where
        back : (vector : List Direction) → length vector ≡ n → ChosenBefore place before same after (m + 1) vector → ChosenBefore place before same after m vector
        back vector l x = elim (cases_lt (place_of (take (place + 1) vector)) m) [
          | inl less ↦ (less, x.1)
          | inr past ↦
              let s = x.0 in
              let is : direction_at vector place ≡ d = its_direction vector place m d (omega arith) (omega arith) e in
              absurd (false≢true (sym not_so ∙ ap (chosen before same after) (sym is) ∙ x.1))
        ]

    -- one that has one
    module _ (b : ℕ) (eb : b ≡ 3 ^ (n - 1 - place)) (some : chosen before same after d ≡ true) (new : List Bool) (s : AreSet (m * b) (m * b + b) row new) where
      at : AtPlace (place + 1) m
      at = at_place (place + 1) m within

      many : b ≡ 3 ^ (n - length at.vector)
      many = eb ∙ ap (λ (k : ℕ). 3 ^ k) (let l = at.long in omega arith)

      marked : AreAdded n at.vector Each row new
      marked =
          added_front n at.vector (let l = at.long in omega arith) (m * b) (m * b + b) row new
          (ap (λ (k : ℕ). k * b) (sym at.is) ∙ ap (λ (k : ℕ). place_of at.vector * k) many) (ap (λ (k : ℕ). m * b + k) many) s

      begins_at : (vector : List Direction) → length vector ≡ n → BeginsWith at.vector vector → place_of (take (place + 1) vector) ≡ m
      begins_at vector l (rest, is) =
          ap place_of (ap (take (place + 1)) (sym is) ∙ ap (λ (k : ℕ). take k (at.vector ++ rest)) (sym at.long) ∙ take-append-le (length at.vector) at.vector rest (omega arith) ∙ take_all (length at.vector) at.vector (omega arith)) ∙ at.is

      at_begins : (vector : List Direction) → length vector ≡ n → place_of (take (place + 1) vector) ≡ m → BeginsWith at.vector vector
      at_begins vector l is =
          let k : length (take (place + 1) vector) ≡ place + 1 = length-take-le (place + 1) vector (omega arith) in
          let same_front : take (place + 1) vector ≡ at.vector = place-same (take (place + 1) vector) at.vector (k ∙ sym at.long) (is ∙ sym at.is) in
          (drop (place + 1) vector, ap (λ (f : List Direction). f ++ drop (place + 1) vector) (sym same_front) ∙ take-append-drop (place + 1) vector)

      pub one_more_front : AreAdded n [] (ChosenBefore place before same after (m + 1)) old new
      one_more_front = record { wide = marked.wide ∙ a.wide; marks = λ vector l. (to vector l, from vector l) }
        where
          to : (vector : List Direction) → length vector ≡ n → Has new (place_of vector) → Has old (place_of vector) ⊎ (BeginsWith [] vector × ChosenBefore place before same after (m + 1) vector)
          to vector l h = elim ((marked.marks vector l).0 h) [
            | inl x ↦ elim ((a.marks vector l).0 x) [
              | inl y ↦ inl y
              | inr y ↦ inr (y.0, ((let z = y.1.0 in omega arith), y.1.1))
            ]
            | inr x ↦
                let is = begins_at vector l x.0 in
                inr ((vector, refl), (omega arith, ap (chosen before same after) (its_direction vector place m d (omega arith) is e) ∙ some))
          ]

          from : (vector : List Direction) → length vector ≡ n → Has old (place_of vector) ⊎ (BeginsWith [] vector × ChosenBefore place before same after (m + 1) vector) → Has new (place_of vector)
          from vector l (inl h) = (marked.marks vector l).1 (inl ((a.marks vector l).1 (inl h)))
          from vector l (inr x) = elim (cases_lt (place_of (take (place + 1) vector)) m) [
            | inl less ↦ (marked.marks vector l).1 (inl ((a.marks vector l).1 (inr (x.0, (less, x.1.1)))))
            | inr past ↦
                let y = x.1.0 in
                (marked.marks vector l).1 (inr (at_begins vector l (omega arith), tt))
          ]
