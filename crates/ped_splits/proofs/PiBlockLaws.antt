-- Pi-blocks hold each unit once, and arrows between them lead forward (Allen and Kennedy, section 2.4). Laws of lists alone.
use Rattle.std.proofs.Common.{◌≡◌, ◌⊎◌, ℕ, zero, suc, ◌+◌, ◌≤◌, ◌<◌, ◌==◌, List, [], ◌∷◌, ◌++◌, length, filter, cond, Bool, true, false, not, ◌&&◌, ◌||◌, inl, inr, refl, sym, ap, subst, ◌∙◌, eqb-true, eq-eqb, arith}
use Rattle.std.specs.List.{flat_map, list_all, range_with_len, sum_by}
use Rattle.std.proofs.lemmas.List.Sums.{sum_by-cons, length-filter}
use Rattle.std.proofs.lemmas.List.Filters.{sum_by-filter_both}
use Rattle.ped_bits.specs.Reaching.{Arrow, IsPath, Reaches}
use Rattle.ped_splits.specs.Units.{IsClosure}
use Rattle.ped_splits.specs.PiBlocks.{reaches, are_together, is_free, pi_block_then, ordered, pi_blocks}
use Rattle.ped_splits.specs.CodeUnits.{leads, leaders}
use Rattle.ped_splits.proofs.PiBlockOrders.{free_is}
use Rattle.ped_splits.proofs.Partitions.{tally, flat}

-- the number stands in the list
abbrev pub In : ℕ → List ℕ → Type 0
In x [] = ⊥
In x (y ∷ ys) = (x ≡ y) ⊎ In x ys

pub in_front : (x : ℕ) (xs ys : List ℕ) → In x xs → In x (xs ++ ys)
in_front x [] ys h = elim h [ ]
in_front x (y ∷ xs) ys (inl e) = inl e
in_front x (y ∷ xs) ys (inr h) = inr (in_front x xs ys h)

pub in_back : (x : ℕ) (xs ys : List ℕ) → In x ys → In x (xs ++ ys)
in_back x [] ys h = h
in_back x (y ∷ xs) ys h = inr (in_back x xs ys h)

pub in_either : (x : ℕ) (xs ys : List ℕ) → In x (xs ++ ys) → In x xs ⊎ In x ys
in_either x [] ys h = inr h
in_either x (y ∷ xs) ys (inl e) = inl (inl e)
in_either x (y ∷ xs) ys (inr h) = elim (in_either x xs ys h) [
  | inl a ↦ inl (inr a)
  | inr b ↦ inr b
]

not_both : (b : Bool) → b ≡ true → b ≡ false → ⊥
not_both true p q = absurd cc
not_both false p q = absurd cc

pub in_filter : (p : ℕ → Bool) (x : ℕ) (xs : List ℕ) → In x xs → p x ≡ true → In x (filter p xs)
in_filter p x [] h holds = elim h [ ]
in_filter p x (y ∷ xs) (inl e) holds = by (p y) refl
  where
    by : (b : Bool) → p y ≡ b → In x (cond b (y ∷ filter p xs) (filter p xs))
    by true f = inl e
    by false f = absurd (not_both (p y) (ap p (sym e) ∙ holds) f)
in_filter p x (y ∷ xs) (inr h) holds = by (in_filter p x xs h holds) (p y)
  where
    by : In x (filter p xs) → (b : Bool) → In x (cond b (y ∷ filter p xs) (filter p xs))
    by rest true = inr rest
    by rest false = rest

pub from_filter : (p : ℕ → Bool) (x : ℕ) (xs : List ℕ) → In x (filter p xs) → In x xs × (p x ≡ true)
from_filter p x [] h = absurd h
from_filter p x (y ∷ xs) h = by (from_filter p x xs) (p y) refl h
  where
    by : (In x (filter p xs) → In x xs × (p x ≡ true)) → (b : Bool) → p y ≡ b → In x (cond b (y ∷ filter p xs) (filter p xs)) → In x (y ∷ xs) × (p x ≡ true)
    by rest true f (inl e) = (inl e, ap p e ∙ f)
    by rest true f (inr g) = let r = rest g in (inr r.0, r.1)
    by rest false f g = let r = rest g in (inr r.0, r.1)

pub each_of : (p : ℕ → Bool) (x : ℕ) (xs : List ℕ) → list_all p xs ≡ true → In x xs → p x ≡ true
each_of p x [] all h = elim h [ ]
each_of p x (y ∷ xs) all (inl e) = ap p e ∙ first (p y) (list_all p xs) all
  where
    first : (a b : Bool) → (a && b) ≡ true → a ≡ true
    first true b h = refl
    first false b h = h
each_of p x (y ∷ xs) all (inr h) = each_of p x xs (second (p y) (list_all p xs) all) h
  where
    second : (a b : Bool) → (a && b) ≡ true → b ≡ true
    second true b h = h
    second false b h = absurd cc

-- sums over the same list
ones : (xs : List ℕ) → sum_by (λ (y : ℕ). 1) xs ≡ length xs
ones [] = refl
ones (x ∷ xs) = let rest = ones xs in let whole = sum_by-cons (λ (y : ℕ). 1) x xs in omega (arith, rest, whole)

sum_at_most : (f g : ℕ → ℕ) (xs : List ℕ) → ((x : ℕ) → f x ≤ g x) → sum_by f xs ≤ sum_by g xs
sum_at_most f g [] h = omega arith
sum_at_most f g (x ∷ xs) h =
    let rest = sum_at_most f g xs h in
    let here = h x in
    let one = sum_by-cons f x xs in
    let other = sum_by-cons g x xs in
    omega (arith, rest, here, one, other)

sum_less : (f g : ℕ → ℕ) (k : ℕ) (xs : List ℕ) → ((x : ℕ) → f x ≤ g x) → In k xs → f k < g k → sum_by f xs < sum_by g xs
sum_less f g k [] h inside less = elim inside [ ]
sum_less f g k (x ∷ xs) h (inl e) less =
    let rest = sum_at_most f g xs h in
    let here : f x < g x = subst (λ (y : ℕ). f y < g y) e less in
    let one = sum_by-cons f x xs in
    let other = sum_by-cons g x xs in
    omega (arith, rest, here, one, other)
sum_less f g k (x ∷ xs) h (inr inside) less =
    let rest = sum_less f g k xs h inside less in
    let here = h x in
    let one = sum_by-cons f x xs in
    let other = sum_by-cons g x xs in
    omega (arith, rest, here, one, other)

-- what arrows reach, one behind another, they reach
join : (m : List (List Bool)) (i k j : ℕ) (v w : List ℕ) → IsPath m i v k → IsPath m k w j → IsPath m i (v ++ k ∷ w) j
join m i k j [] w p q = (p, q)
join m i k j (x ∷ v) w p q = (p.0, join m x k j v w p.1 q)

pub through : (rows reach : List (List Bool)) → IsClosure rows reach → (i j k : ℕ) → reaches reach i j ≡ true → reaches reach j k ≡ true → reaches reach i k ≡ true
through rows reach closed i j k a b =
    let v = (closed.reaches i j).0 a in
    let w = (closed.reaches j k).0 b in
    (closed.reaches i k).1 (v.0 ++ j ∷ w.0, join rows i j k v.0 w.0 v.1 w.1)

module _ (reach : List (List Bool)) (passes : (i j k : ℕ) → reaches reach i j ≡ true → reaches reach j k ≡ true → reaches reach i k ≡ true) where
  led : (k i : ℕ) → leads reach k i ≡ true → (reaches reach k i ≡ true) × (reaches reach i k ≡ false)
  led k i h = by (reaches reach k i) (reaches reach i k) refl refl h
    where
      by : (a b : Bool) → reaches reach k i ≡ a → reaches reach i k ≡ b → (a && not b) ≡ true → (reaches reach k i ≡ true) × (reaches reach i k ≡ false)
      by true false e f g = (e, f)
      by true true e f g = absurd cc
      by false b e f g = absurd cc

  leading : (k i : ℕ) → reaches reach k i ≡ true → reaches reach i k ≡ false → leads reach k i ≡ true
  leading k i e f = λ j. e j && not (f j)

  -- who leads to a leader leads on
  leads_on : (m k i : ℕ) → leads reach k i ≡ true → leads reach m k ≡ true → leads reach m i ≡ true
  leads_on m k i h g =
      let a = led k i h in
      let b = led m k g in
      leading m i (passes m k i b.0 a.0) (back (reaches reach i m) refl a.1 b.0)
    where
      back : (x : Bool) → reaches reach i m ≡ x → reaches reach i k ≡ false → reaches reach m k ≡ true → reaches reach i m ≡ false
      back true e f p = absurd (not_both (reaches reach i k) (passes i m k e p) f)
      back false e f p = e

  tally_grows : (a b : Bool) → (a ≡ true → b ≡ true) → tally a ≤ tally b
  tally_grows true true h = omega arith
  tally_grows true false h = absurd (not_both false (h refl) refl)
  tally_grows false b h = omega arith

  -- so a leader has fewer
  fewer : (left : List ℕ) (k i : ℕ) → leads reach k i ≡ true → In k left → leaders reach left k < leaders reach left i
  fewer left k i h inside =
      let own : leads reach k k ≡ false = none (leads reach k k) refl in
      let mine : tally (leads reach k k) ≡ 0 = ap tally own in
      let its : tally (leads reach k i) ≡ 1 = ap tally h in
      sum_less (λ m. tally (leads reach m k)) (λ m. tally (leads reach m i)) k left (λ m. tally_grows (leads reach m k) (leads reach m i) (leads_on m k i h)) inside (omega (arith, mine, its))
    where
      none : (b : Bool) → leads reach k k ≡ b → leads reach k k ≡ false
      none true e = let both = led k k e in absurd (not_both (reaches reach k k) both.0 both.1)
      none false e = e

  some_leader : (left : List ℕ) (i : ℕ) → (leaders reach left i == 0) ≡ false → (k : ℕ) × In k left × (leads reach k i ≡ true)
  some_leader [] i h = absurd cc
  some_leader (k ∷ left) i h = by (some_leader left i) (leads reach k i) refl
    where
      by : ((leaders reach left i == 0) ≡ false → (m : ℕ) × In m left × (leads reach m i ≡ true)) → (b : Bool) → leads reach k i ≡ b → (m : ℕ) × In m (k ∷ left) × (leads reach m i ≡ true)
      by rest true e = (k, inl refl, e)
      by rest false e =
          let whole = sum_by-cons (λ m. tally (leads reach m i)) k left in
          let here : tally (leads reach k i) ≡ 0 = ap tally e in
          let same : leaders reach (k ∷ left) i ≡ leaders reach left i = omega (arith, whole, here) in
          let found = rest (ap (λ (n : ℕ). n == 0) (sym same) ∙ h) in
          (found.0, inr found.1, found.2)

  -- among units that are left one is free
  some_free : (left : List ℕ) (m i : ℕ) → In i left → leaders reach left i < m → (f : ℕ) × In f left × (is_free reach left f ≡ true)
  some_free left zero i inside less = absurd (omega (arith, less))
  some_free left (suc m) i inside less = by (some_free left m) (leaders reach left i == 0) refl
    where
      by : ((k : ℕ) → In k left → leaders reach left k < m → (f : ℕ) × In f left × (is_free reach left f ≡ true)) → (b : Bool) → (leaders reach left i == 0) ≡ b → (f : ℕ) × In f left × (is_free reach left f ≡ true)
      by again true e = (i, inside, free_is reach left i ∙ e)
      by again false e =
          let k = some_leader left i e in
          let less_still = fewer left k.0 i k.2 k.1 in
          again k.0 k.1 (omega (arith, less, less_still))

  same_unit : (i : ℕ) → are_together reach i i ≡ true
  same_unit i = ap (λ (b : Bool). b || (reaches reach i i && reaches reach i i)) (eq-eqb i i refl)

  some_length : (x : ℕ) (xs : List ℕ) → In x xs → 1 ≤ length xs
  some_length x [] h = elim h [ ]
  some_length x (y ∷ xs) h = omega arith

  -- each unit that is left stands in a pi-block
  pub all_placed : (n : ℕ) (left : List ℕ) → length left ≤ n → (x : ℕ) → In x left → In x (flat (ordered reach n left))
  all_placed zero left few x inside = let some = some_length x left inside in absurd (omega (arith, few, some))
  all_placed (suc n) left few x inside = by (all_placed n) (filter (is_free reach left) left) refl
    where
      by : ((later : List ℕ) → length later ≤ n → (y : ℕ) → In y later → In y (flat (ordered reach n later))) → (free : List ℕ) → filter (is_free reach left) left ≡ free → In x (flat (pi_block_then reach (ordered reach n) left free))
      by others [] e =
          let f = some_free left (suc (leaders reach left x)) x inside (omega arith) in
          absurd (subst (In f.0) e (in_filter (is_free reach left) f.0 left f.1 f.2))
      by others (i ∷ free) e = placed (are_together reach i x) refl
        where
          first : In i left
          first = (from_filter (is_free reach left) i left (subst (In i) (sym e) (inl refl))).0

          shorter : length (filter (λ k. not (are_together reach i k)) left) ≤ n
          shorter =
              let parted = sum_by-filter_both (are_together reach i) (λ k. not (are_together reach i k)) (λ y. refl) (λ (y : ℕ). 1) left in
              let some = some_length i (filter (are_together reach i) left) (in_filter (are_together reach i) i left first (same_unit i)) in
              let a = ones (filter (are_together reach i) left) in
              let b = ones (filter (λ k. not (are_together reach i k)) left) in
              let c = ones left in
              omega (arith, parted, some, a, b, c, few)

          placed : (b : Bool) → are_together reach i x ≡ b → In x (flat (pi_block_then reach (ordered reach n) left (i ∷ free)))
          placed true t = in_front x (filter (are_together reach i) left) (flat (ordered reach n (filter (λ k. not (are_together reach i k)) left))) (in_filter (are_together reach i) x left inside t)
          placed false t =
              in_back x (filter (are_together reach i) left) (flat (ordered reach n (filter (λ k. not (are_together reach i k)) left)))
              (others (filter (λ k. not (are_together reach i k)) left) shorter x (in_filter (λ k. not (are_together reach i k)) x left inside (ap not t)))

  -- and nothing else does
  pub from_placed : (n : ℕ) (left : List ℕ) (x : ℕ) → In x (flat (ordered reach n left)) → In x left
  from_placed zero left x h = absurd h
  from_placed (suc n) left x h = by (from_placed n) (filter (is_free reach left) left) h
    where
      by : ((later : List ℕ) (y : ℕ) → In y (flat (ordered reach n later)) → In y later) → (free : List ℕ) → In x (flat (pi_block_then reach (ordered reach n) left free)) → In x left
      by others [] g = absurd g
      by others (i ∷ free) g = elim (in_either x (filter (are_together reach i) left) (flat (ordered reach n (filter (λ k. not (are_together reach i k)) left))) g) [
        | inl a ↦ (from_filter (are_together reach i) x left a).0
        | inr b ↦ (from_filter (λ k. not (are_together reach i k)) x left (others (filter (λ k. not (are_together reach i k)) left) x b)).0
      ]

  -- no unit of a later pi-block leads to one of an earlier pi-block
  abbrev pub LeadForward : List (List ℕ) → Type 0
  LeadForward [] = Unit {0}
  LeadForward (b ∷ bs) = ((k j : ℕ) → In k (flat bs) → In j b → reaches reach k j ≡ false) × LeadForward bs

  pub all_forward : (n : ℕ) (left : List ℕ) → LeadForward (ordered reach n left)
  all_forward zero left = tt
  all_forward (suc n) left = by (all_forward n) (filter (is_free reach left) left) refl
    where
      by : ((later : List ℕ) → LeadForward (ordered reach n later)) → (free : List ℕ) → filter (is_free reach left) left ≡ free → LeadForward (pi_block_then reach (ordered reach n) left free)
      by others [] e = tt
      by others (i ∷ free) e = (λ k j a b. none k j (reaches reach k j) refl (from_placed n (filter (λ m. not (are_together reach i m)) left) k a) b, others (filter (λ m. not (are_together reach i m)) left))
        where
          is_first : In i left × (is_free reach left i ≡ true)
          is_first = from_filter (is_free reach left) i left (subst (In i) (sym e) (inl refl))

          none : (k j : ℕ) (b : Bool) → reaches reach k j ≡ b → In k (filter (λ m. not (are_together reach i m)) left) → In j (filter (are_together reach i) left) → reaches reach k j ≡ false
          none k j false r a b = r
          none k j true r a b =
              let later = from_filter (λ m. not (are_together reach i m)) k left a in
              let here = from_filter (are_together reach i) j left b in
              let to_first = to_block (i == j) refl here.1 r in
              let back = free_back (reaches reach k i) (reaches reach i k) to_first (each_of (λ m. not (reaches reach m i) || reaches reach i m) k left is_first.1 later.0) in
              let together : are_together reach i k ≡ true = (λ x. (i == k) || (back x && to_first x)) ∙ or_true (i == k) in
              absurd (not_both (not (are_together reach i k)) later.1 (ap not together))
            where
              or_true : (b : Bool) → (b || (true && true)) ≡ true
              or_true true = refl
              or_true false = refl

              free_back : (a b : Bool) → a ≡ true → (not a || b) ≡ true → b ≡ true
              free_back true b p q = q
              free_back false b p q = absurd cc

              to_block : (b : Bool) → (i == j) ≡ b → (b || (reaches reach i j && reaches reach j i)) ≡ true → reaches reach k j ≡ true → reaches reach k i ≡ true
              to_block true e t r = subst (λ (m : ℕ). reaches reach k m ≡ true) (sym (eqb-true i j e)) r
              to_block false e t r = passes k j i r (second (reaches reach i j) (reaches reach j i) t)
                where
                  second : (a b : Bool) → (a && b) ≡ true → b ≡ true
                  second true b h = h
                  second false b h = absurd cc
