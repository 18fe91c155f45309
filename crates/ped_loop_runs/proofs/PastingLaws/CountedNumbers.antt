-- Numbers that are told by pairs: each number counts under one, and each is told by that.
use Rattle.std.proofs.Common.{◌≡◌, ℕ, zero, suc, ◌+◌, ◌-◌, ◌<◌, List, [], ◌∷◌, ◌++◌, Bool, true, false, inl, inr, refl, sym, ap, ◌∙◌, arith, eqb-true, if◌then◌else◌}
use Rattle.std.specs.Prelude.{◌==◌}
use Rattle.ped_bodies.specs.ped_flow.specs.ped_tree.specs.Tree.{ProgramTree}
use Rattle.ped_bodies.specs.ped_laws.specs.Acts.Orders.{IsIn}
use Rattle.ped_bodies.specs.ped_laws.proofs.ActLaws.Lists.{in_left, in_right, in_parts}
use Rattle.ped_bodies.specs.ped_eval.specs.Outcomes.{setting_of}
use Rattle.ped_bodies.specs.ped_steps.specs.Runs.Renumbering.{IsToldBack, renumbered}
use Rattle.ped_loop_runs.specs.Numbers.{exchanged_numbers, counted_by, told_by, AreApart, in_a_row, kept_numbers, FitInGap}
use Rattle.ped_loop_runs.specs.Pasting.{CountAlike}

same_is : (m n : ℕ) → (m == n) ≡ true → m ≡ n
same_is m n e = grind (arith, e, eqb-true)

itself : (n : ℕ) → (n == n) ≡ true
itself n = grind (arith, eqb-true)

not_same : (m n : ℕ) → (m ≡ n → ⊥) → (m == n) ≡ false
not_same m n other = go (m == n) refl
  where
    go : (b : Bool) → (m == n) ≡ b → b ≡ false
    go false e = refl
    go true e = absurd (other (same_is m n e))

-- the first of two exchanged numbers becomes the second, and others stay
exchanged_first : (a b : ℕ) → exchanged_numbers a b a ≡ b
exchanged_first a b = ap (λ (z : Bool). if z then b else (if a == b then a else a)) (itself a)

exchanged_other : (a b n : ℕ) → (n ≡ a → ⊥) → (n ≡ b → ⊥) → exchanged_numbers a b n ≡ n
exchanged_other a b n h k = ap (λ (z : Bool). if z then b else (if n == b then a else n)) (not_same n a h) ∙ ap (λ (z : Bool). if z then a else n) (not_same n b k)

exchanged_second : (a b : ℕ) → exchanged_numbers a b b ≡ a
exchanged_second a b = go (b == a) refl
  where
    go : (z : Bool) → (b == a) ≡ z → exchanged_numbers a b b ≡ a
    go true e = ap (λ (y : Bool). if y then b else (if b == b then a else b)) e ∙ same_is b a e
    go false e = ap (λ (y : Bool). if y then b else (if b == b then a else b)) e ∙ ap (λ (y : Bool). if y then a else b) (itself b)

exchanged_twice : (a b n : ℕ) → exchanged_numbers a b (exchanged_numbers a b n) ≡ n
exchanged_twice a b n = go (n == a) (n == b) refl refl
  where
    go : (y z : Bool) → (n == a) ≡ y → (n == b) ≡ z → exchanged_numbers a b (exchanged_numbers a b n) ≡ n
    go true z e f =
        let is : n ≡ a = same_is n a e in
        ap (λ (m : ℕ). exchanged_numbers a b (exchanged_numbers a b m)) is ∙ (ap (exchanged_numbers a b) (exchanged_first a b) ∙ (exchanged_second a b ∙ sym is))
    go false true e f =
        let is : n ≡ b = same_is n b f in
        ap (λ (m : ℕ). exchanged_numbers a b (exchanged_numbers a b m)) is ∙ (ap (exchanged_numbers a b) (exchanged_second a b) ∙ (exchanged_first a b ∙ sym is))
    go false false e f =
        let stays : exchanged_numbers a b n ≡ n = ap (λ (z : Bool). if z then b else (if n == b then a else n)) e ∙ ap (λ (z : Bool). if z then a else n) f in
        ap (exchanged_numbers a b) stays ∙ stays

pub told_back : (pairs : List (ℕ × ℕ)) → IsToldBack (counted_by pairs) (told_by pairs)
told_back pairs = record { back = back pairs }
  where
    back : (xs : List (ℕ × ℕ)) (n : ℕ) → told_by xs (counted_by xs n) ≡ n
    back [] n = refl
    back (x ∷ xs) n = ap (told_by xs) (exchanged_twice (counted_by xs x.0) x.1 (counted_by xs n)) ∙ back xs n

pub each_counts : (pairs : List (ℕ × ℕ)) → AreApart pairs → (y : ℕ × ℕ) → IsIn y pairs → counted_by pairs y.0 ≡ y.1
each_counts [] h y i = absurd i
each_counts (x ∷ xs) h y (inl e) = ap (λ (z : ℕ × ℕ). exchanged_numbers (counted_by xs x.0) x.1 (counted_by xs z.0)) e ∙ (exchanged_first (counted_by xs x.0) x.1 ∙ ap (λ (z : ℕ × ℕ). z.1) (sym e))
each_counts (x ∷ xs) h y (inr i) =
    let is = each_counts xs h.1 y i in
    let other = h.0 y i in
    ap (exchanged_numbers (counted_by xs x.0) x.1) is
    ∙ exchanged_other (counted_by xs x.0) x.1 y.1 (λ e. other.0 (sym ((told_back xs).back y.0) ∙ (ap (told_by xs) (is ∙ e) ∙ (told_back xs).back x.0))) other.1

-- rows
pub in_row : (from to count : ℕ) (y : ℕ × ℕ) → IsIn y (in_a_row from to count) → (k : ℕ) × (k < count) × (y.0 ≡ from + k) × (y.1 ≡ to + k)
in_row from to zero y i = absurd i
in_row from to (suc count) y (inl e) = (0, omega arith, ap (λ (z : ℕ × ℕ). z.0) e ∙ omega arith, ap (λ (z : ℕ × ℕ). z.1) e ∙ omega arith)
in_row from to (suc count) y (inr i) =
    let h = in_row (from + 1) (to + 1) count y i in
    let k = h.0 in
    let below = h.1 in
    let first = h.2 in
    let second = h.3 in
    (k + 1, omega (arith, below), omega (arith, first), omega (arith, second))

pub row_in : (from to count k : ℕ) → k < count → (y : ℕ × ℕ) × IsIn y (in_a_row from to count) × (y.0 ≡ from + k) × (y.1 ≡ to + k)
row_in from to zero k h = absurd (omega (arith, h))
row_in from to (suc count) zero h = ((from, to), inl refl, omega arith, omega arith)
row_in from to (suc count) (suc k) h =
    let r = row_in (from + 1) (to + 1) count k (omega (arith, h)) in
    let first = r.2 in
    let second = r.3 in
    (r.0, inr r.1, omega (arith, first), omega (arith, second))

pub row_apart : (from to count : ℕ) → AreApart (in_a_row from to count)
row_apart from to zero = tt
row_apart from to (suc count) = (
  λ y i. (
      let h = in_row (from + 1) (to + 1) count y i in
      let first = h.2 in
      let second = h.3 in
      (λ e. omega (arith, first, e), λ e. omega (arith, second, e))
      ),
  row_apart (from + 1) (to + 1) count,
)

-- the pairs of the one list and of the other have no number in common
abbrev pub Differ : List (ℕ × ℕ) → List (ℕ × ℕ) → Type 0
Differ xs ys = (x y : ℕ × ℕ) → IsIn x xs → IsIn y ys → (y.0 ≡ x.0 → ⊥) × (y.1 ≡ x.1 → ⊥)

pub append_apart : (xs ys : List (ℕ × ℕ)) → AreApart xs → AreApart ys → Differ xs ys → AreApart (xs ++ ys)
append_apart [] ys h k d = k
append_apart (x ∷ xs) ys h k d = ((λ y i. elim (in_parts y xs ys i) [ inl j ↦ h.0 y j | inr j ↦ d x y (inl refl) j ]), append_apart xs ys h.1 k (λ z y i j. d z y (inr i) j))

module _ (l old new all : ℕ) (inside : List (ℕ × ℕ)) (fit : FitInGap l old new all inside) where
  abbrev before : List (ℕ × ℕ)
  before = in_a_row 0 0 l

  abbrev behind : List (ℕ × ℕ)
  behind = in_a_row (l + new) (l + old) (all + 1 - (l + old))

  behind_inside : Differ behind inside
  behind_inside x y i j =
      let h = in_row (l + new) (l + old) (all + 1 - (l + old)) x i in
      let below = h.1 in
      let first = h.2 in
      let second = h.3 in
      let to = fit.to y j in
      let room = fit.room in
      (λ e. omega (arith, first, to, e), λ e. elim (fit.under y j) [ inl u ↦ (let less = u.1 in omega (arith, second, e, less)) | inr u ↦ omega (arith, second, below, e, u, room) ])

  before_rest : Differ before (behind ++ inside)
  before_rest x y i j =
      let h = in_row 0 0 l x i in
      let below = h.1 in
      let first = h.2 in
      let second = h.3 in
      let room = fit.room in
      elim (in_parts y behind inside j) [
        | inl m ↦ (let k = in_row (l + new) (l + old) (all + 1 - (l + old)) y m in let third = k.2 in let fourth = k.3 in (λ e. omega (arith, below, first, third, e), λ e. omega (arith, below, second, fourth, e)))
        | inr m ↦ (
            let from = fit.from y m in
            (λ e. omega (arith, below, first, from, e), λ e. elim (fit.under y m) [ inl u ↦ (let more = u.0 in omega (arith, below, second, e, more)) | inr u ↦ omega (arith, below, second, e, u, room) ])
            )
      ]

  apart : AreApart (kept_numbers l old new all inside)
  apart = append_apart before (behind ++ inside) (row_apart 0 0 l) (append_apart behind inside (row_apart (l + new) (l + old) (all + 1 - (l + old))) fit.apart behind_inside) before_rest

  pub inside_counts : (y : ℕ × ℕ) → IsIn y inside → counted_by (kept_numbers l old new all inside) y.0 ≡ y.1
  inside_counts y i = each_counts (kept_numbers l old new all inside) apart y (in_right y before (behind ++ inside) (in_right y behind inside i))

  abbrev f : ℕ → ℕ
  f = counted_by (kept_numbers l old new all inside)

  pub count_alike : (t u : ProgramTree) → CountAlike (setting_of t) (renumbered (counted_by (kept_numbers l old new all inside)) (setting_of u)) l old new all
  count_alike t u = record {
    before = λ k h. (
        let r = row_in 0 0 l k h in
        let same : 0 + k ≡ k = omega arith in
        ap f (sym (r.2 ∙ same)) ∙ (each_counts (kept_numbers l old new all inside) apart r.0 (in_left r.0 before (behind ++ inside) r.1) ∙ (r.3 ∙ same))
        );
    behind = λ k h. (
        let r = row_in (l + new) (l + old) (all + 1 - (l + old)) k (omega (arith, h)) in
        ap f (sym r.2) ∙ (each_counts (kept_numbers l old new all inside) apart r.0 (in_right r.0 before (behind ++ inside) (in_left r.0 behind inside r.1)) ∙ r.3)
        );
  }
