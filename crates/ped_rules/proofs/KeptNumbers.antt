-- The statements that a step keeps stand one to one.
use Rattle.std.proofs.Common.{◌≡◌, ℕ, ◌+◌, ◌<◌, length, map, get_or, Bool, true, false, not, refl, ap, arith}
use Rattle.std.specs.Prelude.{nat_lt, ◌≢◌, if◌then◌else◌}
use Rattle.std.specs.List.{range_with_len}
use Rattle.std.proofs.lemmas.Bool.{lt-ltb, ltb-true}
use Rattle.std.proofs.lemmas.List.FromFn.{get_or-map-range_with_len, length-map-range_with_len}
use Rattle.std.proofs.lemmas.List.Kept.{AllPairs-filter}
use Rattle.ped_tree.specs.Tree.{ProgramTree}
use Rattle.ped_tree.specs.Numbering.{statements_count}
use Rattle.ped_loop_runs.specs.ped_graph.specs.Keeping.{IsOneToOne}
use Rattle.ped_loop_runs.specs.ped_steps.specs.Replacing.{all_kept}
use Rattle.ped_rules.specs.KeepMaps.{is_between, all_but, moved, moved_by}

-- statements whose order stays stand one to one
rising_differ : (m n : ℕ) → m < n → m ≡ n → ⊥
rising_differ m n less same = omega (arith, less, same)

module _ (behind : ℕ → ℕ) (grows : (m n : ℕ) → m < n → behind m < behind n) where
  abbrev pair : ℕ → ℕ × ℕ
  pair m = (m, behind m)

  pair_at : (n i : ℕ) (d : ℕ × ℕ) → i < n → get_or (map pair (range_with_len 1 n)) i d ≡ (1 + i, behind (1 + i))
  pair_at n i d h = get_or-map-range_with_len pair 1 n i (1 + i) d h refl

  pub one_to_one : (n : ℕ) → IsOneToOne (map pair (range_with_len 1 n))
  one_to_one n =
      let count : length (map pair (range_with_len 1 n)) ≡ n = length-map-range_with_len pair 1 n in
      record {
        before = λ i j d less within same.
            let first = ap (λ (p : ℕ × ℕ). p.0) (pair_at n i d (omega (arith, less, within, count))) in
            let second = ap (λ (p : ℕ × ℕ). p.0) (pair_at n j d (omega (arith, within, count))) in
            omega (arith, less, same, first, second);
        behind = λ i j d less within same.
            let first = ap (λ (p : ℕ × ℕ). p.1) (pair_at n i d (omega (arith, less, within, count))) in
            let second = ap (λ (p : ℕ × ℕ). p.1) (pair_at n j d (omega (arith, within, count))) in
            let more : behind (1 + i) < behind (1 + j) = grows (1 + i) (1 + j) (omega (arith, less)) in
            omega (arith, same, first, second, more);
      }

-- all statements keep their numbers
pub all_one_to_one : (t : ProgramTree) → IsOneToOne (all_kept t)
all_one_to_one t = one_to_one (λ n. n) (λ m n less. less) (statements_count t.body)

not_true : ◌≡◌ {A = Bool} false true → ⊥
not_true e = cc

if_grows : (p q : Bool) (m n k : ℕ) → (p ≡ true → q ≡ true) → m < n → (if p then m + k else m) < (if q then n + k else n)
if_grows true true m n k both less = omega (arith, less)
if_grows true false m n k both less = absurd (not_true (both refl))
if_grows false true m n k both less = omega (arith, less)
if_grows false false m n k both less = less

moved_grows : (end further m n : ℕ) → m < n → moved end further m < moved end further n
moved_grows end further m n less =
    if_grows (nat_lt end m) (nat_lt end n) m n further (λ e. let before = ltb-true end m e in lt-ltb end n (omega (arith, before, less))) less

-- those behind a number go further
pub moved_one_to_one : (t : ProgramTree) (end further : ℕ) → IsOneToOne (moved_by end further t)
moved_one_to_one t end further = one_to_one (moved end further) (moved_grows end further) (statements_count t.body)

-- some go, and the others keep their numbers
pub but_one_to_one : (t : ProgramTree) (first last : ℕ) → IsOneToOne (all_but first last t)
but_one_to_one t first last =
    let all = all_one_to_one t in
    record {
      before = AllPairs-filter (λ p q. p.0 ≢ q.0) (λ (c : ℕ × ℕ). not (is_between first last c.0)) (all_kept t) all.before;
      behind = AllPairs-filter (λ p q. p.1 ≢ q.1) (λ (c : ℕ × ℕ). not (is_between first last c.0)) (all_kept t) all.behind;
    }
