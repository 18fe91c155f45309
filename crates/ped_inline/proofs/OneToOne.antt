-- The statements that `inline` keeps stand one to one.
use Rattle.std.proofs.Common.{◌≡◌, ℕ, suc, ◌+◌, ◌-◌, ◌<◌, length, map, get_or, Bool, true, false, refl, sym, ap, ◌∙◌, arith}
use Rattle.std.specs.Prelude.{nat_lt, if◌then◌else◌}
use Rattle.std.specs.List.{range_with_len}
use Rattle.std.proofs.lemmas.Bool.{lt-ltb, ltb-true}
use Rattle.std.proofs.lemmas.List.FromFn.{get_or-map-range_with_len, length-map-range_with_len}
use Rattle.ped_tree.specs.Tree.{ProgramTree}
use Rattle.ped_tree.specs.Numbering.{statements_count}
use Rattle.ped_rules.specs.ped_graph.specs.Keeping.{IsOneToOne}
use Rattle.ped_rules.specs.KeepMaps.{opened_at}
use Rattle.ped_inline.specs.Inlining.{inline_kept}

opened_grows : (l m n : ℕ) → m < n → opened_at l m < opened_at l n
opened_grows l m n less = by (nat_lt m l) (nat_lt n l) refl refl
  where
    by : (a b : Bool) → nat_lt m l ≡ a → nat_lt n l ≡ b → (if nat_lt m l then m else suc m) < (if nat_lt n l then n else suc n)
    by true true e f = let p : (if nat_lt m l then m else suc m) ≡ m = ap (λ (b : Bool). if b then m else suc m) e in let q : (if nat_lt n l then n else suc n) ≡ n = ap (λ (b : Bool). if b then n else suc n) f in omega (arith, p, q, less)
    by true false e f = let p : (if nat_lt m l then m else suc m) ≡ m = ap (λ (b : Bool). if b then m else suc m) e in let q : (if nat_lt n l then n else suc n) ≡ suc n = ap (λ (b : Bool). if b then n else suc n) f in omega (arith, p, q, less)
    by false true e f = let low = ltb-true n l f in let wrong : true ≡ false = sym (lt-ltb m l (omega (arith, low, less))) ∙ e in absurd cc
    by false false e f = let p : (if nat_lt m l then m else suc m) ≡ suc m = ap (λ (b : Bool). if b then m else suc m) e in let q : (if nat_lt n l then n else suc n) ≡ suc n = ap (λ (b : Bool). if b then n else suc n) f in omega (arith, p, q, less)

module _ (l : ℕ) where
  abbrev pair : ℕ → ℕ × ℕ
  pair k = (opened_at l k, k)

  pair_at : (n i : ℕ) (d : ℕ × ℕ) → i < n → get_or (map pair (range_with_len 1 n)) i d ≡ (opened_at l (1 + i), 1 + i)
  pair_at n i d h = get_or-map-range_with_len pair 1 n i (1 + i) d h refl

  all_one_to_one : (n : ℕ) → IsOneToOne (map pair (range_with_len 1 n))
  all_one_to_one n =
      let count : length (map pair (range_with_len 1 n)) ≡ n = length-map-range_with_len pair 1 n in
      record {
        before = λ i j d less within same.
            let first = ap (λ (p : ℕ × ℕ). p.0) (pair_at n i d (omega (arith, less, within, count))) in
            let second = ap (λ (p : ℕ × ℕ). p.0) (pair_at n j d (omega (arith, within, count))) in
            let grows = opened_grows l (1 + i) (1 + j) (omega (arith, less)) in
            omega (arith, first, second, grows, same);
        behind = λ i j d less within same.
            let first = ap (λ (p : ℕ × ℕ). p.1) (pair_at n i d (omega (arith, less, within, count))) in
            let second = ap (λ (p : ℕ × ℕ). p.1) (pair_at n j d (omega (arith, within, count))) in
            omega (arith, first, second, less, same);
      }

pub kept_one_to_one : (t : ProgramTree) (s : ℕ) → IsOneToOne (inline_kept t s)
kept_one_to_one t s = all_one_to_one s (statements_count t.body - 1)
