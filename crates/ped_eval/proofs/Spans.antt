-- How far the bounds of a DO stand apart.
use Rattle.std.proofs.Common.{◌≡◌, ◌<◌, ◌≤◌, ◌^◌, ℤ, pos, neg_ℤ, ◌+ℤ◌, ◌-ℤ◌, unsigned_abs, true, FitsSigned, to_z, of_z, arith, ◌∙◌}
use Rattle.std.specs.Prelude.{int_le}
use Rattle.std.specs.Int.{w128}
use Rattle.std.proofs.lemmas.Bool.{and_parts}
use Rattle.std.proofs.lemmas.Int.{ints, to_z-of_z}
use Rattle.ped_eval.specs.Loops.{is_bound}

pub bound_is_small : (m : ℤ) → is_bound m ≡ true → unsigned_abs m ≤ 2 ^ 62
bound_is_small m h =
    let p = and_parts (int_le (neg_ℤ (pos (2 ^ 62))) m) (int_le m (pos (2 ^ 62))) h in
    let least = p.0 in
    let greatest = p.1 in
    omega (arith, ints)

module _ (a b s : ℤ) (ha : is_bound a ≡ true) (hb : is_bound b ≡ true) (hs : unsigned_abs s ≤ 2 ^ 31) where
  pub span_is : to_z w128 (of_z w128 (to_z w128 (of_z w128 (to_z w128 (of_z w128 a) -ℤ to_z w128 (of_z w128 b))) +ℤ to_z w128 (of_z w128 s))) ≡ a -ℤ b +ℤ s
  span_is =
      let ka = bound_is_small a ha in
      let kb = bound_is_small b hb in
      let fa : FitsSigned w128 a = omega (arith, ints) in
      let fb : FitsSigned w128 b = omega (arith, ints) in
      let fs : FitsSigned w128 s = omega (arith, ints) in
      let fd : FitsSigned w128 (a -ℤ b) = omega (arith, ints) in
      let fz : FitsSigned w128 (a -ℤ b +ℤ s) = omega (arith, ints) in
      (λ i. to_z w128 (of_z w128 (to_z w128 (of_z w128 (to_z-of_z w128 a fa i -ℤ to_z-of_z w128 b fb i)) +ℤ to_z-of_z w128 s fs i)))
      ∙ (λ i. to_z w128 (of_z w128 (to_z-of_z w128 (a -ℤ b) fd i +ℤ s)))
      ∙ to_z-of_z w128 (a -ℤ b +ℤ s) fz

  pub span_is_small : unsigned_abs (a -ℤ b +ℤ s) < 2 ^ 64
  span_is_small =
      let ka = bound_is_small a ha in
      let kb = bound_is_small b hb in
      omega (arith, ints)
