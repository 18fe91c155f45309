use Rattle.std.proofs.Common.{◌≡◌, ◌↔◌, List, ℕ, IsTrue, nat_eq, bit_and, bit_or, w64, sym, subst, ◌∙◌}
use Rattle.std.specs.Int.{bit_not}
use Rattle.std.specs.Simd.Lanes.{zip2, fold_l}
use Rattle.ped_bits.specs.Words.{word}
use Rattle.ped_bits.proofs.LaneWords.{zip-map, word_and_not, none_decides}
use Rattle.ped_bits.proofs.lanes.is_subset_lanes.Goals as goal

pub returns : goal.returns
returns c =
    let a = c.args.a in
    let b = c.args.b in
    let lanes = zip2 (λ x y. bit_and x (bit_not w64 y)) a b in
    let h = subst (λ (xs : List ℕ). IsTrue (nat_eq (fold_l bit_or 0 xs) 0) ↔ ((j : ℕ) → word lanes j ≡ 0)) (sym (zip-map bit_and (bit_not w64) a b)) (none_decides lanes) in (
      λ t j. sym (word_and_not a b j c.requires) ∙ h.0 t j,
      λ all. h.1 (λ j. word_and_not a b j c.requires ∙ all j),
    )
