use Rattle.std.proofs.Common.{◌≡◌, ◌∷◌, ◌+◌, Some, map, drop, length, arith, sym, ap, ◌∙◌, rules, FitsSigned, w64}
use Rattle.std.proofs.lemmas.Int.{to_z-of_z}
use Rattle.std.proofs.lemmas.Grind.{common_steps}
use Rattle.ped_tree.specs.Views.{expr_tree, bound_tree}
use Rattle.ped_symbols.specs.Values.{fixed_value}
use Rattle.ped_symbols.specs.Arrays.{with_dimension, bounds_values}
use Rattle.ped_symbols.proofs.Bounding.{appended, one_more}
use Rattle.ped_symbols.proofs.arrays.bounds_of.Goals as goal

pub loop-bound-preserved : goal.loop-bound-preserved
loop-bound-preserved c =
    let i = c.loop-bound.bound-index in
    let all = c.args.bounds.now in
    let b = c.bound-item.result in
    let consts = c.args.consts.now in
    let found = c.loop-bound.found in
    let rest = bounds_values consts (map bound_tree (drop (i + 1) all)) in
    let first : drop i all ≡ b ∷ drop (i + 1) all = grind (arith, common_steps) in
    let lower : Some c.in_ok-lower.lower ≡ fixed_value consts (expr_tree b.lower) = search rules in
    let upper : Some c.in_ok-upper.upper ≡ fixed_value consts (expr_tree b.upper) = search rules in
    let small_lower : FitsSigned w64 c.in_ok-lower.lower = search rules in
    let small_upper : FitsSigned w64 c.in_ok-upper.upper = search rules in
    let lower_is = simp to_z-of_z at c.with_dimension-found.ensures.lower in
    let upper_is = simp to_z-of_z at c.with_dimension-found.ensures.upper in
    record {
      values = one_more found c.with_dimension-found.result c.in_ok-lower.lower c.in_ok-upper.upper rest lower_is upper_is
          ∙ (λ j. appended found (with_dimension (lower j) (upper j) rest))
          ∙ ap (λ bs. appended found (bounds_values consts (map bound_tree bs))) (sym first)
          ∙ c.loop-bound.invariant.values;
      lower = ap length c.with_dimension-found.ensures.lower ∙ grind (arith, common_steps, c.loop-bound.invariant.lower);
    }
