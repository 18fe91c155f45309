use Rattle.std.proofs.Common.{◌≡◌, [], ◌∷◌, ◌++◌, ◌+◌, map, take, arith, subst}
use Rattle.std.specs.List.{flat_map}
use Rattle.std.proofs.lemmas.Grind.{common_steps}
use Rattle.ped_tree.specs.Views.{declarator_tree}
use Rattle.ped_symbols.specs.Arrays.{arrays_of}
use Rattle.ped_symbols.specs.Passes.{KnowsArrays}
use Rattle.ped_symbols.proofs.Bounding.{arrays_more}
use Rattle.ped_symbols.proofs.arrays.keep_declarators.Goals as goal

pub loop-declarator-preserved : goal.loop-declarator-preserved
loop-declarator-preserved c = λ before h.
    let i = c.loop-declarator.declarator-index in
    let all = c.args.declarators.now in
    let x = c.declarator-item.result in
    let consts = c.args.consts.now in
    let front : take (i + 1) all ≡ take i all ++ x ∷ [] = grind (arith, common_steps) in
    subst (KnowsArrays c.keep_declarator.new.arrays) (arrays_more before consts (take i all) (take (i + 1) all) x front)
    (c.in_ok-keep_declarator.ensures (before ++ flat_map (arrays_of consts) (map declarator_tree (take i all))) (c.loop-declarator.invariant before h))
