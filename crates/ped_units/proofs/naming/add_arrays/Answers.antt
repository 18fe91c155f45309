use Rattle.std.proofs.Common.{◌≡◌, ◌+◌, ◌∷◌, List, map, drop, sym, ap, ◌∙◌, arith}
use Rattle.std.specs.List.{flat_map}
use Rattle.std.proofs.lemmas.Grind.{common_steps}
use Rattle.ped_tree.specs.Views.{declarator_tree}
use Rattle.ped_tree.specs.declared.declarations.Declarator.{Declarator}
use Rattle.ped_tree.specs.Names.Collecting.{with_names}
use Rattle.ped_valid.specs.ped_symbols.specs.Uses.{dimension_uses}
use Rattle.ped_valid.specs.ped_symbols.specs.Declarations.{is_dimensioning, names_with}
use Rattle.ped_units.proofs.DimensionedNames.{dimension_step}
use Rattle.ped_units.proofs.naming.add_arrays.Goals as goal

pub loop-d-preserved : goal.loop-d-preserved
loop-d-preserved c =
    let all = c.args.declared.now in
    let i = c.loop-d.d-index in
    let d = c.d-item.result in
    let whole = with_names c.args.arrays.now (names_with is_dimensioning (flat_map dimension_uses (map declarator_tree all))) in
    let first : drop i all ≡ d ∷ drop (i + 1) all = grind (arith, common_steps) in
    let before = ap (λ (ds : List Declarator). with_names c.loop-d.arrays (names_with is_dimensioning (flat_map dimension_uses (map declarator_tree ds)))) (sym first) ∙ c.loop-d.invariant in
    dimension_step c.loop-d.arrays c.insert.new.self whole (declarator_tree d) (map declarator_tree (drop (i + 1) all)) c.in_ok-insert.ensures.ok before
