use Rattle.std.proofs.Common.{◌≡◌, ◌+◌, ◌∷◌, List, true, false, not, map, drop, length, sym, ap, ◌∙◌, arith, vec_len}
use Rattle.std.specs.List.{flat_map}
use Rattle.std.proofs.lemmas.Grind.{common_steps}
use Rattle.ped_tree.specs.Views.{declarator_tree}
use Rattle.ped_tree.specs.declared.declarations.Declarator.{Declarator}
use Rattle.ped_tree.specs.Names.Collecting.{with_names}
use Rattle.ped_valid.specs.ped_symbols.specs.Uses.{type_uses}
use Rattle.ped_valid.specs.ped_symbols.specs.Declarations.{is_dimensioning, names_with}
use Rattle.ped_units.proofs.DimensionedNames.{some_or_none, type_step}
use Rattle.ped_units.proofs.naming.add_typed_arrays.Goals.{then-not-is_empty+in_ok-insert, else-not-is_empty}
use Rattle.ped_units.proofs.naming.add_typed_arrays.Goals as goal

pub loop-d-preserved : goal.loop-d-preserved
loop-d-preserved c =
    let all = c.args.declared.now in
    let i = c.loop-d.d-index in
    let d = c.d-item.result in
    let rest = map declarator_tree (drop (i + 1) all) in
    let whole = with_names c.args.arrays.now (names_with is_dimensioning (flat_map type_uses (map declarator_tree all))) in
    let first : drop i all ≡ d ∷ drop (i + 1) all = grind (arith, common_steps) in
    let before = ap (λ (ds : List Declarator). with_names c.loop-d.arrays (names_with is_dimensioning (flat_map type_uses (map declarator_tree ds)))) (sym first) ∙ c.loop-d.invariant in
    let long : vec_len d.bounds ≡ length d.bounds.items = omega (arith, d.bounds.ok.0) in
    let some = some_or_none d.bounds.items (vec_len d.bounds) long in
    elim c.if-not-is_empty.branch [
      | then-not-is_empty+in_ok-insert w ↦
          type_step c.loop-d.arrays c.if-not-is_empty.arrays whole (declarator_tree d) rest true (some ∙ ap not (sym c.is_empty.ensures ∙ w.if-not-is_empty.true)) (w.arrays-is ∙ w.in_ok-insert.ensures.ok) before
      | else-not-is_empty w ↦ type_step c.loop-d.arrays c.if-not-is_empty.arrays whole (declarator_tree d) rest false (some ∙ ap not (sym c.is_empty.ensures ∙ w.if-not-is_empty.false)) w.arrays-is before
    ]
