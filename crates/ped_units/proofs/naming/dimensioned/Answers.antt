use Rattle.std.proofs.Common.{◌≡◌, ◌+◌, ◌∷◌, ◌≤◌, List, [], map, drop, length, sym, ap, ◌∙◌, arith}
use Rattle.std.proofs.lemmas.List.{drop_all}
use Rattle.std.proofs.lemmas.Grind.{common_steps}
use Rattle.ped_base.specs.Lists.{is_among}
use Rattle.ped_tree.specs.Views.{decl_tree}
use Rattle.ped_tree.specs.declared.declarations.Decl.{Decl}
use Rattle.ped_tree.specs.Names.Collecting.{with_names}
use Rattle.ped_units.specs.Refusals.{dimensioned}
use Rattle.ped_units.proofs.DimensionedNames.{collected_same, decl_step}
use Rattle.ped_units.proofs.naming.dimensioned.Goals as goal

pub loop-decl-preserved : goal.loop-decl-preserved
loop-decl-preserved c =
    let all = c.args.decls.now in
    let i = c.loop-decl.decl-index in
    let first : drop i all ≡ c.decl-item.result ∷ drop (i + 1) all = grind (arith, common_steps) in
    let before = ap (λ (ds : List Decl). with_names c.loop-decl.arrays (dimensioned (map decl_tree ds))) (sym first) ∙ c.loop-decl.invariant in
    decl_step c.loop-decl.arrays c.add_dimensioned.new.arrays (with_names [] (dimensioned (map decl_tree all))) (decl_tree c.decl-item.result) (map decl_tree (drop (i + 1) all)) c.in_ok-add_dimensioned.ensures before

pub returns : goal.returns
returns c x =
    let decls = c.args.decls.now in
    let arrays = c.loop-decl.arrays in
    let ended : length decls ≤ c.loop-decl.decl-index = omega (arith, c.loop-decl-test.false, c.loop-decl.auto.decl-index-end) in
    let all : arrays ≡ with_names [] (dimensioned (map decl_tree decls)) =
    ap (λ (ds : List Decl). with_names arrays (dimensioned (map decl_tree ds))) (sym (drop_all c.loop-decl.decl-index decls ended)) ∙ c.loop-decl.invariant in
    ap (is_among x) all ∙ collected_same (dimensioned (map decl_tree decls)) x
