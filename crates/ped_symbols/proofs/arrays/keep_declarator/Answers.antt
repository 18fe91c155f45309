use Rattle.std.proofs.Common.{◌≡◌, ◌∷◌, [], ◌++◌, true, Some, map, length, ap, sym, ◌∙◌, rules, ◌&&◌}
use Rattle.std.specs.Prelude.{nat_le}
use Rattle.std.proofs.lemmas.Result.{on_ok_weaker}
use Rattle.ped_base.specs.Lists.{has_some}
use Rattle.ped_tree.specs.Grammar.LimitNumbers.{most_dimensions}
use Rattle.ped_tree.specs.Views.{bound_tree, declarator_tree}
use Rattle.ped_symbols.specs.Entries.{entry_of}
use Rattle.ped_symbols.specs.Arrays.{bounds_values, arrays_of}
use Rattle.ped_symbols.proofs.Lookups.{kept_alike}
use Rattle.ped_symbols.proofs.Bounding.{known_array}
use Rattle.ped_symbols.proofs.arrays.keep_declarator.Goals as goal

pub returns-in-Some : goal.returns-in-Some
returns-in-Some c =
    let d = c.args.declarator.now in
    let bounds = map bound_tree d.bounds.items in
    let consts = c.args.consts.now in
    let may : (has_some bounds && nat_le (length bounds) most_dimensions) ≡ true = search rules in
    let known : bounds_values consts bounds ≡ Some c.in-Some.bounds = search rules in
    let whole : arrays_of consts (declarator_tree d) ≡ (d.name, c.in-Some.bounds) ∷ [] = known_array consts d.name bounds c.in-Some.bounds may known in
    on_ok_weaker c.keep.result
    (λ e before h x. ap (λ es. entry_of es x) e ∙ kept_alike c.args.arrays.now.entries.entries before d.name c.in-Some.bounds h x ∙ ap (λ more. entry_of (before ++ more) x) (sym whole))
    c.keep.ensures.ok
