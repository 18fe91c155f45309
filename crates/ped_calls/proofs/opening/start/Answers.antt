use Rattle.std.specs.Prelude.{List, ◌++◌, map}
use Rattle.std.specs.List.{flat_map}
use Rattle.std.proofs.Common.{◌∙◌, ap, sym, []}
use Rattle.ped_tree.specs.NamesIn.{first_occurrences}
use Rattle.ped_tree.specs.Views.{decl_tree}
use Rattle.ped_tree.specs.declared.declarations.Decl.{Decl}
use Rattle.ped_links.specs.ped_symbols.specs.Declarations.{program_name}
use Rattle.ped_links.specs.ped_symbols.specs.Kinds.{Table}
use Rattle.ped_links.specs.ped_units.specs.declared.units.ProgramUnit.{ProgramUnit}
use Rattle.ped_calls.proofs.MainSteps.{nothing_yet}
use Rattle.ped_calls.proofs.opening.start.Goals as goal

pub returns-clause-given : goal.returns-clause-given
returns-clause-given c =
    let table = ap (λ (t : Table). first_occurrences [] (map (λ e. e.0) t.kinds ++ flat_map program_name (map decl_tree c.deref.result.now))) (sym c.index-file-0.is) in
    let decls = ap (λ (ds : List Decl). first_occurrences [] (map (λ e. e.0) c.index-file-0.result.kinds ++ flat_map program_name (map decl_tree ds))) c.deref.ensures.value in
    let unit = ap (λ (u : ProgramUnit). first_occurrences [] (map (λ e. e.0) c.index-file-0.result.kinds ++ flat_map program_name (map decl_tree u.program.decls.items))) (sym c.index-file-0-2.is) in
    c.new.ensures.given
    ∙ nothing_yet c.args.file.now.units.now c.args.file.now.tables.now c.index-file-0.result c.index-file-0-2.result c.in_ok-taken.taken c.requires.file.some c.requires.file.tables c.index-file-0.is c.index-file-0-2.is (c.in_ok-taken.ensures ∙ table ∙ decls ∙ unit)
