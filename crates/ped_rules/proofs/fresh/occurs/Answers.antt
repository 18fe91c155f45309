use Rattle.std.proofs.Common.{List, Bool, ◌||◌, map, Option, is_some, sym, ap, ◌∙◌}
use Rattle.std.specs.List.{flat_map}
use Rattle.ped_base.specs.Lists.{is_among}
use Rattle.ped_tree.specs.Views.{decl_tree, program_tree}
use Rattle.ped_tree.specs.declared.declarations.Decl.{Decl}
use Rattle.ped_loop_runs.specs.ped_symbols.specs.declared.symbols.Kind.{Kind}
use Rattle.ped_loop_runs.specs.ped_symbols.specs.Entries.{entry_of}
use Rattle.ped_loop_runs.specs.ped_symbols.specs.Kinds.{Table}
use Rattle.ped_loop_runs.specs.ped_symbols.proofs.RightUseLaws.Found.{found_in_program}
use Rattle.ped_rules.specs.Fresh.{program_name}
use Rattle.ped_rules.proofs.FreshNames.{kind_occurs}
use Rattle.ped_rules.proofs.fresh.occurs.Goals as goal

pub returns-then-is_some : goal.returns-then-is_some
returns-then-is_some c =
    let t = program_tree c.args.program.now in
    let x = c.args.name.now in
    let found = c.kind.ensures ∙ ap (λ (table : Table). entry_of table.kinds x) c.requires ∙ found_in_program t x in
    let among = c.is_some.ensures ∙ ap (λ (k : Option Kind). is_some k) found ∙ kind_occurs t x in
    c.if-is_some.true ∙ ap (λ (b : Bool). b || is_among x (flat_map program_name t.decls)) (sym c.if-is_some.true ∙ among)

pub returns-else-is_some : goal.returns-else-is_some
returns-else-is_some c =
    let t = program_tree c.args.program.now in
    let x = c.args.name.now in
    let found = c.kind.ensures ∙ ap (λ (table : Table). entry_of table.kinds x) c.requires ∙ found_in_program t x in
    let among = c.is_some.ensures ∙ ap (λ (k : Option Kind). is_some k) found ∙ kind_occurs t x in
    c.is_program.ensures ∙ ap (λ (ds : List Decl). is_among x (flat_map program_name (map decl_tree ds))) c.deref.ensures.value
    ∙ ap (λ (b : Bool). b || is_among x (flat_map program_name t.decls)) (sym c.if-is_some.false ∙ among)
