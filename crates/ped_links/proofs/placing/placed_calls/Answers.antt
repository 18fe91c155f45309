use Rattle.std.proofs.Common.{ℕ, List, [], ◌++◌, map, drop, length, ap, ◌∙◌}
use Rattle.std.specs.List.{flat_map}
use Rattle.ped_tree.specs.Views.{decl_tree, stmt_trees}
use Rattle.ped_tree.specs.declared.declarations.Decl.{Decl}
use Rattle.ped_tree.specs.declared.statements.Stmt.{Stmt}
use Rattle.ped_units.specs.ped_valid.specs.ped_symbols.specs.Sites.{decl_sites, stmts_sites}
use Rattle.ped_links.specs.Placing.{private_lines}
use Rattle.ped_links.specs.declared.placing.Found.{Found}
use Rattle.ped_links.proofs.Passed.{private_of_unit}
use Rattle.ped_links.proofs.placing.placed_calls.Goals as goal

pub returns-clause-private : goal.returns-clause-private
returns-clause-private c =
    let unit = c.args.unit.now in
    let lines = unit.program.lines.items in
    let passed = c.pass_declarations.new.self in
    let here = passed.lines.now in
    let before = passed.found.private.items in
    let body = c.deref-3.result.now in
    let passes = c.in_ok-pass_all.ensures [] c.nothing-around.ensures in
    private_of_unit unit.formals lines here (map decl_tree unit.program.decls.items) (stmts_sites (stmt_trees unit.program.body.items)) before c.pass_all.new.walk.found.private.items
    (c.pass_declarations.ensures.lines
    ∙ ap (drop (length (flat_map decl_sites (map decl_tree c.deref-2.result.now)))) c.deref.ensures.value
    ∙ ap (λ (ds : List Decl). drop (length (flat_map decl_sites (map decl_tree ds))) lines) c.deref-2.ensures.value)
    (ap (λ (f : Found). f.private.items) c.pass_declarations.ensures.found ∙ c.new-2.ensures.items)
    (passes.private
    ∙ ap (λ (fs : List (List ℕ)). before ++ private_lines fs here (stmts_sites (stmt_trees body))) c.as_slice.ensures
    ∙ ap (λ (ss : List Stmt). before ++ private_lines unit.formals here (stmts_sites (stmt_trees ss))) c.deref-3.ensures.value)
