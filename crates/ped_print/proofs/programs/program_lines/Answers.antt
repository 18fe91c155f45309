use Rattle.std.proofs.Common.{◌≡◌, ◌++◌, map, ap, ◌∙◌, List, [], None, codes}
use Rattle.std.specs.List.{flat_map}
use Rattle.ped_tree.specs.Printing.{Line, decl_lines, statements_lines, text_lines}
use Rattle.ped_tree.specs.Views.{decl_tree, stmt_trees}
use Rattle.ped_tree.specs.declared.declarations.Decl.{Decl}
use Rattle.ped_tree.specs.declared.statements.Stmt.{Stmt}
use Rattle.ped_print.specs.PrintedLines.{line_of}
use Rattle.ped_print.proofs.programs.program_lines.Goals as goal

-- declarations, statements and END, one behind the other
joined : (decls body end empty first second new : List Line) → empty ≡ [] → first ≡ empty ++ decls → second ≡ first ++ body → new ≡ second ++ end → new ≡ (decls ++ body) ++ end
joined decls body end empty first second new p q r s =
    let begin : first ≡ decls = q ∙ ap (λ (x : List Line). x ++ decls) p in
    cc

pub returns : goal.returns
returns c =
    let program = c.args.program.now in
    let start = map line_of c.new-lines.result.items in
    let first = map line_of c.push_decls.new.lines.items in
    joined (flat_map decl_lines (map decl_tree program.decls.items)) (statements_lines 0 1 (stmt_trees program.body.items)) (text_lines None 0 (codes "END"))
    start first (map line_of c.push_statements.new.lines.items) (map line_of c.push_words.new.lines.items)
    (ap (map line_of) c.new-lines.ensures.items)
    (c.in_ok-push_decls.ensures ∙ ap (λ (d : List Decl). start ++ flat_map decl_lines (map decl_tree d)) c.deref.ensures.value)
    (c.in_ok-push_statements.ensures.lines ∙ ap (λ (s : List Stmt). first ++ statements_lines 0 1 (stmt_trees s)) c.deref-2.ensures.value)
    c.in_ok-push_words.ensures.lines
