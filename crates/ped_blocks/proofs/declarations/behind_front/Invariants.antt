use Rattle.std.proofs.Common.{◌≡◌, ◌++◌, map}
use Rattle.std.specs.Vec.Iter.{into_iter_items}
use Rattle.ped_tree.specs.Grammar.ProgramForms.{front_remarks, behind_front}
use Rattle.ped_tree.specs.Views.{decl_tree, stmt_tree}
use Rattle.ped_blocks.specs.Fronts.{decls_of, body_of}
use Rattle.ped_blocks.proofs.declarations.behind_front.Given as goal

abbrev pub invariant-loop-statement : goal.invariant-loop-statement
invariant-loop-statement l = record {
  decls : decls_of (map decl_tree l.decls.items) (map stmt_tree l.body.items) (map stmt_tree (into_iter_items l.statement-iterator)) ≡ map decl_tree l.fn.decls.items ++ front_remarks (map stmt_tree l.fn.statements.items);
  body : body_of (map stmt_tree l.body.items) (map stmt_tree (into_iter_items l.statement-iterator)) ≡ behind_front (map stmt_tree l.fn.statements.items);
}
