use Rattle.std.proofs.Common.{◌≡◌, ◌++◌, map}
use Rattle.std.specs.Vec.Iter.{into_iter_items}
use Rattle.ped_tree.specs.Views.{decl_tree}
use Rattle.ped_tree.specs.Grammar.StatementViews.{note_of}
use Rattle.ped_blocks.proofs.Notes.{remarks}
use Rattle.ped_blocks.proofs.declarations.push_remarks.Given as goal

abbrev pub invariant-loop-comment : goal.invariant-loop-comment
invariant-loop-comment l =
    map decl_tree l.decls.items ++ remarks (map note_of (into_iter_items l.comment-iterator)) ≡ map decl_tree l.fn.decls.items ++ remarks (map note_of l.fn.comments)
