use Rattle.std.proofs.Common.{◌≡◌, ◌++◌, map}
use Rattle.std.specs.Vec.Iter.{into_iter_items}
use Rattle.ped_tree.specs.Views.{stmt_tree}
use Rattle.ped_tree.specs.Grammar.StatementViews.{note_of}
use Rattle.ped_blocks.proofs.Notes.{comments}
use Rattle.ped_blocks.proofs.nesting.push_comments.Given as goal

abbrev pub invariant-loop-comment : goal.invariant-loop-comment
invariant-loop-comment l =
    map stmt_tree l.stmts.items ++ comments (map note_of (into_iter_items l.comment-iterator)) ≡ map stmt_tree l.fn.stmts.items ++ comments (map note_of l.fn.comments)
