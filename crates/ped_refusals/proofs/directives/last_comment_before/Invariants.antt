use Rattle.std.proofs.Common.{◌≡◌, ◌&&◌, map, take, nat_lt}
use Rattle.std.specs.List.{list_any}
use Rattle.ped_tree.specs.Grammar.Statement.{Note}
use Rattle.ped_tree.specs.Grammar.StatementViews.{note_of}
use Rattle.ped_refusals.proofs.directives.last_comment_before.Given as goal

abbrev pub invariant-loop-comment : goal.invariant-loop-comment
invariant-loop-comment l = (d : Note) → list_any (λ n. nat_lt d.line n.line && nat_lt n.line l.statement.line) (map note_of (take l.comment-index l.comment-items)) ≡ nat_lt d.line l.last
