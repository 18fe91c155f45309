use Rattle.std.proofs.Common.{◌≡◌, map, drop, nat_lt}
use Rattle.std.specs.List.{list_all}
use Rattle.ped_tree.specs.Grammar.StatementViews.{note_of}
use Rattle.ped_refusals.proofs.refusals.all_behind.Given as goal

abbrev pub invariant-loop-directive : goal.invariant-loop-directive
invariant-loop-directive l = list_all (λ d. nat_lt l.line d.line) (map note_of (drop l.directive-index l.directives)) ≡ list_all (λ d. nat_lt l.line d.line) (map note_of l.directives)
