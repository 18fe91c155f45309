use Rattle.std.proofs.Common.{◌≡◌, map, drop, true}
use Rattle.std.specs.List.{flat_map}
use Rattle.ped_tree.specs.Grammar.Refusal.{earliest, refused_if, Syntax}
use Rattle.ped_tree.specs.Grammar.RefusalViews.{found_of}
use Rattle.ped_tree.specs.Grammar.StatementViews.{note_of}
use Rattle.ped_units.proofs.unit_refusals.at_notes.Given as goal

abbrev pub invariant-loop-directive : goal.invariant-loop-directive
invariant-loop-directive l = earliest (found_of l.found) (flat_map (λ d. refused_if true Syntax d.line) (map note_of (drop l.directive-index l.directives))) ≡ earliest (found_of l.initial.found) (flat_map (λ d. refused_if true Syntax d.line) (map note_of l.directives))
