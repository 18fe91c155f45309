use Rattle.std.proofs.Common.{◌≡◌, map, drop}
use Rattle.std.specs.List.{flat_map}
use Rattle.ped_tree.specs.Grammar.Refusal.{earliest, refused_if, Syntax}
use Rattle.ped_tree.specs.Grammar.ProgramRefusals as Spec
use Rattle.ped_tree.specs.Grammar.StatementViews.{note_of}
use Rattle.ped_tree.specs.Grammar.ItemViews.{entry_of}
use Rattle.ped_tree.specs.Grammar.RefusalViews.{found_of}
use Rattle.ped_refusals.specs.OpenContexts.{context_of}
use Rattle.ped_refusals.proofs.directives.at_directives.Given as goal

abbrev pub invariant-loop-directive : goal.invariant-loop-directive
invariant-loop-directive l =
    earliest (found_of l.found) (flat_map (λ d. refused_if (Spec.is_bad_directive (context_of l.fn.context) (entry_of l.fn.entry) d) Syntax d.line) (map note_of (drop l.directive-index l.directive-items))) ≡ earliest (found_of l.fn.found) (flat_map (λ d. refused_if (Spec.is_bad_directive (context_of l.fn.context) (entry_of l.fn.entry) d) Syntax d.line) (map note_of l.directive-items))
