use Rattle.std.proofs.Common.{◌≡◌, ℕ, List, [], ◌∷◌, map, ap, ◌∙◌}
use Rattle.ped_tree.specs.Grammar.Refusal.{earliest}
use Rattle.ped_tree.specs.Grammar.ProgramRefusals.{at_statement}
use Rattle.ped_tree.specs.Grammar.ItemViews.{entry_of}
use Rattle.ped_tree.specs.Grammar.RefusalViews.{found_of}
use Rattle.ped_refusals.specs.OpenContexts.{context_of}
use Rattle.ped_refusals.proofs.Reaching.{none_left, reached_start, reached_more, reached_end}
use Rattle.ped_refusals.proofs.refusals.first_refusal.Goals as goal

pub loop-entry-init : goal.loop-entry-init
loop-entry-init c =
    reached_start c.args.saved.now (map entry_of c.args.entries.now) (context_of c.at_start-context.result) c.at_start-context.ensures

pub loop-entry-preserved : goal.loop-entry-preserved
loop-entry-preserved c =
    let at : map entry_of c.loop-entry.left.now ≡ entry_of c.in-Some.entry.now ∷ map entry_of c.in-Some.rest.now = ap (map entry_of) c.in-Some.ensures.cases.0 in
    reached_more c.args.saved.now (map entry_of c.args.entries.now) (context_of c.loop-entry.context) (context_of c.in_ok-context.context) (found_of c.loop-entry.found) (found_of c.in_ok-found.found)
    (entry_of c.in-Some.entry.now) (map entry_of c.in-Some.rest.now) (map entry_of c.loop-entry.left.now) at c.loop-entry.invariant
    (c.in_ok-found.ensures ∙ ap (λ (saved : List (List ℕ)). earliest (found_of c.loop-entry.found) (at_statement saved (context_of c.loop-entry.context) (entry_of c.in-Some.entry.now) (map entry_of c.in-Some.rest.now))) c.as_slice.ensures)
    c.in_ok-context.ensures

pub returns : goal.returns
returns c all lines directives =
    let none : c.loop-entry.left.now ≡ [] = none_left c.loop-entry.left.now c.in_default.ensures.cases in
    reached_end c.args.saved.now (map entry_of c.args.entries.now) (context_of c.loop-entry.context) (found_of c.loop-entry.found) (found_of c.at_end.result) (map entry_of c.loop-entry.left.now) all (ap (map entry_of) none) c.loop-entry.invariant (c.at_end.ensures all lines directives) c.requires.saved
