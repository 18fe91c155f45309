use Rattle.std.proofs.Common.{◌++◌, [], List, Option, map, sym, ap, ◌∙◌}
use Rattle.std.specs.Prelude.{if◌then◌else◌}
use Rattle.std.specs.List.{flat_map}
use Rattle.ped_tree.specs.Grammar.Refusal.{earliest, first_of}
use Rattle.ped_tree.specs.Grammar.RefusalViews.{found_of}
use Rattle.ped_tree.specs.Grammar.StatementViews.{statement_of}
use Rattle.ped_units.specs.Reading.{is_subroutine}
use Rattle.ped_units.specs.Refusals.{at_call, at_all_directives, at_head, at_subroutine_entry}
use Rattle.ped_units.specs.Views.{unit_entry_of, head_of}
use Rattle.ped_units.specs.declared.items.UnitEntry as items
use Rattle.ped_units.proofs.Earliest.{earliest_twice}
use Rattle.ped_units.proofs.unit_refusals.other_refusal.Goals as goal

pub returns-in-Some : goal.returns-in-Some
returns-in-Some c =
    let es = map unit_entry_of c.args.segment.now.entries.items in
    let at_directives = found_of c.at_directives-found.result in
    earliest_twice (flat_map at_call es) (at_all_directives (statement_of c.in-Some.head.statement)) (flat_map at_subroutine_entry es) (found_of c.in_ok-found.found) at_directives (found_of c.at_subroutine_entries.result)
    (c.in_ok-found.ensures ∙ ap (λ (xs : List items.UnitEntry). first_of (flat_map at_call (map unit_entry_of xs))) c.deref.ensures.value)
    c.at_directives-found.ensures
    (c.at_subroutine_entries.ensures ∙ ap (λ (xs : List items.UnitEntry). earliest at_directives (flat_map at_subroutine_entry (map unit_entry_of xs))) c.deref-in-Some.ensures.value)
    ∙ ap (λ (h : Option items.UnitEntry). first_of (flat_map at_call es ++ (if is_subroutine (head_of h) then at_head (head_of h) ++ flat_map at_subroutine_entry es else []))) (sym c.in-Some.is)
