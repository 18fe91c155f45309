use Rattle.std.proofs.Common.{List, Bool, map, ap, subst, ◌∙◌}
use Rattle.ped_tree.specs.Grammar.Items.{Entry}
use Rattle.ped_tree.specs.Grammar.ItemViews.{entry_of}
use Rattle.ped_tree.specs.Grammar.Occurrences.{saved_names}
use Rattle.ped_tree.specs.Grammar.ProgramRefusals.{program_refusals}
use Rattle.ped_tree.specs.Grammar.Refusal.{first_of}
use Rattle.ped_tree.specs.Grammar.RefusalViews.{found_of}
use Rattle.ped_tree.specs.declared.grammar.items.Entry as code
use Rattle.ped_units.specs.Reading.{seen_entries}
use Rattle.ped_units.specs.Refusals.{other_refusals}
use Rattle.ped_units.specs.Seeing.{AreSeen}
use Rattle.ped_units.specs.Views.{unit_entry_of, segment_of}
use Rattle.ped_units.proofs.Earliest.{both_first}
use Rattle.ped_units.proofs.reading.read_unit.Goals as goal

pub returns : goal.returns
returns c all lines directives =
    let s = segment_of c.args.segment in
    let seen = subst (λ (b : Bool). AreSeen b (map unit_entry_of c.args.segment.entries.items) c.in_ok-seen.seen) c.is_headed-in_subroutine.ensures c.in_ok-seen.ensures in
    record {
      headed = c.heading_of-head.ensures;
      seen = seen;
      saved = c.in_ok-saved.ensures ∙ ap (λ (es : List code.Entry). saved_names (map entry_of es)) c.deref.ensures.value ∙ ap saved_names seen.entries;
      first = both_first (other_refusals s) (program_refusals all (seen_entries s)) (found_of c.in-Ok.other) (found_of c.in_ok-first.first) (found_of c.first_of_both.result) c.in-Ok.ensures
          (c.in_ok-first.ensures all lines directives ∙ ap (λ (es : List code.Entry). first_of (program_refusals all (map entry_of es))) c.deref-2.ensures.value ∙ ap (λ (es : List Entry). first_of (program_refusals all es)) seen.entries)
          c.first_of_both.ensures;
    }
