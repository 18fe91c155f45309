use Rattle.std.proofs.Common.{refl, ◌∙◌}
use Rattle.ped_tree.specs.Grammar.ProgramForms.{first_lines}
use Rattle.ped_valid.specs.ped_parse.specs.ped_blocks.specs.Machine.{nothing_built, take_entries, built_program}
use Rattle.ped_units.specs.Reading.{is_subroutine}
use Rattle.ped_units.specs.Views.{program_unit_of}
use Rattle.ped_units.specs.declared.units.ProgramUnit.{ProgramUnit}
use Rattle.ped_units.proofs.reading.build.Goals as goal

pub returns : goal.returns
returns c all s read =
    let kept = c.in_ok-kept.ensures (is_subroutine s.head) s.entries read.seen in
    let u : ProgramUnit = record { name = c.args.unit.head.name; formals = c.args.unit.head.formals; line = c.args.unit.head.line; program = c.in_ok-program.program } in
    record {
      headed = read.headed (program_unit_of u) (refl, refl, refl);
      tree = c.in_ok-program.ensures.tree ∙ (λ i. built_program (take_entries (read.saved i) nothing_built (kept i)));
      lines = c.in_ok-program.ensures.lines ∙ (λ i. first_lines (read.saved i) (kept i));
    }
