use Rattle.ped_tree.specs.Views.{program_tree}
use Rattle.ped_parse.specs.ped_printed.proofs.ProgramLaws.PrintedProgram.{read_fits}
use Rattle.ped_symbols.proofs.FewReferences.{few_statements, few_references}
use Rattle.ped_valid.proofs.OneVerdict.{valid_as_read}
use Rattle.ped_valid.proofs.RefusedTexts.{refused_in_reading}
use Rattle.ped_valid.proofs.opening.open_program.Goals as goal

-- src/opening.rt:42:19
pub returns-in_err-program-clause-refused : goal.returns-in_err-program-clause-refused
returns-in_err-program-clause-refused c = refused_in_reading c.args.text.now c.in_err-program.field-0.0 c.from_residual.result c.in_err-program.ensures.refused c.from_residual.ensures.1

-- src/opening.rt:35:1
pub returns-clause-tree : goal.returns-clause-tree
returns-clause-tree c = valid_as_read c.args.text.now (program_tree c.in_ok-program.program) c.in_ok-program.program.lines.items c.in_ok-program.ensures.tree c.in_ok-symbols.ensures.right

-- src/opening.rt:43:19
pub symbols_of-requires : goal.symbols_of-requires
symbols_of-requires c =
    let t = program_tree c.in_ok-program.program in
    let fits = read_fits c.args.text.now t c.in_ok-program.ensures.tree in
    record { statements = few_statements t fits; references = few_references t fits }
