use Rattle.ped_units.proofs.reading.read_units.Goals as goal

pub returns-in-Err-clause-refused : goal.returns-in-Err-clause-refused
returns-in-Err-clause-refused c = c.of_lines.ensures c.args.text.now c.in-Err.ensures.err
