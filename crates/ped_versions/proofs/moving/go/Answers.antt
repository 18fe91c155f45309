use Rattle.ped_tree.specs.Views.{program_tree}
use Rattle.ped_versions.proofs.FlagWays.{few_numbers, same_table, same_held, way_back, flag_way}
use Rattle.ped_versions.proofs.moving.go.Goals as goal

pub set_flag-requires : goal.set_flag-requires
set_flag-requires g c = few_numbers (program_tree c.args.program.now) c.requires.valid

pub returns-in-Flag-clause-symbols : goal.returns-in-Flag-clause-symbols
returns-in-Flag-clause-symbols g c =
    same_table (program_tree c.args.program.now) (program_tree c.set_flag.new.program) c.in-Flag.number c.in-Flag.parallel c.args.symbols.now c.set_flag.ensures c.requires.symbols

pub returns-in-Flag-clause-graph : goal.returns-in-Flag-clause-graph
returns-in-Flag-clause-graph g c =
    same_held (program_tree c.args.program.now) (program_tree c.set_flag.new.program) c.in-Flag.number c.in-Flag.parallel c.args.graph.now c.set_flag.ensures c.requires.graph

pub returns-in-Flag-clause-way : goal.returns-in-Flag-clause-way
returns-in-Flag-clause-way g c =
    let t = program_tree c.args.program.now in
    way_back t (program_tree c.set_flag.new.program) c.in-Flag.number c.in-Flag.parallel c.set_flag.ensures (flag_way c.args.way t c.in-Flag.number c.in-Flag.parallel c.in-Flag.is c.requires.way)
