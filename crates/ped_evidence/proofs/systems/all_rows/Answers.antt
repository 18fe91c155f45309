use Rattle.ped_evidence.proofs.PairLevels.{source_inside, sink_inside, common_inside_source, common_inside_sink}
use Rattle.ped_evidence.proofs.systems.all_rows.Goals as goal

pub add_side-requires-clause-inside : goal.add_side-requires-clause-inside
add_side-requires-clause-inside c = source_inside c.args.pair.now c.requires.pair c.args.common.now c.requires.common c.args.layout.now c.requires.layout

pub add_side-requires-2-clause-inside : goal.add_side-requires-2-clause-inside
add_side-requires-2-clause-inside c = sink_inside c.args.pair.now c.requires.pair c.args.common.now c.requires.common c.args.layout.now c.requires.layout

pub add_shared-requires-clause-source : goal.add_shared-requires-clause-source
add_shared-requires-clause-source c = common_inside_source c.args.pair.now c.requires.pair c.args.common.now c.requires.common c.args.layout.now c.requires.layout

pub add_shared-requires-clause-sink : goal.add_shared-requires-clause-sink
add_shared-requires-clause-sink c = common_inside_sink c.args.pair.now c.requires.pair c.args.common.now c.requires.common c.args.layout.now c.requires.layout

pub add_signs-requires-clause-source : goal.add_signs-requires-clause-source
add_signs-requires-clause-source c = common_inside_source c.args.pair.now c.requires.pair c.args.common.now c.requires.common c.args.layout.now c.requires.layout

pub add_signs-requires-clause-sink : goal.add_signs-requires-clause-sink
add_signs-requires-clause-sink c = common_inside_sink c.args.pair.now c.requires.pair c.args.common.now c.requires.common c.args.layout.now c.requires.layout
