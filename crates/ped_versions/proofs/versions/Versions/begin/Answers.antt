use Rattle.ped_tree.specs.Views.{program_tree}
use Rattle.ped_versions.proofs.States.{opened_by}
use Rattle.ped_versions.proofs.versions.Versions.begin.Goals as goal

pub returns-clause-opened : goal.returns-clause-opened
returns-clause-opened g c =
    let t = program_tree c.args.new.program in
    opened_by t c.in_ok-text.text c.new.result c.pair_count-tested.result c.in_ok-text.ensures c.new.ensures (c.pair_count-tested.ensures t c.in_ok-graph.ensures.built)
