use Rattle.ped_tree.specs.Views.{program_tree}
use Rattle.ped_splits.proofs.FuseReaders.{reader_alone, named_rule}
use Rattle.ped_splits.proofs.fusing.escapes_alone.Goals as goal

pub returns : goal.returns
returns g c =
    let t = program_tree c.args.scene.now.tree.now in
    let s = c.args.number in
    named_rule t s c.requires.is c.own_reader.result (reader_alone t s c.requires.none c.own_reader.result c.own_reader.ensures) c.named.result c.named.ensures
