use Rattle.ped_tree.specs.Views.{program_tree, stmt_trees, head_of}
use Rattle.ped_rules.specs.ped_steps.specs.declared.rules.Rule.TheVariants.{IndexEscapes}
use Rattle.ped_splits.proofs.FuseFirst as rules
use Rattle.ped_splits.proofs.FuseAnswers.{refused, loop_of_pair, no_match}
use Rattle.ped_splits.proofs.fusing.refused_unlike.Goals as goal

pub returns-in-Some : goal.returns-in-Some
returns-in-Some g c =
    let t = program_tree c.args.scene.now.tree.now in
    let p = c.args.pair.now in
    let s = p.number in
    refused s t IndexEscapes c.in-Some.statement c.against.result c.against.ensures
    (rules.escape_first s t (head_of p.own.now) (stmt_trees p.own.now.body.items) (loop_of_pair t p c.requires.pair) c.requires.serial c.requires.unshared c.in-Some.statement c.in-Some.ensures)

pub no_neighbour-requires : goal.no_neighbour-requires
no_neighbour-requires g c =
    let t = program_tree c.args.scene.now.tree.now in
    let p = c.args.pair.now in
    record {
      scene = c.requires.scene;
      is = loop_of_pair t p c.requires.pair;
      serial = c.requires.serial;
      unshared = c.requires.unshared;
      contained = c.in_default.ensures;
      nobody = no_match t p c.requires.pair c.requires.unlike;
    }
