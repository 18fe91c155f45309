use Rattle.std.proofs.Common.{sym, ◌∙◌}
use Rattle.ped_tree.specs.Views.{program_tree, stmt_trees, head_of}
use Rattle.ped_rules.specs.ped_steps.specs.declared.rules.Rule.TheVariants.{ParallelState, HasPrivate}
use Rattle.ped_rules.specs.Rules.{is_parallel, has_private}
use Rattle.ped_splits.proofs.FuseFirst as rules
use Rattle.ped_splits.proofs.FuseAnswers.{refused, loop_of_pair, one_passes, none_passes}
use Rattle.ped_splits.proofs.PlainBounds.{not_plain}
use Rattle.ped_splits.proofs.fusing.fuse_pair.Goals as goal

pub returns-then-is_either_parallel : goal.returns-then-is_either_parallel
returns-then-is_either_parallel g c =
    let t = program_tree c.args.scene.now.tree.now in
    let p = c.args.pair.now in
    let s = p.number in
    refused s t ParallelState s c.against.result c.against.ensures
    (rules.state_first s t (head_of p.own.now) (stmt_trees p.own.now.body.items) (loop_of_pair t p c.requires.pair) (one_passes t p c.requires.pair is_parallel (sym c.is_either_parallel.ensures ∙ c.if-is_either_parallel.true)))

pub returns-then-has_either_list : goal.returns-then-has_either_list
returns-then-has_either_list g c =
    let t = program_tree c.args.scene.now.tree.now in
    let p = c.args.pair.now in
    let s = p.number in
    refused s t HasPrivate s c.against-then-has_either_list.result c.against-then-has_either_list.ensures
    (rules.shared_first s t (head_of p.own.now) (stmt_trees p.own.now.body.items) (loop_of_pair t p c.requires.pair) (none_passes t p c.requires.pair is_parallel (sym c.is_either_parallel.ensures ∙ c.if-is_either_parallel.false))
    (one_passes t p c.requires.pair has_private (sym c.has_either_list.ensures ∙ c.if-has_either_list.true)))

pub fuse_alike-requires : goal.fuse_alike-requires
fuse_alike-requires g c =
    let t = program_tree c.args.scene.now.tree.now in
    let p = c.args.pair.now in
    record {
      scene = c.requires.scene;
      pair = c.requires.pair;
      serial = none_passes t p c.requires.pair is_parallel (sym c.is_either_parallel.ensures ∙ c.if-is_either_parallel.false);
      unshared = none_passes t p c.requires.pair has_private (sym c.has_either_list.ensures ∙ c.if-has_either_list.false);
      alike = c.are_alike.ensures.0 c.if-are_alike.true;
    }

pub refused_unlike-requires : goal.refused_unlike-requires
refused_unlike-requires g c =
    let t = program_tree c.args.scene.now.tree.now in
    let p = c.args.pair.now in
    record {
      scene = c.requires.scene;
      pair = c.requires.pair;
      serial = none_passes t p c.requires.pair is_parallel (sym c.is_either_parallel.ensures ∙ c.if-is_either_parallel.false);
      unshared = none_passes t p c.requires.pair has_private (sym c.has_either_list.ensures ∙ c.if-has_either_list.false);
      unlike = not_plain c.are_alike.result c.if-are_alike.false c.are_alike.ensures;
    }
