use Rattle.std.proofs.Common.{sym, ◌∙◌}
use Rattle.ped_tree.specs.Views.{program_tree, stmt_trees, head_of}
use Rattle.ped_rules.specs.ped_steps.specs.declared.rules.Rule.TheVariants.{ParallelState, HasPrivate, IndexEscapes}
use Rattle.ped_rules.specs.Rules.{is_parallel, has_private}
use Rattle.ped_splits.proofs.FuseFirst as rules
use Rattle.ped_splits.proofs.FuseAnswers.{refused, alone_passes, alone_fails, nobody_next}
use Rattle.ped_splits.proofs.Here.{here}
use Rattle.ped_splits.proofs.fusing.refused_alone.Goals as goal

pub returns-then-own : goal.returns-then-own
returns-then-own g c =
    let t = program_tree c.args.scene.now.tree.now in
    let s = c.args.number in
    let h = head_of c.args.own.now in
    let body = stmt_trees c.args.own.now.body.items in
    refused s t ParallelState s c.against.result c.against.ensures (rules.state_first s t h body c.requires.is (alone_passes t s c.requires.none h body c.requires.is is_parallel c.if-own.true))

pub returns-then-has_list : goal.returns-then-has_list
returns-then-has_list g c =
    let t = program_tree c.args.scene.now.tree.now in
    let s = c.args.number in
    let h = head_of c.args.own.now in
    let body = stmt_trees c.args.own.now.body.items in
    refused s t HasPrivate s c.against-then-has_list.result c.against-then-has_list.ensures
    (rules.shared_first s t h body c.requires.is (alone_fails t s c.requires.none h body c.requires.is is_parallel c.if-own.false)
    (alone_passes t s c.requires.none h body c.requires.is has_private (sym c.has_list.ensures ∙ c.if-has_list.true)))

pub escapes_alone-requires : goal.escapes_alone-requires
escapes_alone-requires g c =
    record { scene = c.requires.scene; is = here (program_tree c.args.scene.now.tree.now) c.args.number (head_of c.args.own.now) (stmt_trees c.args.own.now.body.items) c.requires.is; none = c.requires.none }

pub returns-in-Some : goal.returns-in-Some
returns-in-Some g c =
    let t = program_tree c.args.scene.now.tree.now in
    let s = c.args.number in
    let h = head_of c.args.own.now in
    let body = stmt_trees c.args.own.now.body.items in
    refused s t IndexEscapes c.in-Some.statement c.against-in-Some.result c.against-in-Some.ensures
    (rules.escape_first s t h body c.requires.is (alone_fails t s c.requires.none h body c.requires.is is_parallel c.if-own.false)
    (alone_fails t s c.requires.none h body c.requires.is has_private (sym c.has_list.ensures ∙ c.if-has_list.false)) c.in-Some.statement c.in-Some.ensures)

pub no_neighbour-requires : goal.no_neighbour-requires
no_neighbour-requires g c =
    let t = program_tree c.args.scene.now.tree.now in
    let s = c.args.number in
    let h = head_of c.args.own.now in
    let body = stmt_trees c.args.own.now.body.items in
    record {
      scene = c.requires.scene;
      is = c.requires.is;
      serial = alone_fails t s c.requires.none h body c.requires.is is_parallel c.if-own.false;
      unshared = alone_fails t s c.requires.none h body c.requires.is has_private (sym c.has_list.ensures ∙ c.if-has_list.false);
      contained = c.in_default.ensures;
      nobody = nobody_next t s c.requires.none;
    }
