use Rattle.std.proofs.Common.{inl, inr, refl}
use Rattle.ped_tree.specs.Views.{program_tree, stmt_trees, head_of}
use Rattle.ped_rules.specs.ped_steps.specs.declared.rules.Rule.TheVariants.{BoundNotPlain}
use Rattle.ped_splits.proofs.FuseFirst as rules
use Rattle.ped_splits.proofs.FuseAnswers.{refused, loop_of_pair}
use Rattle.ped_splits.proofs.PlainBounds.{not_plain, so_plain}
use Rattle.ped_splits.proofs.Here.{here}
use Rattle.ped_splits.proofs.fusing.fuse_contained.Goals as goal

pub is_plain-requires : goal.is_plain-requires
is_plain-requires g c =
    let t = program_tree c.args.scene.now.tree.now in
    let p = c.args.pair.now in
    record { scene = c.requires.scene; is = here t p.number (head_of p.own.now) (stmt_trees p.own.now.body.items) (loop_of_pair t p c.requires.pair) }

pub is_plain-requires-2 : goal.is_plain-requires-2
is_plain-requires-2 g c =
    let t = program_tree c.args.scene.now.tree.now in
    let p = c.args.pair.now in
    record { scene = c.requires.scene; is = here t p.number (head_of p.own.now) (stmt_trees p.own.now.body.items) (loop_of_pair t p c.requires.pair) }

pub returns-then-not-first : goal.returns-then-not-first
returns-then-not-first g c =
    let t = program_tree c.args.scene.now.tree.now in
    let p = c.args.pair.now in
    let s = p.number in
    let h = head_of p.own.now in
    refused s t BoundNotPlain s c.against.result c.against.ensures
    (rules.plain_first s t h (stmt_trees p.own.now.body.items) (loop_of_pair t p c.requires.pair) c.requires.serial c.requires.unshared c.requires.contained h.first (inl refl) (not_plain c.in_ok-first.first c.if-not-first.true c.in_ok-first.ensures))

pub returns-then-not-last : goal.returns-then-not-last
returns-then-not-last g c =
    let t = program_tree c.args.scene.now.tree.now in
    let p = c.args.pair.now in
    let s = p.number in
    let h = head_of p.own.now in
    refused s t BoundNotPlain s c.against-then-not-last.result c.against-then-not-last.ensures
    (rules.plain_first s t h (stmt_trees p.own.now.body.items) (loop_of_pair t p c.requires.pair) c.requires.serial c.requires.unshared c.requires.contained h.last (inr refl) (not_plain c.in_ok-last.last c.if-not-last.true c.in_ok-last.ensures))

pub fuse_plain-requires : goal.fuse_plain-requires
fuse_plain-requires g c = record {
  scene = c.requires.scene;
  pair = c.requires.pair;
  serial = c.requires.serial;
  unshared = c.requires.unshared;
  alike = c.requires.alike;
  contained = c.requires.contained;
  plain = record {
    first = so_plain c.in_ok-first.first c.if-not-first.false c.in_ok-first.ensures;
    last = so_plain c.in_ok-last.last c.if-not-last.false c.in_ok-last.ensures;
  };
  tree = c.requires.tree;
  lines = c.requires.lines;
}
