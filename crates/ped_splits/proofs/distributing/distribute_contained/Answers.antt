use Rattle.std.proofs.Common.{◌≡◌, Bool, true, false, IsTrue, ◌↔◌, inl, inr, refl}
use Rattle.ped_tree.specs.Views.{program_tree, stmt_trees, head_of}
use Rattle.ped_rules.specs.ped_steps.specs.declared.rules.Rule.TheVariants.{BoundNotPlain}
use Rattle.ped_splits.proofs.DistributeRules as rules
use Rattle.ped_splits.proofs.DistributeAnswers.{refused}
use Rattle.ped_splits.proofs.distributing.distribute_contained.Goals as goal

not_plain : {P : Type 0} (b : Bool) → b ≡ false → IsTrue b ↔ P → P → ⊥
not_plain true n is p = absurd cc
not_plain false n is p = let f : false ≡ true = is.1 p in absurd cc

so_plain : {P : Type 0} (b : Bool) → b ≡ true → IsTrue b ↔ P → P
so_plain true n is = is.0 refl
so_plain false n is = absurd cc

pub returns-then-not-first : goal.returns-then-not-first
returns-then-not-first g c =
    let t = program_tree c.args.scene.now.tree.now in
    let s = c.args.number in
    let h = head_of c.args.d.now in
    let body = stmt_trees c.args.d.now.body.items in
    refused s t BoundNotPlain s c.against.result c.against.ensures
    (rules.plain_first s t h body c.requires.is c.requires.serial c.requires.contained h.first (inl refl) (not_plain c.in_ok-first.first c.if-not-first.true c.in_ok-first.ensures))

pub returns-then-not-last : goal.returns-then-not-last
returns-then-not-last g c =
    let t = program_tree c.args.scene.now.tree.now in
    let s = c.args.number in
    let h = head_of c.args.d.now in
    let body = stmt_trees c.args.d.now.body.items in
    refused s t BoundNotPlain s c.against-then-not-last.result c.against-then-not-last.ensures
    (rules.plain_first s t h body c.requires.is c.requires.serial c.requires.contained h.last (inr refl) (not_plain c.in_ok-last.last c.if-not-last.true c.in_ok-last.ensures))

pub distribute_plain-requires : goal.distribute_plain-requires
distribute_plain-requires g c = record {
  scene = c.requires.scene;
  is = c.requires.is;
  serial = c.requires.serial;
  contained = c.requires.contained;
  first = so_plain c.in_ok-first.first c.if-not-first.false c.in_ok-first.ensures;
  last = so_plain c.in_ok-last.last c.if-not-last.false c.in_ok-last.ensures;
}
