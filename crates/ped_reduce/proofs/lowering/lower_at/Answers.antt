use Rattle.std.proofs.Common.{inl, subst}
use Rattle.ped_tree.specs.Views.{program_tree}
use Rattle.ped_reduce.specs.CodeLowered.{IsLiveAt}
use Rattle.ped_reduce.proofs.LoweringAnswers.{stays, unlowered}
use Rattle.ped_reduce.proofs.lowering.lower_at.Goals as goal

pub returns-in-Ok-Some-clause-lowers : goal.returns-in-Ok-Some-clause-lowers
returns-in-Ok-Some-clause-lowers g c = inl (subst (IsLiveAt (program_tree c.args.scene.now.tree.now) c.args.number c.args.lowered.now) c.in-Ok-Some.field-0-is c.in-Ok-Some.ensures).0

pub returns-in-Ok-Some-clause-kept : goal.returns-in-Ok-Some-clause-kept
returns-in-Ok-Some-clause-kept g c = (subst (IsLiveAt (program_tree c.args.scene.now.tree.now) c.args.number c.args.lowered.now) c.in-Ok-Some.field-0-is c.in-Ok-Some.ensures).1

pub returns-in-Ok-None-clause-lowers : goal.returns-in-Ok-None-clause-lowers
returns-in-Ok-None-clause-lowers g c = unlowered (program_tree c.args.scene.now.tree.now) c.args.number c.args.lowered.now (subst (IsLiveAt (program_tree c.args.scene.now.tree.now) c.args.number c.args.lowered.now) c.in-Ok-None.field-0-is c.in-Ok-None.ensures)

pub returns-in-Ok-None-clause-kept : goal.returns-in-Ok-None-clause-kept
returns-in-Ok-None-clause-kept g c = stays (program_tree c.args.scene.now.tree.now) c.args.number c.args.lowered.now c.requires.kept
