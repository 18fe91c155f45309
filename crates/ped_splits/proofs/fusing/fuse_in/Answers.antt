use Rattle.std.proofs.Common.{ℕ, IfOk, subst}
use Rattle.ped_tree.specs.Views.{program_tree}
use Rattle.ped_rules.specs.Steps.{Answers}
use Rattle.ped_splits.specs.Fusing.{fusing}
use Rattle.ped_rules.specs.ped_steps.proofs.Answering.{few_numbers}
use Rattle.ped_splits.proofs.fusing.fuse_in.Goals as goal

pub pair_at-requires : goal.pair_at-requires
pair_at-requires g c = few_numbers (program_tree c.args.scene.now.tree.now) c.requires.scene.valid

pub fuse_pair-requires : goal.fuse_pair-requires
fuse_pair-requires g c = record { scene = c.requires.scene; pair = c.in-Some.ensures.1 }

pub returns-in-Some : goal.returns-in-Some
returns-in-Some g c =
    let t = program_tree c.args.scene.now.tree.now in
    subst (λ (s : ℕ). IfOk c.fuse_pair.result (Answers (fusing s) t)) c.in-Some.ensures.0 c.fuse_pair.ensures
